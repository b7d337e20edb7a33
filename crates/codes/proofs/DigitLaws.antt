-- Laws of the digits of a number to the base four: the highest taken off, those that are zero by one mask, the end of a code by them.
-- Assumes nothing.
use mathlib.Core.Path.{◌≡◌, refl, sym, ap, ◌∙◌}
use mathlib.Core.Bool.{Bool, true, false, not, cond, ◌&&◌, and_assoc, and-false}
use Prim.Native.Nat.{ℕ, zero, suc, ◌+◌, ◌*◌, ◌-◌, ◌/◌, ◌%◌, ◌≤◌, ◌<◌, ◌^◌, max}
use native.Mathlib.Nat.{pow-succ', mul_left_comm}
use native.Mathlib.Omega.{arith}
use lib.Bits.{bit_and, bit_or, and_step, or_step, or_shr, and_zero_r, and_zero_l, and_le_r, and_mask, and_self, and_block}
use lib.Dec.{eqb, leb, ltb}
use borrow.Author.Tests.{eq-eqb, ne_eqb, eqb-true, eqb-false, leb-true, leb-false, lt-ltb, le-ltb}
use Rattle.codes.specs.Words.{blanks, full, ended}

-- The highest digit d of a number, above m digits l.

top_low : (m d l : ℕ) → (d * 4 ^ suc m + l) % 4 ≡ l % 4
top_low m d l = rw (pow-succ' 4 m, mul_left_comm d 4 (4 ^ m)) (omega arith)

top_rest : (m d l : ℕ) → (d * 4 ^ suc m + l) / 4 ≡ d * 4 ^ m + l / 4
top_rest m d l = rw (pow-succ' 4 m, mul_left_comm d 4 (4 ^ m)) (omega arith)

rest_lt : (m l : ℕ) → l < 4 ^ suc m → l / 4 < 4 ^ m
rest_lt m l h = let k = rw (pow-succ' 4 m) at h in omega arith

and_cond : (s a b : Bool) → cond s false (a && b) ≡ cond s false a && b
and_cond true a b = refl
and_cond false a b = refl

pub full_top : (m d l : ℕ) → l < 4 ^ m → full (suc m) (d * 4 ^ m + l) ≡ full m l && full 1 d
unfolding full
full_top zero d l k =
    let e : d * 1 + l ≡ d = omega arith in
    rw e refl
full_top (suc m) d l k =
    rw (top_low m d l, top_rest m d l, full_top m d (l / 4) (rest_lt m l k)) (and_cond (eqb (l % 4) 0) (full m (l / 4)) (full 1 d))

zero_alike : (l : ℕ) (s : Bool) → l % 4 ≡ 0 → eqb l 0 ≡ s → eqb (l / 4) 0 ≡ s
zero_alike l true z h = eq-eqb (l / 4) 0 (omega (arith, eqb-true l 0 h))
zero_alike l false z h = ne_eqb (l / 4) 0 (λ w. eqb-false l 0 h (omega arith))

pub ended_top : (m d l : ℕ) → l < 4 ^ m → ended (suc m) (d * 4 ^ m + l) ≡ cond (eqb l 0) (ended 1 d) (ended m l && full 1 d)
unfolding ended
ended_top zero d l k =
    let z : l ≡ 0 = omega arith in
    let e : d * 1 + l ≡ d = omega arith in
    rw (e, z) refl
ended_top (suc m) d l k =
    let g = rest_lt m l k in
    rw (top_low m d l, top_rest m d l) (go (eqb (l % 4) 0) refl (full_top m d (l / 4) g) (ended_top m d (l / 4) g))
  where
    -- the lowest digit is zero, or the code ends with it
    go : (s : Bool) → eqb (l % 4) 0 ≡ s
        → full (suc m) (d * 4 ^ m + l / 4) ≡ full m (l / 4) && full 1 d
        → ended (suc m) (d * 4 ^ m + l / 4) ≡ cond (eqb (l / 4) 0) (ended 1 d) (ended m (l / 4) && full 1 d)
        → cond s (ended (suc m) (d * 4 ^ m + l / 4)) (leb 2 (l % 4) && full (suc m) (d * 4 ^ m + l / 4))
        ≡ cond (eqb l 0) (ended 1 d) (cond s (ended m (l / 4)) (leb 2 (l % 4) && full m (l / 4)) && full 1 d)
    go true e f g = rw (zero_alike l (eqb l 0) (eqb-true (l % 4) 0 e) refl) at g
    go false e f g =
        rw (ne_eqb l 0 (λ z. eqb-false (l % 4) 0 e (omega arith)), f) (sym (and_assoc (leb 2 (l % 4)) (full m (l / 4)) (full 1 d)))

-- one digit
pub full_one : (d : ℕ) → d < 4 → full 1 d ≡ not (eqb d 0)
unfolding full
full_one zero h = refl
full_one (suc zero) h = refl
full_one (suc (suc zero)) h = refl
full_one (suc (suc (suc zero))) h = refl
full_one (suc (suc (suc (suc d)))) h = absurd (omega arith)

pub ended_one : (d : ℕ) → d < 4 → ended 1 d ≡ leb 2 d
unfolding ended full
ended_one zero h = refl
ended_one (suc zero) h = refl
ended_one (suc (suc zero)) h = refl
ended_one (suc (suc (suc zero))) h = refl
ended_one (suc (suc (suc (suc d)))) h = absurd (omega arith)

-- The digits that are zero, by one mask.

-- a one in each of the n lowest digits
abbrev ones : ℕ → ℕ
ones zero = 0
ones (suc n) = ones n * 4 + 1

-- a digit is odd here where it is not zero there
abbrev met : ℕ → ℕ
met v = bit_or v (v / 2)

met_rest : (v : ℕ) → met v / 4 ≡ met (v / 4)
met_rest v = or_shr v (v / 2) 2 ∙ ap (λ (k : ℕ). bit_or (v / 4) k) (omega arith)

met_odd : (v : ℕ) → met v % 2 ≡ max (v % 2) (v / 2 % 2)
met_odd v = rw (or_step v (v / 2)) (omega arith)

masked : (a m : ℕ) → bit_and a (m * 4 + 1) ≡ bit_and (a / 4) m * 4 + a % 2
masked a m =
    let e : (m * 4 + 1) / 2 ≡ m * 2 = omega arith in
    let o : (m * 4 + 1) % 2 ≡ 1 = omega arith in
    let f : m * 2 / 2 ≡ m = omega arith in
    let z : m * 2 % 2 ≡ 0 = omega arith in
    let q : a / 2 / 2 ≡ a / 4 = omega arith in
    rw (and_step a (m * 4 + 1), e, o, and_step (a / 2) (m * 2), f, z, q) (omega arith)

-- the larger of a digit's two bits
larger : (a b d : ℕ) (s : Bool) → a < 2 → b < 2 → d ≡ a + 2 * b → eqb d 0 ≡ s → max a b ≡ cond s 0 1
larger a b d true h k e f = omega (arith, eqb-true d 0 f)
larger a b d false h k e f = omega (arith, eqb-false d 0 f)

larger_bit : (v : ℕ) → max (v % 2) (v / 2 % 2) ≡ cond (eqb (v % 4) 0) 0 1
larger_bit v = larger (v % 2) (v / 2 % 2) (v % 4) (eqb (v % 4) 0) (omega arith) (omega arith) (omega arith) refl

blank_step : (w b m : ℕ) (s : Bool) → b ≤ w → m ≡ cond s 0 1 → (w * 4 + 1 - (b * 4 + m)) * 3 ≡ (w - b) * 3 * 4 + cond s 3 0
blank_step w b m true h e = omega arith
blank_step w b m false h e = omega arith

pub blanks_mask : (n v : ℕ) → (ones n - bit_and (met v) (ones n)) * 3 ≡ blanks n v
unfolding blanks
blanks_mask zero v = rw (and_zero_r (met v)) refl
blanks_mask (suc n) v =
    rw (masked (met v) (ones n), met_rest v, ← blanks_mask n (v / 4))
    (blank_step (ones n) (bit_and (met (v / 4)) (ones n)) (met v % 2) (eqb (v % 4) 0) (and_le_r (met (v / 4)) (ones n))
    (met_odd v ∙ larger_bit v))

pub blanks_full : (n v : ℕ) → eqb (blanks n v) 0 ≡ full n v
unfolding blanks full
blanks_full zero v = refl
blanks_full (suc n) v = go (eqb (v % 4) 0) (blanks n (v / 4)) (full n (v / 4)) (blanks_full n (v / 4))
  where
    go : (s : Bool) (z : ℕ) (t : Bool) → eqb z 0 ≡ t → eqb (z * 4 + cond s 3 0) 0 ≡ cond s false t
    go true z t e = ne_eqb (z * 4 + 3) 0 (λ h. omega arith)
    go false z true e = eq-eqb (z * 4 + 0) 0 (omega (arith, eqb-true z 0 e))
    go false z false e = ne_eqb (z * 4 + 0) 0 (λ h. eqb-false z 0 e (omega arith))

-- there is room for one more, save where all digits are zero
pub blanks_lt : (n v : ℕ) → blanks n v < 4 ^ n
unfolding blanks
blanks_lt zero v = omega arith
blanks_lt (suc n) v = rw (pow-succ' 4 n) (go (eqb (v % 4) 0) (blanks_lt n (v / 4)))
  where
    go : (s : Bool) → blanks n (v / 4) < 4 ^ n → blanks n (v / 4) * 4 + cond s 3 0 < 4 * 4 ^ n
    go true h = omega arith
    go false h = omega arith

pub blanks_some : (n v : ℕ) → v < 4 ^ n → (v ≡ 0 → ⊥) → blanks n v + 1 < 4 ^ n
unfolding blanks
blanks_some zero v h k = absurd (k (omega arith))
blanks_some (suc n) v h k =
    rw (pow-succ' 4 n) (go (eqb (v % 4) 0) refl (blanks_lt n (v / 4)) (λ z. blanks_some n (v / 4) (rest_lt n v h) z))
  where
    go : (s : Bool) → eqb (v % 4) 0 ≡ s → blanks n (v / 4) < 4 ^ n → ((v / 4 ≡ 0 → ⊥) → blanks n (v / 4) + 1 < 4 ^ n)
        → blanks n (v / 4) * 4 + cond s 3 0 + 1 < 4 * 4 ^ n
    go true e l f =
        let z : v % 4 ≡ 0 = eqb-true (v % 4) 0 e in
        let g = f (λ (w : v / 4 ≡ 0). k (omega arith)) in
        omega arith
    go false e l f = omega arith

-- The word in which a code ends, by its zeros.

-- the zeros are the lowest digits, and the digit above them is 2 or 3
abbrev is_end : ℕ → ℕ → Bool
is_end v z = eqb (bit_and z (z + 1)) 0 && not (eqb (bit_and (v / 2) (z + 1)) 0)

four_zero : (x : ℕ) → eqb (x * 4 + 0) 0 ≡ eqb x 0
four_zero x = go (eqb x 0) refl
  where
    go : (s : Bool) → eqb x 0 ≡ s → eqb (x * 4 + 0) 0 ≡ s
    go true e = eq-eqb (x * 4 + 0) 0 (omega (arith, eqb-true x 0 e))
    go false e = ne_eqb (x * 4 + 0) 0 (λ h. eqb-false x 0 e (omega arith))

-- below a digit that is zero nothing changes
ends_below : (v z : ℕ) → v % 4 ≡ 0 → is_end v (z * 4 + 3) ≡ is_end (v / 4) z
ends_below v z h =
    let a : z * 4 + 3 + 1 ≡ (z + 1) * 4 + 0 = omega arith in
    let b : v / 2 ≡ v / 4 / 2 * 4 + v / 2 % 4 = omega arith in
    let p : bit_and (z * 4 + 3) ((z + 1) * 4 + 0) ≡ bit_and z (z + 1) * 4 + 0 = and_block 2 z (z + 1) 3 0 (omega arith) (omega arith) in
    let q : bit_and (v / 2) ((z + 1) * 4 + 0) ≡ bit_and (v / 4 / 2) (z + 1) * 4 + 0 =
    ap (λ (k : ℕ). bit_and k ((z + 1) * 4 + 0)) b
    ∙ and_block 2 (v / 4 / 2) (z + 1) (v / 2 % 4) 0 (omega arith) (omega arith)
    ∙ ap (λ (k : ℕ). bit_and (v / 4 / 2) (z + 1) * 4 + k) (and_zero_r (v / 2 % 4)) in
    rw (a, p, q, four_zero (bit_and z (z + 1)), four_zero (bit_and (v / 4 / 2) (z + 1))) refl

-- a digit that is not zero ends the code, where it is 2 or 3 and none above it is zero
ends_here : (v z : ℕ) (t : Bool) → eqb z 0 ≡ t → is_end v (z * 4 + 0) ≡ leb 2 (v % 4) && t
ends_here v z true e =
    let h : z ≡ 0 = eqb-true z 0 e in
    let a : bit_and (v / 2) 1 ≡ v / 2 % 2 = and_mask (v / 2) 1 in
    rw (h, a) (go (leb 2 (v % 4)) refl)
  where
    go : (s : Bool) → leb 2 (v % 4) ≡ s → not (eqb (v / 2 % 2) 0) ≡ s && true
    go true f = let k : 2 ≤ v % 4 = leb-true 2 (v % 4) f in rw (ne_eqb (v / 2 % 2) 0 (λ h. omega arith)) refl
    go false f = let k : v % 4 < 2 = leb-false 2 (v % 4) f in rw (eq-eqb (v / 2 % 2) 0 (omega arith)) refl
ends_here v z false e =
    let p : bit_and (z * 4 + 0) (z * 4 + 0 + 1) ≡ z * 4 + 0 =
    ap (λ (k : ℕ). bit_and (z * 4 + 0) k) (let f : z * 4 + 0 + 1 ≡ z * 4 + 1 = omega arith in f)
    ∙ and_block 2 z z 0 1 (omega arith) (omega arith)
    ∙ ap (λ (k : ℕ). k * 4 + 0) (and_self z) in
    rw (p, four_zero z, e) (sym (and-false (leb 2 (v % 4))))

ended_blanks : (n v : ℕ) → v < 4 ^ n → is_end v (blanks n v) ≡ ended n v
unfolding blanks ended
ended_blanks zero v h =
    let z : v ≡ 0 = omega arith in
    rw z refl
ended_blanks (suc n) v h =
    go (eqb (v % 4) 0) refl (ended_blanks n (v / 4) (rest_lt n v h))
    (ends_here v (blanks n (v / 4)) (full n (v / 4)) (blanks_full n (v / 4)))
  where
    go : (s : Bool) → eqb (v % 4) 0 ≡ s → is_end (v / 4) (blanks n (v / 4)) ≡ ended n (v / 4)
        → is_end v (blanks n (v / 4) * 4 + 0) ≡ leb 2 (v % 4) && full n (v / 4)
        → is_end v (blanks n (v / 4) * 4 + cond s 3 0) ≡ cond s (ended n (v / 4)) (leb 2 (v % 4) && full n (v / 4))
    go true e f g = ends_below v (blanks n (v / 4)) (eqb-true (v % 4) 0 e) ∙ f
    go false e f g = g

-- no code ends where all digits are zero
pub ended_zero : (n v : ℕ) → v ≡ 0 → false ≡ ended n v
unfolding ended
ended_zero zero v e = refl
ended_zero (suc n) v e = rw (eq-eqb (v % 4) 0 (omega arith)) (ended_zero n (v / 4) (omega arith))

-- a code ends in a word, by the two tests one after the other
module _ (v z : ℕ) (h : v < 2 ^ 64) (e : z ≡ blanks 32 v) where
  by_tests : is_end v z ≡ ended 32 v
  by_tests = rw e (ended_blanks 32 v h)

  pub ended_low : bit_and z (z + 1) ≡ 0 → not (eqb (bit_and (v / 2) (z + 1)) 0) ≡ ended 32 v
  ended_low f = rw (eq-eqb (bit_and z (z + 1)) 0 f) at by_tests

  pub ended_apart : (bit_and z (z + 1) ≡ 0 → ⊥) → false ≡ ended 32 v
  ended_apart f = rw (ne_eqb (bit_and z (z + 1)) 0 f) at by_tests

-- where a code ends in a word, the lowest digit is zero exactly where any is
low_blank : (n v : ℕ) → (ltb 0 (blanks n v) && ended n v) ≡ (eqb (v % 4) 0 && ended n v)
unfolding blanks ended
low_blank zero v = sym (and-false (eqb (v % 4) 0))
low_blank (suc n) v = go (eqb (v % 4) 0) (blanks n (v / 4)) (full n (v / 4)) (blanks_full n (v / 4))
  where
    go : (s : Bool) (z : ℕ) (t : Bool) → eqb z 0 ≡ t
        → (ltb 0 (z * 4 + cond s 3 0) && cond s (ended n (v / 4)) (leb 2 (v % 4) && t))
        ≡ (s && cond s (ended n (v / 4)) (leb 2 (v % 4) && t))
    go true z t e = rw (lt-ltb 0 (z * 4 + 3) (omega arith)) refl
    go false z true e = rw (le-ltb 0 (z * 4 + 0) (omega (arith, eqb-true z 0 e))) refl
    go false z false e = rw (and-false (leb 2 (v % 4))) (and-false (ltb 0 (z * 4 + 0)))

pub last_blank : (n v : ℕ) (t : Bool) → (ltb 0 (blanks n v) && (ended n v && t)) ≡ (eqb (v % 4) 0 && (ended n v && t))
last_blank n v t =
    sym (and_assoc (ltb 0 (blanks n v)) (ended n v) t)
    ∙ ap (λ (s : Bool). s && t) (low_blank n v)
    ∙ and_assoc (eqb (v % 4) 0) (ended n v) t

-- The tests as the code makes them.

-- no digit is zero where the mask of those that are not is whole
mask_whole : (w x z : ℕ) (t : Bool) → x ≤ w → (w - x) * 3 ≡ z → eqb z 0 ≡ t → eqb x w ≡ t
mask_whole w x z true h e f = eq-eqb x w (omega (arith, eqb-true z 0 f))
mask_whole w x z false h e f = ne_eqb x w (λ k. eqb-false z 0 f (omega arith))

pub full_mask : (v : ℕ) → eqb (bit_and (bit_or v (v / 2)) 6148914691236517205) 6148914691236517205 ≡ full 32 v
full_mask v =
    mask_whole 6148914691236517205 (bit_and (met v) 6148914691236517205) (blanks 32 v) (full 32 v)
    (and_le_r (met v) 6148914691236517205) (blanks_mask 32 v) (blanks_full 32 v)

-- one more than the zeros of a word that is zero is no number of 64 bits
pub end_mask : (v z : ℕ) → v < 2 ^ 64 → z ≡ blanks 32 v
    → (eqb (bit_and z ((z + 1) % 18446744073709551616)) 0 && not (eqb (bit_and (v / 2) ((z + 1) % 18446744073709551616)) 0)) ≡ ended 32 v
end_mask v z h e = go (eqb v 0) refl
  where
    go : (s : Bool) → eqb v 0 ≡ s
        → (eqb (bit_and z ((z + 1) % 18446744073709551616)) 0 && not (eqb (bit_and (v / 2) ((z + 1) % 18446744073709551616)) 0))
        ≡ ended 32 v
    go false f =
        let k : z + 1 < 18446744073709551616 = omega (arith, e, blanks_some 32 v h (eqb-false v 0 f)) in
        let m : (z + 1) % 18446744073709551616 ≡ z + 1 = omega arith in
        rw (m, e) (ended_blanks 32 v h)
    go true f =
        let n : v ≡ 0 = eqb-true v 0 f in
        let m : v / 2 ≡ 0 = omega arith in
        rw (m, and_zero_l ((z + 1) % 18446744073709551616), and-false (eqb (bit_and z ((z + 1) % 18446744073709551616)) 0))
        (ended_zero 32 v n)

pub blanks_wrap : (v : ℕ) → (6148914691236517205 - bit_and (bit_or v (v / 2)) 6148914691236517205) * 3 % 18446744073709551616 ≡ blanks 32 v
blanks_wrap v = omega (arith, blanks_mask 32 v, blanks_lt 32 v)

pub mask_fits : (v : ℕ) → bit_and (bit_or v (v / 2)) 6148914691236517205 ≤ 6148914691236517205
mask_fits v = and_le_r (met v) 6148914691236517205

pub ruleset blank = (blanks_wrap, mask_fits)
