-- Laws of the digits of a field: a test of the list from the front, of the numbers of its words, and that the two are one.
-- Assumes nothing.
use mathlib.Core.Path.{◌≡◌, refl, sym, ap, ◌∙◌}
use mathlib.Core.Bool.{Bool, true, false, not, cond, ◌&&◌, and-true, and_assoc, and-eq-true_iff}
use mathlib.Core.List.{List, [], ◌∷◌, ◌++◌}
use Prim.Native.Nat.{ℕ, zero, suc, ◌+◌, ◌*◌, ◌/◌, ◌%◌, ◌≤◌, ◌<◌, ◌^◌}
use native.Mathlib.Nat.{zero-mul, zero-add, suc-mul, pow-succ', mul_left_comm, add-mul, mul_assoc}
use native.Mathlib.Omega.{arith}
use lib.Dec.{eqb, leb, eqb-suc-zero}
use lib.ListN.{length, get_or}
use lib.Seq.{take_all, take-add}
use borrow.Author.Tests.{eq-eqb, ne_eqb, eqb-true, lt-leb}
use Rattle.digits.specs.Order.{Digits}
use Rattle.codes.specs.Code.{field_size}
use Rattle.codes.specs.Field.{spread}
use Rattle.codes.specs.Words.{word_at, full, ended, is_packed}
use Rattle.codes.proofs.FieldLaws.{Quaternary, Bytes, four, quads_byte}
use Rattle.codes.proofs.WordLaws.{number, number_lt, part, part_bytes, part_length, part_number}
use Rattle.codes.proofs.DigitLaws.{full_top, full_one, ended_top, ended_one}

-- The tests from the front.

abbrev pub is_zeros : Digits → Bool
is_zeros [] = true
is_zeros (d ∷ x) = eqb d 0 && is_zeros x

-- no digit is zero
abbrev is_firm : Digits → Bool
is_firm [] = true
is_firm (d ∷ x) = is_firm x && not (eqb d 0)

-- digits that are not zero, the last of them 2 or 3, then zeros or nothing
abbrev pub is_closed : Digits → Bool
is_closed [] = false
is_closed (d ∷ x) = cond (is_zeros x) (leb 2 d) (is_closed x && not (eqb d 0))

is_zeros_append : (x y : Digits) → is_zeros (x ++ y) ≡ is_zeros x && is_zeros y
is_zeros_append [] y = refl
is_zeros_append (d ∷ x) y = rw (is_zeros_append x y) (sym (and_assoc (eqb d 0) (is_zeros x) (is_zeros y)))

is_firm_append : (x y : Digits) → is_firm (x ++ y) ≡ is_firm y && is_firm x
is_firm_append [] y = sym (and-true (is_firm y))
is_firm_append (d ∷ x) y = rw (is_firm_append x y) (and_assoc (is_firm y) (is_firm x) (not (eqb d 0)))

pub zeros_open : (x : Digits) → is_zeros x ≡ true → is_closed x ≡ false
zeros_open [] h = refl
zeros_open (d ∷ x) h =
    let p = (and-eq-true_iff (eqb d 0) (is_zeros x)).0 h in
    rw p.1 (lt-leb 2 d (omega (arith, eqb-true d 0 p.0)))

is_closed_append : (x y : Digits) → is_closed (x ++ y) ≡ cond (is_zeros y) (is_closed x) (is_closed y && is_firm x)
is_closed_append [] y = go (is_zeros y) refl (is_closed y) refl
  where
    go : (s : Bool) → is_zeros y ≡ s → (t : Bool) → is_closed y ≡ t → t ≡ cond s false (t && true)
    go true e t f = sym f ∙ zeros_open y e
    go false e true f = refl
    go false e false f = refl
is_closed_append (d ∷ x) y =
    rw (is_zeros_append x y, is_closed_append x y)
    (go (is_zeros x) (is_zeros y) (leb 2 d) (is_closed x) (is_closed y) (is_firm x) (not (eqb d 0)))
  where
    go : (p q l s t f n : Bool) → cond (p && q) l (cond q s (t && f) && n) ≡ cond q (cond p l (s && n)) (t && (f && n))
    go true true l s t f n = refl
    go true false l s t f n = and_assoc t f n
    go false true l s t f n = refl
    go false false l s t f n = and_assoc t f n

-- four parts, from the last to the first
is_closed_four : (x y z w : Digits)
    → is_closed (x ++ y ++ z ++ w)
    ≡ cond (is_zeros w)
    (cond (is_zeros z) (cond (is_zeros y) (is_closed x) (is_closed y && is_firm x)) (is_closed z && (is_firm y && is_firm x)))
    (is_closed w && (is_firm z && (is_firm y && is_firm x)))
is_closed_four x y z w =
    rw (is_closed_append (x ++ y ++ z) w, is_closed_append (x ++ y) z, is_closed_append x y, is_firm_append (x ++ y) z, is_firm_append x y)
    refl

-- The digits of a number.

zero_sum : (a b unit : ℕ) → 0 < unit → eqb (a * unit + b) 0 ≡ eqb a 0 && eqb b 0
zero_sum zero b unit h = rw (zero-mul unit, zero-add b) refl
zero_sum (suc a) b unit h = rw eqb-suc-zero (ne_eqb (suc a * unit + b) 0 (λ z. omega (arith, suc-mul a unit)))

zero_number : (x : Digits) → Quaternary x → eqb (number 4 x) 0 ≡ is_zeros x
unfolding number
zero_number [] h = refl
zero_number (d ∷ x) h =
    let l = number_lt 4 x h.1 in
    rw (zero_sum d (number 4 x) (4 ^ length x) (omega arith), zero_number x h.1) refl

full_number : (x : Digits) → Quaternary x → full (length x) (number 4 x) ≡ is_firm x
unfolding number full
full_number [] h = refl
full_number (d ∷ x) h =
    full_top (length x) d (number 4 x) (number_lt 4 x h.1) ∙ rw (full_number x h.1, full_one d h.0) refl

ended_number : (x : Digits) → Quaternary x → ended (length x) (number 4 x) ≡ is_closed x
unfolding number ended
ended_number [] h = refl
ended_number (d ∷ x) h =
    ended_top (length x) d (number 4 x) (number_lt 4 x h.1)
    ∙ rw (zero_number x h.1, ended_number x h.1, ended_one d h.0, full_one d h.0) refl

-- The digits of bytes.

spread_append : (x y : List ℕ) → spread (x ++ y) ≡ spread x ++ spread y
spread_append [] y = refl
spread_append (a ∷ x) y = rw (spread_append x y)

pub spread_four : (b : List ℕ) → length (spread b) ≡ four (length b)
spread_four [] = refl
spread_four (a ∷ b) = ap (λ n. suc (suc (suc (suc n)))) (spread_four b)

pub spread_quaternary : (b : List ℕ) → Bytes b → Quaternary (spread b)
spread_quaternary [] h = tt
spread_quaternary (a ∷ b) h = (omega arith, (omega arith, (omega arith, (omega arith, spread_quaternary b h.1))))

-- the last digit of a byte
spread_fourth : (b : List ℕ) (i : ℕ) → get_or (spread b) (suc (suc (suc (four i)))) 0 ≡ get_or b i 0 % 4
spread_fourth [] i = refl
spread_fourth (a ∷ b) zero = refl
spread_fourth (a ∷ b) (suc i) = spread_fourth b i

four_power : (n : ℕ) → 256 ^ n ≡ 4 ^ four n
four_power zero = refl
four_power (suc n) =
    rw (
      pow-succ' 256 n,
      four_power n,
      pow-succ' 4 (suc (suc (suc (four n)))),
      pow-succ' 4 (suc (suc (four n))),
      pow-succ' 4 (suc (four n)),
      pow-succ' 4 (four n),
    )
    (omega arith)

joined : (p q r s unit v : ℕ)
    → (64 * p + 16 * q + 4 * r + s) * unit + v
    ≡ p * (4 * (4 * (4 * unit))) + (q * (4 * (4 * unit)) + (r * (4 * unit) + (s * unit + v)))
joined p q r s unit v = simp (add-mul, mul_assoc, mul_left_comm p 4, mul_left_comm q 4, mul_left_comm r 4) (omega arith)

number_spread : (b : List ℕ) → Bytes b → number 4 (spread b) ≡ number 256 b
unfolding number
number_spread [] h = refl
number_spread (a ∷ b) h =
    let n = length (spread b) in
    let e : 4 ^ n ≡ 256 ^ length b = ap (λ (k : ℕ). 4 ^ k) (spread_four b) ∙ sym (four_power (length b)) in
    rw (pow-succ' 4 (suc (suc n)), pow-succ' 4 (suc n), pow-succ' 4 n, e, number_spread b h.1)
    (sym (joined (a / 64) (a / 16 % 4) (a / 4 % 4) (a % 4) (256 ^ length b) (number 256 b))
    ∙ ap (λ (k : ℕ). k * 256 ^ length b + number 256 b) (quads_byte a h.0))

-- The words of a field.

module _ (b : List ℕ) (bytes : Bytes b) (at : ℕ) (h : at + 8 ≤ length b) where
  word_size : length (spread (part b at)) ≡ 32
  word_size = spread_four (part b at) ∙ ap four (part_length b at h)

  word_number : number 4 (spread (part b at)) ≡ word_at b at
  word_number = number_spread (part b at) (part_bytes b at bytes) ∙ part_number b at h

  word_digits : Quaternary (spread (part b at))
  word_digits = spread_quaternary (part b at) (part_bytes b at bytes)

  word_zero : is_zeros (spread (part b at)) ≡ eqb (word_at b at) 0
  word_zero = sym (rw word_number at (zero_number (spread (part b at)) word_digits))

  word_full : is_firm (spread (part b at)) ≡ full 32 (word_at b at)
  word_full = sym (rw (word_size, word_number) at (full_number (spread (part b at)) word_digits))

  word_ended : is_closed (spread (part b at)) ≡ ended 32 (word_at b at)
  word_ended = sym (rw (word_size, word_number) at (ended_number (spread (part b at)) word_digits))

-- a word that is zero has a last digit zero
last_zero : (d : ℕ) (s u v : Bool) → eqb d 0 ≡ s → eqb (d % 4) 0 && cond s u v ≡ cond s u (eqb (d % 4) 0 && v)
last_zero d true u v h = rw (eq-eqb (d % 4) 0 (omega (arith, eqb-true d 0 h))) refl
last_zero d false u v h = refl

module _ (b : List ℕ) (size : length b ≡ field_size) (bytes : Bytes b) where
  spread_parts : spread b ≡ spread (part b 0) ++ spread (part b 8) ++ spread (part b 16) ++ spread (part b 24)
  spread_parts =
      ap spread e
      ∙ rw (
        spread_append (part b 0 ++ part b 8 ++ part b 16) (part b 24),
        spread_append (part b 0 ++ part b 8) (part b 16),
        spread_append (part b 0) (part b 8),
      ) refl
    where
      e : b ≡ part b 0 ++ part b 8 ++ part b 16 ++ part b 24
      e =
          sym (take_all 32 b (omega arith)) ∙ take-add 24 8 b
          ∙ ap (λ l. l ++ part b 24) (take-add 16 8 b ∙ ap (λ l. l ++ part b 16) (take-add 8 8 b))

  last_digit : get_or (spread b) 127 0 ≡ word_at b 24 % 4
  last_digit = spread_fourth b 31 ∙ omega arith

  pub is_packed_closed : is_packed (word_at b 0) (word_at b 8) (word_at b 16) (word_at b 24)
      ≡ eqb (get_or (spread b) 127 0) 0 && is_closed (spread b)
  is_packed_closed =
      let zero = word_zero b bytes in
      let firm = word_full b bytes in
      let shut = word_ended b bytes in
      rw (
        last_digit,
        spread_parts,
        is_closed_four (spread (part b 0)) (spread (part b 8)) (spread (part b 16)) (spread (part b 24)),
        zero 8 (omega arith),
        zero 16 (omega arith),
        zero 24 (omega arith),
        firm 0 (omega arith),
        firm 8 (omega arith),
        firm 16 (omega arith),
        shut 0 (omega arith),
        shut 8 (omega arith),
        shut 16 (omega arith),
        shut 24 (omega arith),
      )
      (sym (last_zero (word_at b 24) (eqb (word_at b 24) 0) _ _ refl))
