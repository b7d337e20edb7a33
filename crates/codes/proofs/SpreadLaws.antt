-- Laws of a code spread out in an array: its length, one digit more, a last digit remade, the digits of a field one by one.
-- Assumes nothing.
use mathlib.Core.Path.{◌≡◌, refl, sym, ap, ◌∙◌}
use mathlib.Core.List.{List, [], ◌∷◌, ◌++◌, append-nil, append_assoc}
use Prim.Native.Nat.{ℕ, zero, suc, ◌+◌, ◌-◌, ◌*◌, ◌/◌, ◌%◌, ◌≤◌, ◌<◌, ◌^◌, compare, Ordering}
use native.Mathlib.Numerals.{add-one}
use native.Mathlib.Omega.{arith}
use lib.ListN.{length, take, drop, get_or, set, length-append, drop_of_length-le}
use lib.Seq.{take-suc, take-suc-set, drop-cons, length-take-le}
use Rattle.digits.specs.Order.{Digits}
use Rattle.digits.specs.Between.{remade}
use Rattle.digits.proofs.OrderLaws.{Compared, lt, eq, gt, compared, compare_is}
use Rattle.digits.proofs.BetweenLaws.{remade_append}
use Rattle.codes.specs.declared.spread.Code.{Code}
use Rattle.codes.specs.Field.{quads, spread, lead}
use Rattle.codes.specs.Spread.{digits_of, Held, Fit}

digits_length : (c : Code) → length c.digits ≡ 128 → c.count ≤ 128 → length (digits_of c) ≡ c.count
digits_length c w h = length-take-le c.count c.digits (omega arith)

pub held_is : (c : Code) (x y : Digits) → x ≡ y → Held c x → Held c y
held_is c x y e h = record { digits = h.digits ∙ e; count = h.count ∙ ap length e }

-- one digit stored behind the others
pub held_store : (d : List ℕ) (n digit : ℕ) → n < length d
    → Held (record { digits = set d n digit; count = n + 1 }) (take n d ++ (digit ∷ []))
held_store d n digit h = record {
  digits = rw add-one (take-suc-set d n digit h);
  count = simp length-append (let e = length-take-le n d (omega arith) in omega arith);
}

-- the digits of a list stored one by one
pub stored_next : (d x : List ℕ) (i digit : ℕ) → i < length d → i < length x → digit ≡ get_or x i 0 → take i d ≡ take i x
    → take (i + 1) (set d i digit) ≡ take (i + 1) x
stored_next d x i digit h k e f = rw (add-one, take-suc-set d i digit h, take-suc x i 0 k, f, e) refl

pub stored_all : (d x y : List ℕ) (i : ℕ) → i ≤ length x → take i d ≡ take i x → take i x ≡ y → Held (record { digits = d; count = i }) y
stored_all d x y i h e f = record { digits = e ∙ f; count = sym (ap length (sym f) ∙ length-take-le i x h) }

-- two digits, one after the other
pub held_two : (c b : Code) (x : Digits) (i j : ℕ) → Held b (x ++ (i ∷ [])) → Held c (digits_of b ++ (j ∷ [])) → Held c (x ++ (i ∷ j ∷ []))
held_two c b x i j h k =
    held_is c (digits_of b ++ (j ∷ [])) _ (ap (λ (l : Digits). l ++ (j ∷ [])) h.digits ∙ append_assoc x (i ∷ []) (j ∷ [])) k

-- the last digit taken off and others put in its place
pub held_remade : (f : ℕ → Digits) (c rest made : Code) (digit : ℕ) (z : Digits) → length c.digits ≡ 128 → Fit c
    → digit ≡ get_or c.digits (c.count - 1) 0 → (rest.digits ≡ c.digits) × (rest.count ≡ c.count - 1)
    → f digit ≡ z → Held made (digits_of rest ++ z) → Held made (remade f (digits_of c))
held_remade f c rest made digit z w fit last shorter e h =
    let n : suc (c.count - 1) ≡ c.count = omega (arith, fit.some) in
    let t = take-suc c.digits (c.count - 1) 0 (omega (arith, fit.fits)) in
    let x : digits_of c ≡ digits_of rest ++ (digit ∷ []) = cc (n, t, last, shorter.0, shorter.1) in
    held_is made (digits_of rest ++ z) _
    (ap (λ (l : Digits). digits_of rest ++ l) (sym e) ∙ sym (remade_append f (digits_of rest) digit) ∙ ap (remade f) (sym x)) h

-- what is chosen by the two lengths is chosen by the two counts
pub held_at : (f : Ordering → Digits → Digits → Digits) (left right made : Code) (o : Ordering) → length left.digits ≡ 128
    → length right.digits ≡ 128 → left.count ≤ 128 → right.count ≤ 128 → Compared left.count right.count o
    → Held made (f o (digits_of left) (digits_of right))
    → Held made (f (compare (length (digits_of left)) (length (digits_of right))) (digits_of left) (digits_of right))
held_at f left right made o v w p q k h =
    rw (digits_length left v p, digits_length right w q, compare_is left.count right.count o k) h

-- and where two choices are the same
pub held_else : (f : Ordering → Digits → Digits → Digits) (left right made : Code) → length left.digits ≡ 128
    → length right.digits ≡ 128 → left.count ≤ 128 → right.count ≤ 128 → (left.count < right.count → ⊥)
    → Held made (f Ordering.eq (digits_of left) (digits_of right))
    → Held made (f Ordering.gt (digits_of left) (digits_of right))
    → Held made (f (compare (length (digits_of left)) (length (digits_of right))) (digits_of left) (digits_of right))
held_else f left right made v w p q k e g = go (compare left.count right.count) (compared left.count right.count)
  where
    go : (o : Ordering) → Compared left.count right.count o
        → Held made (f (compare (length (digits_of left)) (length (digits_of right))) (digits_of left) (digits_of right))
    go Ordering.lt (lt h) = absurd (k h)
    go Ordering.eq (eq h) = held_at f left right made Ordering.eq v w p q (eq h) e
    go Ordering.gt (gt h) = held_at f left right made Ordering.gt v w p q (gt h) g

-- the digit at a place of a field: the byte's, at the place's remainder
pub slot_spread : (b : List ℕ) (i k : ℕ) → i < 4 * length b → i % 4 ≡ k → get_or (quads (get_or b (i / 4) 0)) k 0 ≡ get_or (spread b) i 0
slot_spread [] i k h e = absurd (omega arith)
slot_spread (a ∷ b) zero k h e = ap (λ (j : ℕ). get_or (quads a) j 0) (sym e)
slot_spread (a ∷ b) (suc zero) k h e = ap (λ (j : ℕ). get_or (quads a) j 0) (sym e)
slot_spread (a ∷ b) (suc (suc zero)) k h e = ap (λ (j : ℕ). get_or (quads a) j 0) (sym e)
slot_spread (a ∷ b) (suc (suc (suc zero))) k h e = ap (λ (j : ℕ). get_or (quads a) j 0) (sym e)
slot_spread (a ∷ b) (suc (suc (suc (suc i)))) k h e =
    let q : suc (suc (suc (suc i))) / 4 ≡ suc (i / 4) = omega arith in
    ap (λ (j : ℕ). get_or (quads (get_or (a ∷ b) j 0)) k 0) q ∙ slot_spread b i k (omega arith) (omega arith)

-- a byte shifted down to one of its digits
pub shifted_down : (a k : ℕ) → a < 256 → k < 4 → a / 2 ^ (6 - k * 2) % 4 ≡ get_or (quads a) k 0
shifted_down a zero h l = omega arith
shifted_down a (suc zero) h l = refl
shifted_down a (suc (suc zero)) h l = refl
shifted_down a (suc (suc (suc zero))) h l = omega arith
shifted_down a (suc (suc (suc (suc k)))) h l = absurd (omega arith)

pub spread_length : (b : List ℕ) → length (spread b) ≡ 4 * length b
spread_length [] = refl
spread_length (a ∷ b) = omega (arith, spread_length b)

-- the digits up to the first zero, met one by one
lead_cons : (d : ℕ) (x : Digits) → (d ≡ 0 → ⊥) → lead (d ∷ x) ≡ d ∷ lead x
lead_cons zero x h = absurd (h refl)
lead_cons (suc d) x h = refl

abbrev pub Led : Digits → ℕ → Type 0
Led x i = take i x ++ lead (drop i x) ≡ lead x

pub led_next : (x : Digits) (i : ℕ) → i < length x → (get_or x i 0 ≡ 0 → ⊥) → Led x i → Led x (i + 1)
led_next x i h n e =
    let d = get_or x i 0 in
    let p : lead (drop i x) ≡ d ∷ lead (drop (suc i) x) = ap lead (drop-cons x i 0 h) ∙ lead_cons d (drop (suc i) x) n in
    rw (add-one, take-suc x i 0 h, append_assoc (take i x) (d ∷ []) (lead (drop (suc i) x)), ← p) e

pub led_zero : (x : Digits) (i : ℕ) → i < length x → get_or x i 0 ≡ 0 → Led x i → take i x ≡ lead x
led_zero x i h z e =
    let p : lead (drop i x) ≡ [] = ap lead (drop-cons x i 0 h ∙ ap (λ (d : ℕ). d ∷ drop (suc i) x) z) in
    sym (append-nil (take i x)) ∙ ap (λ (l : Digits). take i x ++ l) (sym p) ∙ e

pub led_all : (x : Digits) (i : ℕ) → length x ≤ i → Led x i → take i x ≡ lead x
led_all x i h e =
    sym (append-nil (take i x)) ∙ ap (λ (l : Digits). take i x ++ l) (sym (ap lead (drop_of_length-le x h))) ∙ e
