-- Laws of packed fields: digits to bytes and back, the order of bytes and of digits, one field for each code.
-- Assumes nothing.
use mathlib.Core.Path.{◌≡◌, refl, sym, ap, ◌∙◌, subst₂}
use mathlib.Core.Logic.{◌⊎◌, inl, inr}
use mathlib.Core.List.{List, [], ◌∷◌, ◌++◌}
use Prim.Native.Nat.{ℕ, zero, suc, ◌/◌, ◌%◌, ◌≤◌, ◌<◌}
use native.Mathlib.Omega.{arith}
use lib.ListN.{length, get_or, take, drop}
use Rattle.digits.specs.Lists.{All}
use Rattle.digits.specs.Order.{Digits, Below, is_below}
use Rattle.digits.specs.Code.{Formed}
use Rattle.digits.proofs.OrderLaws.{below_nil, below_irrefl, below_asym, below_three, Three, lower, equal, upper, is_below_true, is_below_false}
use Rattle.codes.specs.Code.{IsCode}
use Rattle.codes.specs.Field.{byte_of, gather, field_of, quads, spread, lead}

-- digits of two bits, and digits that are not the separator
abbrev pub Quaternary : Digits → Type 0
Quaternary x = All (λ d. d < 4) x

abbrev Positive : Digits → Type 0
Positive x = All (λ d. 0 < d) x

abbrev pub Bytes : List ℕ → Type 0
Bytes b = All (λ a. a < 256) b

-- four times a number, by clauses
abbrev pub four : ℕ → ℕ
four zero = zero
four (suc n) = suc (suc (suc (suc (four n))))

-- n digits; a missing one is zero
abbrev pub pad : ℕ → Digits → Digits
pad zero x = []
pad (suc n) x = get_or x 0 0 ∷ pad n (drop 1 x)

byte_quads : (a b c d : ℕ) → a < 4 → b < 4 → c < 4 → d < 4 → quads (byte_of a b c d) ≡ a ∷ b ∷ c ∷ d ∷ []
byte_quads a b c d ha hb hc hd =
    let p : byte_of a b c d / 64 ≡ a = omega arith in
    let q : byte_of a b c d / 16 % 4 ≡ b = omega arith in
    let r : byte_of a b c d / 4 % 4 ≡ c = omega arith in
    let s : byte_of a b c d % 4 ≡ d = omega arith in
    cc

pub quads_byte : (b : ℕ) → b < 256 → byte_of (b / 64) (b / 16 % 4) (b / 4 % 4) (b % 4) ≡ b
quads_byte b h = omega arith

pub digit_lt : (x : Digits) (i : ℕ) → Quaternary x → get_or x i 0 < 4
digit_lt [] i a = omega arith
digit_lt (d ∷ x) zero a = a.0
digit_lt (d ∷ x) (suc i) a = digit_lt x i a.1

quaternary_drop : (x : Digits) (i : ℕ) → Quaternary x → Quaternary (drop i x)
quaternary_drop x zero a = a
quaternary_drop [] (suc i) a = tt
quaternary_drop (d ∷ x) (suc i) a = quaternary_drop x i a.1

pub quaternary_take : (x : Digits) (i : ℕ) → Quaternary x → Quaternary (take i x)
quaternary_take x zero a = tt
quaternary_take [] (suc i) a = tt
quaternary_take (d ∷ x) (suc i) a = (a.0, quaternary_take x i a.1)

pad_four : (n : ℕ) (x : Digits)
    → pad (suc (suc (suc (suc n)))) x ≡ get_or x 0 0 ∷ get_or x 1 0 ∷ get_or x 2 0 ∷ get_or x 3 0 ∷ pad n (drop 4 x)
pad_four n [] = refl
pad_four n (a ∷ []) = refl
pad_four n (a ∷ b ∷ []) = refl
pad_four n (a ∷ b ∷ c ∷ []) = refl
pad_four n (a ∷ b ∷ c ∷ d ∷ x) = refl

spread_gather : (n : ℕ) (x : Digits) → Quaternary x → spread (gather n x) ≡ pad (four n) x
spread_gather zero x a = refl
spread_gather (suc n) x a =
    rw (pad_four (four n) x, spread_gather n (drop 4 x) (quaternary_drop x 4 a))
    (ap (λ (l : Digits). l ++ pad (four n) (drop 4 x))
    (byte_quads _ _ _ _ (digit_lt x 0 a) (digit_lt x 1 a) (digit_lt x 2 a) (digit_lt x 3 a)))

pub gather_spread : (b : List ℕ) → Bytes b → gather (length b) (spread b) ≡ b
gather_spread [] a = refl
gather_spread (c ∷ b) a = cc (quads_byte c a.0, gather_spread b a.1)

gather_length : (n : ℕ) (x : Digits) → length (gather n x) ≡ n
gather_length zero x = refl
gather_length (suc n) x = ap suc (gather_length n (drop 4 x))

pub gather_bytes : (n : ℕ) (x : Digits) → Quaternary x → Bytes (gather n x)
gather_bytes zero x a = tt
gather_bytes (suc n) x a =
    (omega (arith, digit_lt x 0 a, digit_lt x 1 a, digit_lt x 2 a, digit_lt x 3 a), gather_bytes n (drop 4 x) (quaternary_drop x 4 a))

lead_pad : (n : ℕ) (x : Digits) → Positive x → length x ≤ n → lead (pad n x) ≡ x
lead_pad zero [] p h = refl
lead_pad zero (d ∷ x) p h = absurd (omega arith)
lead_pad (suc n) [] p h = refl
lead_pad (suc n) (zero ∷ x) p h = absurd (omega arith)
lead_pad (suc n) (suc d ∷ x) p h = ap {B = Digits} (λ l. suc d ∷ l) (lead_pad n x p.1 (omega arith))

pub formed_quaternary : (x : Digits) → Formed 1 3 x → Quaternary x
formed_quaternary [] s = tt
formed_quaternary (a ∷ []) s = (omega arith, tt)
formed_quaternary (a ∷ b ∷ x) s = (omega arith, formed_quaternary (b ∷ x) s.2)

formed_positive : (x : Digits) → Formed 1 3 x → Positive x
formed_positive [] s = tt
formed_positive (a ∷ []) s = (omega arith, tt)
formed_positive (a ∷ b ∷ x) s = (omega arith, formed_positive (b ∷ x) s.2)

pub field_length : (x : Digits) → length (field_of x) ≡ 32
unfolding field_of
field_length x = gather_length 32 x

pub spread_field : (x : Digits) → IsCode x → spread (field_of x) ≡ pad 128 x
unfolding field_of
spread_field x c = spread_gather 32 x (formed_quaternary x c.formed)

-- packed codes read back as the same digits
pub lead_field : (x : Digits) → IsCode x → lead (spread (field_of x)) ≡ x
lead_field x c = ap lead (spread_field x c) ∙ lead_pad 128 x (formed_positive x c.formed) (omega (arith, c.fits))

-- each code has exactly one field: two codes with one field are one code
pub one_field : (x y : Digits) → IsCode x → IsCode y → field_of x ≡ field_of y → x ≡ y
one_field x y c d e = sym (lead_field x c) ∙ ap (λ (b : List ℕ). lead (spread b)) e ∙ lead_field y d

-- the order of the bytes is the order of the digits
abbrev Quads : ℕ → ℕ → ℕ → ℕ → Type 0
Quads a b c d = (a < 4) × (b < 4) × (c < 4) × (d < 4)

quad_below : (a b c d a' b' c' d' : ℕ) (x y : Digits) → Quads a b c d → Quads a' b' c' d'
    → Below (a ∷ b ∷ c ∷ d ∷ x) (a' ∷ b' ∷ c' ∷ d' ∷ y)
    → (byte_of a b c d < byte_of a' b' c' d') ⊎ ((byte_of a b c d ≡ byte_of a' b' c' d') × Below x y)
quad_below a b c d a' b' c' d' x y p q (inl h) = inl (omega arith)
quad_below a b c d a' b' c' d' x y p q (inr (e, inl h)) = inl (omega arith)
quad_below a b c d a' b' c' d' x y p q (inr (e, inr (f, inl h))) = inl (omega arith)
quad_below a b c d a' b' c' d' x y p q (inr (e, inr (f, inr (g, inl h)))) = inl (omega arith)
quad_below a b c d a' b' c' d' x y p q (inr (e, inr (f, inr (g, inr (h, t))))) = inr (omega arith, t)

first_quads : (x : Digits) → Quaternary x → Quads (get_or x 0 0) (get_or x 1 0) (get_or x 2 0) (get_or x 3 0)
first_quads x a = (digit_lt x 0 a, digit_lt x 1 a, digit_lt x 2 a, digit_lt x 3 a)

gather_below : (n : ℕ) (x y : Digits) → Quaternary x → Quaternary y → Below (pad (four n) x) (pad (four n) y)
    → Below (gather n x) (gather n y)
gather_below zero x y a b h = h
gather_below (suc n) x y a b h =
    go
    (quad_below _ _ _ _ _ _ _ _ (pad (four n) (drop 4 x)) (pad (four n) (drop 4 y)) (first_quads x a) (first_quads y b)
    (subst₂ Below (pad_four (four n) x) (pad_four (four n) y) h))
    (gather_below n (drop 4 x) (drop 4 y) (quaternary_drop x 4 a) (quaternary_drop y 4 b))
  where
    B : Digits → ℕ
    B z = byte_of (get_or z 0 0) (get_or z 1 0) (get_or z 2 0) (get_or z 3 0)

    go : (B x < B y) ⊎ ((B x ≡ B y) × Below (pad (four n) (drop 4 x)) (pad (four n) (drop 4 y)))
        → (Below (pad (four n) (drop 4 x)) (pad (four n) (drop 4 y)) → Below (gather n (drop 4 x)) (gather n (drop 4 y)))
        → Below (gather (suc n) x) (gather (suc n) y)
    go (inl k) r = inl k
    go (inr (e, k)) r = inr (e, r k)

pad_below : (n : ℕ) (x y : Digits) → Positive y → length y ≤ n → Below x y → Below (pad n x) (pad n y)
pad_below n x [] p h b = absurd (below_nil x b)
pad_below zero x (d ∷ y) p h b = absurd (omega arith)
pad_below (suc n) [] (d ∷ y) p h b = inl p.0
pad_below (suc n) (a ∷ x) (d ∷ y) p h (inl b) = inl b
pad_below (suc n) (a ∷ x) (d ∷ y) p h (inr (e, b)) = inr (e, pad_below n x y p.1 (omega arith) b)

field_below : (x y : Digits) → IsCode x → IsCode y → Below x y → Below (field_of x) (field_of y)
unfolding field_of
field_below x y c d b =
    gather_below 32 x y (formed_quaternary x c.formed) (formed_quaternary y d.formed)
    (pad_below 128 x y (formed_positive y d.formed) (omega (arith, d.fits)) b)

below_field : (x y : Digits) → IsCode x → IsCode y → Below (field_of x) (field_of y) → Below x y
below_field x y c d b = go (below_three x y)
  where
    go : Three (Below x y) (x ≡ y) (Below y x) → Below x y
    go (lower h) = h
    go (equal e) = absurd (below_irrefl (field_of y) (rw e at b))
    go (upper h) = absurd (below_asym (field_of x) (field_of y) b (field_below y x d c h))

-- a test on two filled fields is the test on their digits
pub is_below_field : (x y : Digits) → IsCode x → IsCode y → is_below (field_of x) (field_of y) ≡ is_below x y
is_below_field x y c d = go (below_three x y)
  where
    go : Three (Below x y) (x ≡ y) (Below y x) → is_below (field_of x) (field_of y) ≡ is_below x y
    go (lower h) = is_below_true (field_of x) (field_of y) (field_below x y c d h) ∙ sym (is_below_true x y h)
    go (equal e) =
        is_below_false (field_of x) (field_of y) (λ b. below_irrefl y (rw e at (below_field x y c d b)))
        ∙ sym (is_below_false x y (λ b. below_irrefl y (rw e at b)))
    go (upper h) =
        is_below_false (field_of x) (field_of y) (λ b. below_asym x y (below_field x y c d b) h)
        ∙ sym (is_below_false x y (λ b. below_asym x y b h))
