-- Laws of decimals: the digits by the last, one digit more, and how many there are. Assumes nothing.
use mathlib.Core.Path.{◌≡◌, refl, ap, ◌∙◌}
use mathlib.Core.Bool.{Bool, true, false, cond}
use mathlib.Core.List.{List, [], ◌∷◌, ◌++◌}
use Prim.Native.Nat.{ℕ, zero, suc, ◌+◌, ◌*◌, ◌/◌, ◌%◌, ◌^◌, ◌≤◌, ◌<◌}
use native.Mathlib.Nat.{pow-suc}
use native.Mathlib.Omega.{arith}
use lib.Dec.{ltb}
use lib.ListN.{length, length-append}
use borrow.Author.Tests.{lt-ltb, le-ltb, ltb-true, ltb-false}
use Rattle.texts.specs.Printed.{digit_byte, decimal_deep, decimal}
use Rattle.texts.specs.Reading.{number_limit}

-- enough fuel is enough
deep_same : (n m x : ℕ) → x ≤ n → x ≤ m → decimal_deep n x ≡ decimal_deep m x
deep_same zero zero x h k = refl
deep_same zero (suc m) x h k = rw (lt-ltb x 10 (omega arith))
deep_same (suc n) zero x h k = rw (lt-ltb x 10 (omega arith))
deep_same (suc n) (suc m) x h k = go (ltb x 10) refl (λ i j. deep_same n m (x / 10) i j)
  where
    go : (s : Bool) → ltb x 10 ≡ s → (x / 10 ≤ n → x / 10 ≤ m → decimal_deep n (x / 10) ≡ decimal_deep m (x / 10))
        → cond s (digit_byte x ∷ []) (decimal_deep n (x / 10) ++ (digit_byte (x % 10) ∷ []))
        ≡ cond s (digit_byte x ∷ []) (decimal_deep m (x / 10) ++ (digit_byte (x % 10) ∷ []))
    go true e same = refl
    go false e same =
        let l = ltb-false x 10 e in
        ap (λ (l : List ℕ). l ++ (digit_byte (x % 10) ∷ [])) (same (omega arith) (omega arith))

-- one digit, and the digits by the last
pub decimal_one : (x : ℕ) → x < 10 → decimal x ≡ digit_byte x ∷ []
unfolding decimal
decimal_one zero h = refl
decimal_one (suc x) h = rw (lt-ltb (suc x) 10 h)

pub decimal_last : (x : ℕ) → 10 ≤ x → decimal x ≡ decimal (x / 10) ++ (digit_byte (x % 10) ∷ [])
unfolding decimal
decimal_last zero h = absurd (omega arith)
decimal_last (suc x) h =
    rw (le-ltb (suc x) 10 h)
    (ap (λ (l : List ℕ). l ++ (digit_byte (suc x % 10) ∷ [])) (deep_same x (suc x / 10) (suc x / 10) (omega arith) (omega arith)))

-- one digit more
pub decimal_longer : (x d : ℕ) → 0 < x → d < 10 → decimal (10 * x + d) ≡ decimal x ++ (digit_byte d ∷ [])
decimal_longer x d h k =
    let q : (10 * x + d) / 10 ≡ x = omega arith in
    let r : (10 * x + d) % 10 ≡ d = omega arith in
    decimal_last (10 * x + d) (omega arith) ∙ rw (q, r)

pub decimal_last_length : (x : ℕ) → 10 ≤ x → length (decimal x) ≡ length (decimal (x / 10)) + 1
decimal_last_length x h = ap length (decimal_last x h) ∙ length-append (decimal (x / 10)) (digit_byte (x % 10) ∷ [])

-- as many digits as the number has places
pub one_length : (x : ℕ) → x < 10 → length (decimal x) ≡ 1
one_length x h = ap length (decimal_one x h)

decimal_length : (n x : ℕ) → x < 10 ^ suc n → length (decimal x) ≤ suc n
decimal_length zero x h = omega (arith, one_length x h)
decimal_length (suc n) x h = go (ltb x 10) refl (λ k. decimal_length n (x / 10) k)
  where
    go : (s : Bool) → ltb x 10 ≡ s → (x / 10 < 10 ^ suc n → length (decimal (x / 10)) ≤ suc n) → length (decimal x) ≤ suc (suc n)
    go true e shorter = omega (arith, one_length x (ltb-true x 10 e))
    go false e shorter =
        let p : 10 ^ suc (suc n) ≡ 10 ^ suc n * 10 = pow-suc 10 (suc n) in
        omega (arith, decimal_last_length x (ltb-false x 10 e), shorter (omega arith))

pub ten_digits : (x : ℕ) → x < number_limit → length (decimal x) ≤ 10
ten_digits x h = decimal_length 9 x (omega arith)
