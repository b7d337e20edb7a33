-- Laws of the test for a code: by its last digit and those before it.
-- Assumes nothing.
use mathlib.Core.Path.{◌≡◌, refl, sym, ap, ◌∙◌}
use mathlib.Core.Bool.{Bool, true, false, ◌&&◌, and_assoc, and-true, and-false}
use mathlib.Core.List.{[], ◌∷◌, ◌++◌}
use Prim.Native.Nat.{ℕ, ◌≤◌, ◌<◌}
use native.Mathlib.Omega.{arith}
use lib.Dec.{T, ltb}
use lib.ListN.{length}
use borrow.Author.Tests.{le-leb, lt-leb}
use Rattle.std.specs.List.{list_all}
use Rattle.digits.specs.Order.{Digits}
use Rattle.digits.specs.Code.{is_formed}
use Rattle.digits.proofs.CodeLaws.{is_within_gives, gives_is_within}
use Rattle.codes.specs.Code.{longest, IsCode, is_code, is_digit}
use Rattle.codes.specs.Field.{Slots}
use Rattle.codes.proofs.FieldLaws.{formed_quaternary}

-- the test and the property, both ways
pub is_code_true : (x : Digits) → is_code x ≡ true → IsCode x
is_code_true x e = is_within_gives 1 3 longest x (rw e tt)

pub true_is_code : (x : Digits) → IsCode x → is_code x ≡ true
true_is_code x c = go (is_code x) (gives_is_within 1 3 longest x c)
  where
    go : (b : Bool) → T b → b ≡ true
    go true t = refl
    go false t = absurd t

-- a code fits a field
pub code_slots : (x : Digits) → IsCode x → Slots x
code_slots x c = record { small = formed_quaternary x c.formed; fits = omega (arith, c.fits) }

-- a code by its last digit and those before it
formed_last : (x : Digits) (d : ℕ) → is_formed 1 3 (x ++ d ∷ []) ≡ (list_all is_digit x && (ltb 1 d && ltb d 4))
formed_last [] d = refl
formed_last (a ∷ []) d = sym (and_assoc (is_digit a) true (ltb 1 d && ltb d 4))
formed_last (a ∷ b ∷ x) d =
    rw (formed_last (b ∷ x) d) (sym (and_assoc (is_digit a) (list_all is_digit (b ∷ x)) (ltb 1 d && ltb d 4)))

-- for `is_code`: no digits, or the length and the two tests
pub no_digits : (x : Digits) → length x ≡ 0 → is_code x ≡ false
no_digits [] h = refl
no_digits (a ∷ x) h = absurd (omega arith)

pub too_long : (x : Digits) → longest < length x → is_code x ≡ false
too_long x h = ap (λ (b : Bool). is_formed 1 3 x && b) (lt-leb (length x) longest h) ∙ and-false (is_formed 1 3 x)

pub by_last : (x rest : Digits) (d : ℕ) → x ≡ rest ++ d ∷ [] → length x ≤ longest
    → is_code x ≡ (list_all is_digit rest && (ltb 1 d && ltb d 4))
by_last x rest d e h = rw (le-leb (length x) longest h, and-true (is_formed 1 3 x), e) (formed_last rest d)

pub ruleset code_tests = (no_digits, too_long, by_last)
