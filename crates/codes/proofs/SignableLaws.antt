-- What the three calls accept fits a signed number of 32 bits: a code has at most 127 digits.
-- Assumes nothing.
use mathlib.Core.Path.{◌≡◌, refl}
use mathlib.Core.List.{List}
use Prim.Native.Nat.{ℕ}
use native.Mathlib.Omega.{arith}
use lib.Dec.{leb}
use lib.ListN.{length}
use borrow.Author.Tests.{leb-true}
use Rattle.digits.specs.Order.{Digits}
use Rattle.digits.specs.Between.{between}
use Rattle.std.specs.Prelude.{⊤, Result, Ok, Err}
use Rattle.answers.specs.declared.Refusal.{Refusal}
use Rattle.answers.specs.declared.Refusal.TheVariants.{Room, CodeLength, NoCode}
use Rattle.answers.specs.Signed.{Signable}
use Rattle.answers.proofs.SignedLaws.{unless_signable}
use Rattle.codes.specs.Code.{longest, field_size, is_code}
use Rattle.codes.specs.Reading.{Reading, code, empty, unsound, read, side_of}
use Rattle.codes.specs.Calls.{pack_outcome, unpack_as, unpack_outcome, sides_of, between_as, between_outcome}
use Rattle.codes.proofs.TestLaws.{is_code_true}
use Rattle.codes.proofs.ReadingLaws.{read_code}

pub pack_signable : (x : Digits) (lent : List ℕ) → Signable (pack_outcome x lent).answer
unfolding pack_outcome
pack_signable x lent =
    unless_signable (is_code x) NoCode lent _
    (λ e. unless_signable (leb field_size (length lent)) Room lent _ (λ _. omega (arith, (is_code_true x e).fits)))

pub unpack_signable : (field lent : List ℕ) → Signable (unpack_outcome field lent).answer
unfolding unpack_outcome
unpack_signable field lent = go (read field) refl
  where
    go : (r : Reading) → read field ≡ r → Signable (unpack_as r lent).answer
    go (code x) e = unless_signable (leb (length x) (length lent)) Room lent _ (λ _. omega (arith, (read_code field x e).0.fits))
    go empty e = tt
    go unsound e = tt

as_signable : (s : Result ⊤ Refusal) (x : Digits) (lent : List ℕ) → Signable (between_as s x lent).answer
as_signable (Err refusal) x lent = tt
as_signable (Ok ordered) x lent =
    unless_signable (leb field_size (length lent)) Room lent _
    (λ _. unless_signable (leb (length x) longest) CodeLength lent _ (λ e. omega (arith, leb-true (length x) longest e)))

pub between_signable : (left right lent : List ℕ) → Signable (between_outcome left right lent).answer
unfolding between_outcome
between_signable left right lent =
    as_signable (sides_of (read left) (read right)) (between (side_of (read left)) (side_of (read right))) lent
