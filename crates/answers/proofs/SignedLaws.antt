-- Laws of refusals as signed numbers.
-- Assumes nothing.
use Rattle.std.specs.Prelude.{ℕ}
use mathlib.Core.Path.{◌≡◌, refl}
use mathlib.Core.Bool.{Bool, true, false}
use mathlib.Core.List.{List}
use Prim.Native.Nat.{ℕ, ◌^◌, ◌<◌}
use lib.IntN.{ℤ}
use lib.Signed.{mag}
use mir.Syntax.{Width}
use mir.Val.{hbits, to_z, of_z}
use mir.Facts.{to_z-of_z}
use Rattle.answers.specs.declared.Refusal.{Refusal}
use Rattle.answers.specs.Signed.{Signable}
use Rattle.answers.specs.Outcome.{Outcome, unless}

-- a signed number that a call answered is read back as itself
pub read_back : (w : Width) (z : ℤ) → mag z < 2 ^ hbits w → to_z w (of_z w z) ≡ z
read_back w z h = to_z-of_z (record { sfits = h })

-- what is refused by a test, or signable where it holds, is signable
pub unless_signable : (t : Bool) (r : Refusal) (b : List ℕ) (o : Outcome) → (t ≡ true → Signable o.answer)
    → Signable (unless t r b o).answer
unless_signable true r b o h = h refl
unless_signable false r b o h = tt
