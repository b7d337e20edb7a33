-- Laws of outcomes: what a call has to show of its answer and of the lent bytes, what is accepted, and what a refusal keeps.
-- Assumes nothing.
use Rattle.std.specs.Prelude.{Result, Ok, Err, ℕ}
use mathlib.Core.Path.{◌≡◌, refl, sym, ap, ◌∙◌}
use mathlib.Core.Bool.{Bool, true, false}
use mathlib.Core.List.{List}
use Prim.Native.Nat.{ℕ}
use native.Mathlib.Omega.{arith}
use Rattle.answers.specs.declared.Refusal.{Refusal}
use Rattle.answers.specs.Number.{number_of}
use Rattle.answers.specs.Outcome.{Outcome, accepted, refused, Unaltered, unless}

-- an answer is not both
pub accepted_refused : {A : Type 0} {n : ℕ} {r : Refusal} → ◌≡◌ {A = Result ℕ Refusal} (Ok n) (Err r) → A
accepted_refused e = let z : ◌≡◌ {A = ℕ} 0 1 = cc in absurd (omega arith)

-- where something is accepted, the test held
pub unless_accepted : (t : Bool) (r : Refusal) (b : List ℕ) (o : Outcome) (n : ℕ) → (unless t r b o).answer ≡ Ok n
    → (t ≡ true) × (o.answer ≡ Ok n)
unless_accepted true r b o n e = (refl, e)
unless_accepted false r b o n e = accepted_refused (sym e)

-- what holds of the refusal, and of what comes later where the test held, holds of the outcome
pub unless_case : (P : Outcome → Type 0) (t : Bool) (r : Refusal) (b : List ℕ) (o : Outcome) → P (refused r b) → (t ≡ true → P o)
    → P (unless t r b o)
unless_case P true r b o x y = y refl
unless_case P false r b o x y = x

-- refusals with different numbers are different answers
pub other_refusal : (r s : Refusal) → (number_of r ≡ number_of s → ⊥) → ◌≡◌ {A = Result ℕ Refusal} (Err r) (Err s) → ⊥
other_refusal r s n e = let z : r ≡ s = cc in n (ap number_of z)

-- a refusal keeps every byte
pub keeps_unless : (t : Bool) (r : Refusal) (b : List ℕ) (o : Outcome) → Unaltered b o → Unaltered b (unless t r b o)
keeps_unless t r b o k = unless_case (Unaltered b) t r b o (λ s e. refl) (λ _. k)

pub keeps_accepted : (b c : List ℕ) (n : ℕ) → Unaltered b (accepted n c)
keeps_accepted b c n r e = accepted_refused e

-- a call whose outcome is known gives that answer and leaves those bytes
pub gives : (o : Outcome) (a b : Result ℕ Refusal) (x y : List ℕ) → o ≡ record { answer = a; bytes = x } → b ≡ a → y ≡ x
    → (b ≡ o.answer) × (y ≡ o.bytes)
gives o a b x y e h k = (h ∙ sym (ap (λ (p : Outcome). p.answer) e), k ∙ sym (ap (λ (p : Outcome). p.bytes) e))
