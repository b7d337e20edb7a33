-- What a call that may write into one lent buffer answers, and every byte of that buffer after it.
-- Assumes nothing.
use Rattle.std.specs.Prelude.{◌≡◌, Bool, true, false, List, ℕ, Result, Ok, Err}
use Rattle.answers.specs.declared.Refusal.{Refusal}

pub record Outcome : Type 0 where
  pub answer : Result ℕ Refusal
  pub bytes : List ℕ

abbrev pub accepted : ℕ → List ℕ → Outcome
accepted n bytes = record { answer = Ok n; bytes = bytes }

-- 01: a refusal writes nothing
abbrev pub refused : Refusal → List ℕ → Outcome
refused refusal lent = record { answer = Err refusal; bytes = lent }

-- demand 1: where the answer is a refusal, no lent byte is altered
abbrev pub Unaltered : List ℕ → Outcome → Type 0
Unaltered lent outcome = (refusal : Refusal) → outcome.answer ≡ Err refusal → outcome.bytes ≡ lent

-- 01, Order: refused unless the test holds; what comes later is asked only then
abbrev pub unless : Bool → Refusal → List ℕ → Outcome → Outcome
unless true refusal lent outcome = outcome
unless false refusal lent outcome = refused refusal lent
