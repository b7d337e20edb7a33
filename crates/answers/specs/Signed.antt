-- 01, Refusal numbers, for the host program: answers as signed numbers.
-- Assumes nothing.
use Rattle.std.specs.Prelude.{Bool, true, false, ℕ, ◌+◌, ◌*◌, ◌^◌, ◌<◌, ℤ, pos, negsuc, Result, Ok, Err}
use Rattle.answers.specs.declared.Refusal.{Refusal}
use Rattle.answers.specs.Number.{number_of, row_of}

-- 01: a refusal is the number -(100,000 + its number); `negsuc n` is -(n + 1)
abbrev pub refused_as : ℕ → ℤ
refused_as number = negsuc (99999 + number)

-- 01: yes is 1, no is 0
abbrev pub yes_no : Bool → ℤ
yes_no true = pos 1
yes_no false = pos 0

-- what is accepted as its number
abbrev pub signed_as : {A : Type 0} → (A → ℤ) → Result A Refusal → ℤ
signed_as number (Ok x) = number x
signed_as number (Err refusal) = refused_as (number_of refusal)

-- what is accepted has a number that fits
abbrev pub IsSignable : {A : Type 0} → (A → Type 0) → Result A Refusal → Type 0
IsSignable Fits (Ok x) = Fits x
IsSignable Fits (Err refusal) = Unit {0}

-- an accepted number as it is
abbrev pub signed_of : Result ℕ Refusal → ℤ
signed_of answer = signed_as pos answer

-- an accepted number that a signed number of 32 bits holds
abbrev pub Signable : Result ℕ Refusal → Type 0
Signable answer = IsSignable (λ n. n < 2 ^ 31) answer

-- where a row is answered, 1,000,000 for each row goes with the number: no other answer tells it, for a refusal writes nothing
abbrev pub with_row : Refusal → ℕ
with_row refusal = number_of refusal + 1000000 * row_of refusal

abbrev pub signed_row_of : Result ℕ Refusal → ℤ
signed_row_of (Ok n) = pos n
signed_row_of (Err refusal) = refused_as (with_row refusal)

-- a number and a row that a signed number of 64 bits holds
abbrev pub SignableRow : Result ℕ Refusal → Type 0
SignableRow (Ok n) = n < 2 ^ 63
SignableRow (Err refusal) = row_of refusal < 2 ^ 32
