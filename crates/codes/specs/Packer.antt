-- The running record of the bits waiting: what a digit does to it.
-- Assumes nothing.
use Rattle.std.specs.Prelude.{ℕ, zero, suc, ◌+◌, ◌-◌, ◌*◌, ◌^◌, ◌%◌, ◌<◌, ◌≡◌}
use Rattle.codes.specs.declared.packer.Packer.{Packer}

-- before the first digit
abbrev pub nothing : Packer
nothing = record { pending = 0; count = 0 }

-- the byte starts anew behind each fourth digit
abbrev pub begun : ℕ → ℕ → ℕ
begun zero pending = 0
begun (suc k) pending = pending

-- 01, Packed field: each digit takes the two highest bits that are free
abbrev pub pushed : Packer → ℕ → Packer
pushed p digit = record { pending = begun (p.count % 4) p.pending + digit * 4 ^ (3 - p.count % 4); count = p.count + 1 }

-- what is not filled yet of a begun byte is 0
unfoldable pub Open : Packer → Type 0
Open p = ((p.count % 4 ≡ 0) → ⊥) → p.pending % 4 ^ (4 - p.count % 4) ≡ 0

-- a digit of two bits, and a count that goes on
pub record Pushable (p : Packer) (digit : ℕ) : Type 0 where
  pub small : digit < 4
  pub room : p.count + 1 < 2 ^ 64
  pub opened : Open p
