-- 01, Refusal numbers: the number of each refusal and the row that is answered with it.
-- Assumes nothing.
use Rattle.std.specs.Prelude.{ℕ, List, ◌∷◌}
use Rattle.std.specs.Fmt.{decimal}
use Rattle.answers.specs.declared.Refusal.{Refusal}
use Rattle.answers.specs.declared.Refusal.TheVariants.{TableSize, RowDepth, RowIdentity, Identity, Room, Register, Target, Root, CodeLength, Children, Depth, Label, NoCode, Order}

abbrev pub number_of : Refusal → ℕ
number_of TableSize = 1
number_of (RowDepth row) = 2
number_of (RowIdentity row) = 3
number_of Identity = 3
number_of Room = 4
number_of Register = 5
number_of Target = 6
number_of Root = 7
number_of CodeLength = 8
number_of Children = 9
number_of Depth = 10
number_of Label = 11
number_of NoCode = 12
number_of Order = 13

-- 2 and, for a table, 3 answer the row, from 0
abbrev pub row_of : Refusal → ℕ
row_of TableSize = 0
row_of (RowDepth row) = row
row_of (RowIdentity row) = row
row_of Identity = 0
row_of Room = 0
row_of Register = 0
row_of Target = 0
row_of Root = 0
row_of CodeLength = 0
row_of Children = 0
row_of Depth = 0
row_of Label = 0
row_of NoCode = 0
row_of Order = 0

-- as the programs print it: `refused`, a space and the number
abbrev pub printed : Refusal → List ℕ
printed refusal = 114 ∷ 101 ∷ 102 ∷ 117 ∷ 115 ∷ 101 ∷ 100 ∷ 32 ∷ decimal (number_of refusal)
