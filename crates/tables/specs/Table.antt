-- A table as numbers: three a row, in document order.
-- Assumes nothing.
use Rattle.std.specs.Prelude.{List, [], ◌∷◌, ℕ}
use Rattle.registers.specs.Layout.{most_entries}
use Rattle.tables.specs.declared.Row.{Row}

-- 01, Table: as many rows as a register has entries
abbrev pub most_rows : ℕ
most_rows = most_entries

-- 01, Table: identity, tag, depth
abbrev pub row_size : ℕ
row_size = 3

-- the rows of a lent table; numbers that fill no row are left out
unfoldable pub rows_of : List ℕ → List Row
rows_of [] = []
rows_of (a ∷ []) = []
rows_of (a ∷ b ∷ []) = []
rows_of (a ∷ b ∷ c ∷ t) = record { identity = a; tag = b; depth = c } ∷ rows_of t
