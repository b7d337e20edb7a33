-- One row of a table by its number: what the functions that go through the rows say. Assumes nothing.
use Rattle.std.specs.Prelude.{Bool, List, ℕ, zero, suc, ◌+◌, ◌*◌, ◌≤◌, ◌<◌, eqb, length, drop, get_or, Result}
use Rattle.answers.specs.declared.Refusal.{Refusal}
use Rattle.identities.specs.Rows.{is_fresh, earlier}
use Rattle.tables.specs.declared.Row.{Row}
use Rattle.tables.specs.Table.{most_rows, row_size, rows_of}
use Rattle.tables.specs.Rules.{is_depth, rows_from, rows_checked}

-- row i stands in the table
abbrev pub HasRow : List ℕ → ℕ → Type 0
HasRow table i = (row_size * i + row_size ≤ length table) × (i < most_rows)

abbrev pub identity_of : List ℕ → ℕ → ℕ
identity_of table i = get_or table (row_size * i) 0

abbrev pub tag_of : List ℕ → ℕ → ℕ
tag_of table i = get_or table (row_size * i + 1) 0

abbrev pub depth_of : List ℕ → ℕ → ℕ
depth_of table i = get_or table (row_size * i + 2) 0

abbrev pub row_at : List ℕ → ℕ → Row
row_at table i = record { identity = identity_of table i; tag = tag_of table i; depth = depth_of table i }

-- row i keeps the depth rule
abbrev pub is_depth_at : List ℕ → ℕ → Bool
is_depth_at table zero = eqb (depth_of table zero) 0
is_depth_at table (suc i) = is_depth (depth_of table i) (depth_of table (suc i))

-- the identities above row i, the latest first
abbrev pub above : List ℕ → ℕ → List ℕ
above table i = earlier row_size table i

-- row i keeps the identity rule
abbrev pub is_fresh_at : List ℕ → ℕ → Bool
is_fresh_at table i = is_fresh (identity_of table i) (above table i)

-- what the rows from row i on give
abbrev pub checked_from : List ℕ → ℕ → Result ℕ Refusal
checked_from table zero = rows_checked (rows_of table)
checked_from table (suc i) = rows_from (suc i) (depth_of table i) (above table (suc i)) (drop (suc i) (rows_of table))
