-- The table's rules, in the paper's order: 1, then rows from the top, 2 before 3 in a row.
-- Assumes nothing.
use Rattle.std.specs.Prelude.{Bool, cond, ◌&&◌, List, [], ◌∷◌, ℕ, suc, ◌+◌, ◌/◌, ◌%◌, eqb, leb, length, Result, Ok, Err}
use Rattle.answers.specs.declared.Refusal.{Refusal}
use Rattle.answers.specs.declared.Refusal.TheVariants.{TableSize, RowDepth, RowIdentity}
use Rattle.identities.specs.Rows.{is_fresh}
use Rattle.registers.specs.Layout.{deepest}
use Rattle.tables.specs.declared.Row.{Row}
use Rattle.tables.specs.Table.{most_rows, row_size, rows_of}

-- 01, refusal 1: 0 or more than 4,096 rows, or not a whole number of rows
abbrev pub is_size : List ℕ → Bool
is_size table = eqb (length table % row_size) 0 && (leb 1 (length table / row_size) && leb (length table / row_size) most_rows)

-- 01, Table: a later depth is at least 1, at most the previous depth plus 1, and at most 63
abbrev pub is_depth : ℕ → ℕ → Bool
is_depth previous depth = leb 1 depth && (leb depth (previous + 1) && leb depth deepest)

-- 01, refusal 3: a row whose depth is right, by its identity
abbrev pub identity_at : ℕ → Bool → Result ℕ Refusal → Result ℕ Refusal
identity_at row fresh later = cond fresh later (Err (RowIdentity row))

-- the rows from row number `row` on, behind a row of depth `previous`, with the identities used above
unfoldable pub rows_from : ℕ → ℕ → List ℕ → List Row → Result ℕ Refusal
rows_from row previous used [] = Ok row
rows_from row previous used (r ∷ rs) =
    cond (is_depth previous r.depth)
    (identity_at row (is_fresh r.identity used) (rows_from (suc row) r.depth (r.identity ∷ used) rs))
    (Err (RowDepth row))

-- the first row has depth 0
abbrev pub rows_checked : List Row → Result ℕ Refusal
rows_checked [] = Ok 0
rows_checked (r ∷ rs) =
    cond (eqb r.depth 0) (identity_at 0 (is_fresh r.identity []) (rows_from 1 0 (r.identity ∷ []) rs)) (Err (RowDepth 0))

-- how many rows an accepted table has, or why it is refused
unfoldable pub checked_of : List ℕ → Result ℕ Refusal
checked_of table = cond (is_size table) (rows_checked (rows_of table)) (Err TableSize)
