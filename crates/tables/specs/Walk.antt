-- The first labelling as a walk along the tour: each code in its turn starts the next row or ends the innermost open entry.
-- Assumes nothing.
use Rattle.std.specs.Prelude.{◌≡◌, Bool, cond, ◌&&◌, List, [], ◌∷◌, ◌++◌, ℕ, suc, ◌+◌, ◌-◌, ◌/◌, ◌≤◌, ◌<◌, eqb, ltb, length, get_or, set, replicate}
use Rattle.digits.specs.Lists.{All}
use Rattle.digits.specs.Order.{Digits}
use Rattle.numbers.specs.Bytes.{put, le4}
use Rattle.codes.specs.Field.{field_of}
use Rattle.labels.specs.Label.{field_at}
use Rattle.registers.specs.Layout.{deepest, entry_place, start_place, end_place, parent_place}
use Rattle.tables.specs.Table.{most_rows, row_size}
use Rattle.tables.specs.Rows.{identity_of, tag_of, depth_of}

-- the register's bytes, the open entry of each level, the next row, and the number of open entries
pub record Walk : Type 0 where
  pub bytes : List ℕ
  pub path : List ℕ
  pub row : ℕ
  pub level : ℕ

-- before the first code: nothing is open
abbrev pub at_start : List ℕ → Walk
at_start bytes = record { bytes = bytes; path = replicate (suc deepest) 0; row = 0; level = 0 }

-- how many rows a table has
abbrev pub row_count : List ℕ → ℕ
row_count table = length table / row_size

-- the next code is the start of the next row, for that row's depth is the number of open entries
abbrev pub is_start : List ℕ → ℕ → ℕ → Bool
is_start table row level = ltb row (row_count table) && eqb (depth_of table row) level

-- the innermost open entry
abbrev pub innermost : List ℕ → ℕ → ℕ
innermost path level = get_or path (level - 1) 0

-- the parent start of an entry that begins here: the innermost open entry's start; the root's is empty
abbrev pub parent_field : List ℕ → List ℕ → ℕ → List ℕ
parent_field bytes path level = cond (eqb level 0) (field_of []) (field_at (start_place (innermost path level)) bytes)

-- that field is written, first of the next row's entry
abbrev pub parent_written : Walk → Walk
parent_written w = record w { bytes = put w.bytes (parent_place w.row) (parent_field w.bytes w.path w.level) }

-- the bytes of a row's entry that is begun, its end still empty
abbrev pub begun_bytes : List ℕ → ℕ → Digits → List ℕ → List ℕ
begun_bytes table row x parent =
    le4 (identity_of table row) ++ (le4 (tag_of table row) ++ (field_of x ++ (field_of [] ++ parent)))

-- the code starts the next row's entry
abbrev pub entered : List ℕ → Digits → Walk → Walk
entered table x w = record {
  bytes = put w.bytes (entry_place w.row) (begun_bytes table w.row x (parent_field w.bytes w.path w.level));
  path = set w.path w.level w.row;
  row = w.row + 1;
  level = w.level + 1;
}

-- the code ends the innermost open entry
abbrev pub left : Digits → Walk → Walk
left x w = record {
  bytes = put w.bytes (end_place (innermost w.path w.level)) (field_of x);
  path = w.path;
  row = w.row;
  level = w.level - 1;
}

-- one code; with no row to start and no open entry nothing is done
abbrev pub stepped : List ℕ → Digits → Walk → Walk
stepped table x w = cond (is_start table w.row w.level) (entered table x w) (cond (eqb w.level 0) w (left x w))

-- the codes of a list, in turn
abbrev pub walked : List ℕ → List Digits → Walk → Walk
walked table [] w = w
walked table (x ∷ xs) w = walked table xs (stepped table x w)

-- what a walk keeps: no row too many or too deep, room for all rows, a place for each level, and only begun rows open
pub record Ready (table : List ℕ) (w : Walk) : Type 0 where
  pub most : row_count table ≤ most_rows
  pub some : 1 ≤ row_count table
  pub shallow : (i : ℕ) → i < row_count table → depth_of table i ≤ deepest
  pub room : entry_place (row_count table) ≤ length w.bytes
  pub row : w.row ≤ row_count table
  pub level : w.level ≤ suc deepest
  pub levels : length w.path ≡ suc deepest
  pub begun : All (λ j. (j ≤ w.row) × (j < row_count table)) w.path
