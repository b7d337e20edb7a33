-- An accepted table: what 01 asks of it, on the rows as a table of `trees`.
-- Assumes nothing.
use Rattle.std.specs.Prelude.{List, map, ◌≢◌, ℕ, ◌≤◌, length}
use Rattle.digits.specs.Lists.{All, Distinct}
use Rattle.trees.specs.Forest.{Forest}
use Rattle.trees.specs.Table.{forest, Ruled}
use Rattle.trees.specs.Labelled.{Name}
use Rattle.registers.specs.Layout.{deepest}
use Rattle.tables.specs.declared.Row.{Row}
use Rattle.tables.specs.Table.{most_rows, rows_of}

-- the rows as names with their depths
abbrev pub named : List Row → List (Name × ℕ)
named rows = map (λ r. (record { identity = r.identity; tag = r.tag }, r.depth)) rows

-- the tree that a table's depths describe
abbrev pub table_tree : List ℕ → Forest Name
table_tree table = forest (named (rows_of table))

abbrev pub identities : List Row → List ℕ
identities rows = map (λ r. r.identity) rows

-- 01, Table: 1 to 4,096 rows, depths by the rule, identities not 0 and all different
pub record Accepted (rows : List Row) : Type 0 where
  pub some : 1 ≤ length rows
  pub most : length rows ≤ most_rows
  pub ruled : Ruled deepest (named rows)
  pub real : All (λ x. x ≢ 0) (identities rows)
  pub distinct : Distinct (identities rows)
