-- The first labelling of a table into a lent register: the answer, and every byte after it. Assumes nothing.
use Rattle.std.specs.Prelude.{List, ℕ, leb, length, Result, Ok, Err}
use Rattle.answers.specs.declared.Refusal.{Refusal}
use Rattle.answers.specs.declared.Refusal.TheVariants.{Room}
use Rattle.answers.specs.Outcome.{Outcome, accepted, refused, unless}
use Rattle.numbers.specs.Bytes.{put}
use Rattle.trees.specs.Forest.{Forest, preorder}
use Rattle.trees.specs.Labelled.{Name, Entry, labelled}
use Rattle.registers.specs.Layout.{entry_place}
use Rattle.registers.specs.Entries.{register_bytes}
use Rattle.tables.specs.Rules.{checked_of}
use Rattle.tables.specs.Accepted.{table_tree}

-- a table's tree, with 01's first codes along its tour
abbrev pub labelled_tree : List ℕ → Forest (Entry Name)
labelled_tree table = labelled (table_tree table)

-- 01, Order: 4 comes last; accepted, labelling answers the bytes written, and bytes past those are kept
abbrev pub label_as : Result ℕ Refusal → List ℕ → List ℕ → Outcome
label_as (Err refusal) table lent = refused refusal lent
label_as (Ok n) table lent =
    unless (leb (entry_place n) (length lent)) Room lent
    (accepted (entry_place n) (put lent 0 (register_bytes (preorder (labelled_tree table)))))

-- 01, Table: 1; then rows from the top, 2 before 3 in a row; then 4
unfoldable pub label_outcome : List ℕ → List ℕ → Outcome
label_outcome table lent = label_as (checked_of table) table lent
