-- An instance of demands 2 and 3 by computation: the worked register, an insertion at each of the four places, a deletion, two
-- refused edits.
-- Assumes nothing.
use Rattle.std.specs.Prelude.{Result, Ok, Err, ℕ}
use Rattle.answers.specs.declared.Refusal.{Refusal}
use mathlib.Core.Path.{◌≡◌, refl}
use mathlib.Core.List.{List, [], ◌∷◌}
use Prim.Native.Nat.{ℕ, zero, suc, ◌≤◌, ◌<◌, ◌^◌}
use native.Mathlib.Omega.{arith}
use lib.IntN.{pos}
use lib.ListN.{replicate}
use Rattle.digits.specs.Code.{Enough}
use Rattle.digits.specs.Thirds.{thirds_deep}
use Rattle.answers.specs.declared.Refusal.TheVariants.{Identity, Root}
use Rattle.numbers.specs.Bytes.{put}
use Rattle.codes.specs.Field.{field_of}
use Rattle.codes.specs.Reading.{read}
use Rattle.labels.specs.Label.{label_of, is_sound}
use Rattle.labels.specs.Questions.{asked, answered, above_answer}
use Rattle.trees.specs.Forest.{nil, node}
use Rattle.trees.specs.Labelled.{Name}
use Rattle.trees.specs.Edit.{leaf}
use Rattle.trees.specs.Check.{walk_row}
use Rattle.registers.specs.Entries.{entry_bytes, entry_at}
use Rattle.registers.specs.Sound.{label_bytes, line_at, is_tree}
use Rattle.registers.specs.Questions.{is_register_sound, tree_of}
use Rattle.tables.specs.Table.{rows_of}
use Rattle.tables.specs.Rules.{rows_from, checked_of}
use Rattle.tables.specs.Accepted.{table_tree}
use Rattle.tables.specs.Labelling.{label_outcome}
use Rattle.edits.specs.declared.Edit.{Edit}
use Rattle.edits.specs.declared.Edit.TheVariants.{Insert, Delete}
use Rattle.edits.specs.declared.Place.TheVariants.{FirstChildOf, LastChildOf, Before, After}
use Rattle.edits.specs.Splice.{inserted_bytes, deleted_bytes}
use Rattle.edits.specs.Edits.{insert_outcome, delete_outcome, apply_outcome}
use Rattle.demands.specs.Run.{run, tree_after}
use Rattle.demands.specs.Worked.{worked_table}
use Rattle.demands.specs.Demands.{Demand2, Demand3}
use Rattle.demands.proofs.Demands.{demand_2, lengths}

-- room for the worked register's four entries and four more
abbrev lent : List ℕ
lent = replicate 840 0

abbrev edits : List Edit
edits =
    Insert (FirstChildOf 12) 14 4
    ∷ Insert (After 11) 15 5
    ∷ Delete 10
    ∷ Insert (LastChildOf 11) 16 6
    ∷ Insert (Before 13) 17 7
    ∷ Insert (Before 13) 16 7
    ∷ Delete 14
    ∷ []

-- the answers of a run
abbrev answers : List Edit → List ℕ → List (Result ℕ Refusal)
answers [] bytes = []
answers (edit ∷ later) bytes = (apply_outcome bytes edit).answer ∷ answers later (apply_outcome bytes edit).bytes

-- the table is accepted, so that the demands speak of it
accepted : (label_outcome worked_table lent).answer ≡ Ok 424
unfolding label_outcome checked_of rows_from rows_of
accepted = refl

abbrev first : List ℕ
first = (label_outcome worked_table lent).bytes

pub instance : Demand2 first (table_tree worked_table) edits
instance = demand_2 worked_table lent 424 accepted edits

-- four entries: two digits, since 3 ^ 2 > 8
two_enough : Enough 3 8 2
two_enough = record { above = omega arith; least = two }
  where
    two : (h : ℕ) → 8 < 3 ^ h → 2 ≤ h
    two zero l = absurd (omega arith)
    two (suc zero) l = absurd (omega arith)
    two (suc (suc h)) l = omega arith

pub instance_3 : Demand3 worked_table lent edits 2
unfolding rows_of
instance_3 = lengths worked_table lent 424 accepted 2 two_enough edits

abbrev after : List ℕ
after = run edits first

abbrev name : ℕ → ℕ → Name
name identity tag = record { identity = identity; tag = tag }

-- what the run gives: the two refused edits among the five accepted ones, each with its place or its reason; the tree that they
-- describe, 10 over 11, 15 and 12, 11 over 16, 12 over 17 and 13; and that 12, at place 4, is above 17, at place 5, and not above 15
pub record Computed : Type 0 where
  pub run_answers : answers edits first
      ≡ Ok 3 ∷ Ok 2 ∷ Err Root ∷ Ok 2 ∷ Ok 6 ∷ Err Identity ∷ Ok 5 ∷ []
  pub run_tree : tree_after edits first (table_tree worked_table)
      ≡ node (name 10 1)
      (node (name 11 2) (leaf (name 16 6))
      (node (name 15 5) nil (node (name 12 2) (node (name 17 7) nil (leaf (name 13 3))) nil)))
      nil
  pub run_above : above_answer (label_bytes after 4) (label_bytes after 5) ≡ pos 1
  pub run_not_above : above_answer (label_bytes after 4) (label_bytes after 3) ≡ pos 0

pub computed : Computed
unfolding label_outcome checked_of rows_from rows_of thirds_deep field_of entry_bytes put read is_sound walk_row entry_at line_at is_tree
    is_register_sound tree_of inserted_bytes deleted_bytes insert_outcome delete_outcome asked answered label_of
computed = record { run_answers = refl; run_tree = refl; run_above = refl; run_not_above = refl }
