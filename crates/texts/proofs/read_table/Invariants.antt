-- `read_table` meets its contract. The loop's invariant: n lines have been read and stored, up to the rest of the text. Assumes nothing.
use mathlib.Core.Path.{◌≡◌}
use Prim.Native.Nat.{◌-◌, ◌≤◌}
use lib.ListN.{length}
use Rattle.texts.specs.Reading.{most_lines}
use Rattle.texts.proofs.TableLaws.{Reached}
use Rattle.texts.proofs.read_table.Given as goal

abbrev pub invariant-loop-rest : goal.invariant-loop-rest
invariant-loop-rest l =
    (l.n ≤ most_lines) × (length l.table ≡ length l.initial.table) × Reached l.text l.initial.table l.table l.n l.rest

abbrev pub decreases-loop-rest : goal.decreases-loop-rest
decreases-loop-rest l = most_lines - l.n
