-- `read_number` meets its contract. The loop's invariant: the number so far and the rest are read as the whole text. Assumes nothing.
use mathlib.Core.Path.{◌≡◌}
use lib.ListN.{length}
use Rattle.texts.specs.Reading.{read_more, read_number}
use Rattle.texts.proofs.read_number.Given as goal

abbrev pub invariant-loop-b : goal.invariant-loop-b
invariant-loop-b l = read_number l.stop l.text ≡ read_more l.stop l.x l.rest

abbrev pub decreases-loop-b : goal.decreases-loop-b
decreases-loop-b l = length l.rest
