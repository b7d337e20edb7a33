-- `nearest` meets its contract. The loop's invariant: the search through all lines is the search from line i on. Assumes nothing.
use mathlib.Core.Path.{◌≡◌}
use Rattle.trees.specs.Search.{outermost, nearest}
use Rattle.registers.specs.Entries.{code_at}
use Rattle.registers.specs.Sound.{line_at, CodeAt}
use Rattle.registers.specs.Questions.{count_of, lines_of}
use Rattle.edits.proofs.SearchLaws.{nearest_from}
use Rattle.edits.proofs.search.nearest.Given as goal

abbrev pub invariant-loop-i : goal.invariant-loop-i
invariant-loop-i g l =
    let b = l.register.reading.bytes.now in
    let up = g.D.Direction.up in
    record {
      counted : l.n ≡ count_of b;
      best : CodeAt b l.best;
      left : nearest up (code_at b l.from) (outermost up (line_at b 0)) (lines_of b)
          ≡ nearest_from b up (code_at b l.from) (code_at b l.best) l.i;
    }
