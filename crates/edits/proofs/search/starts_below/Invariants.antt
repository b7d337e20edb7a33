-- `starts_below` meets its contract. The loop's invariant: all lines before line i start below the code. Assumes nothing.
use mathlib.Core.Path.{◌≡◌}
use Prim.Native.Nat.{◌+◌}
use Rattle.trees.specs.Search.{leading}
use Rattle.registers.specs.Entries.{code_at}
use Rattle.registers.specs.Questions.{count_of, lines_of}
use Rattle.edits.proofs.SearchLaws.{leading_from}
use Rattle.edits.proofs.search.starts_below.Given as goal

abbrev pub invariant-loop-i : goal.invariant-loop-i
invariant-loop-i l =
    let b = l.register.reading.bytes.now in
    record {
      counted : l.n ≡ count_of b;
      left : leading (code_at b l.at) (lines_of b) ≡ l.i + leading_from b (code_at b l.at) l.i;
    }
