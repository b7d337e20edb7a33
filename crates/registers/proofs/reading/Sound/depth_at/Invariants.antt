-- what is counted, and what is above among the lines from i on
use mathlib.Core.Path.{◌≡◌}
use Prim.Native.Nat.{◌+◌, ◌≤◌}
use Rattle.registers.specs.Sound.{line_at}
use Rattle.registers.specs.Questions.{lines_of, depth_in}
use Rattle.registers.proofs.QuestionLaws.{depth_from}
use Rattle.registers.proofs.reading.Sound.depth_at.Given as goal

abbrev pub invariant-loop-i : goal.invariant-loop-i
invariant-loop-i l =
    (l.depth ≤ l.i)
    × (l.depth + depth_from l.self.reading.bytes.now l.place l.i
    ≡ depth_in (line_at l.self.reading.bytes.now l.place) (lines_of l.self.reading.bytes.now))
