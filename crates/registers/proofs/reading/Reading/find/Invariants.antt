-- what is looked for from 0 on is looked for from i on
use mathlib.Core.Path.{◌≡◌}
use Rattle.registers.specs.Questions.{found_in}
use Rattle.registers.proofs.QuestionLaws.{found_at}
use Rattle.registers.proofs.reading.Reading.find.Given as goal

abbrev pub invariant-loop-i : goal.invariant-loop-i
invariant-loop-i l = found_in l.self.bytes.now l.identity ≡ found_at l.self.bytes.now l.identity l.i
