-- A place that is found is one of a counted entry.
use mathlib.Core.Path.{sym}
use Rattle.registers.proofs.QuestionLaws.{found_inside}
use Rattle.registers.proofs.reading.Sound.place_of.Goals as goal

pub returns-clause-ok : goal.returns-clause-ok
returns-clause-ok c =
    let e = sym c.in-At.ensures.found in (e, found_inside c.args.self.now.reading.bytes.now c.args.identity c.in-At.place e)
