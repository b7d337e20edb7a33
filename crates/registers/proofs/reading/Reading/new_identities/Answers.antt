-- One more identity is written.
use native.Mathlib.Omega.{arith}
use lib.ListN.{length-set}
use Rattle.registers.proofs.QuestionLaws.{identity_next}
use Rattle.registers.proofs.reading.Reading.new_identities.Goals as goal

pub loop-i-preserved : goal.loop-i-preserved
loop-i-preserved c = (
  simp length-set c.loop-i.invariant.0,
  identity_next c.args.self.now.bytes.now c.loop-i.all c.loop-i.i _ (omega arith) c.identity.ensures.identity c.loop-i.invariant.1,
)
