-- `plant_depth` meets its contract: the call's answer as a number. Assumes nothing.
use mathlib.Core.Path.{sym, subst}
use Rattle.answers.specs.Signed.{Signable}
use Rattle.registers.proofs.QuestionLaws.{depth_signable}
use Rattle.host.proofs.plant_depth.Goals as goal

pub signed-requires : goal.signed-requires
signed-requires c = record { small = subst Signable (sym c.depth.ensures.answer) (depth_signable _ _) }
