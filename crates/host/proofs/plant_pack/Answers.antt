-- `plant_pack` meets its contract: the call's answer as a number, and the call's bytes. Assumes nothing.
use mathlib.Core.Path.{sym, subst}
use Rattle.answers.specs.Signed.{Signable}
use Rattle.codes.proofs.SignableLaws.{pack_signable}
use Rattle.host.proofs.plant_pack.Goals as goal

pub signed-requires : goal.signed-requires
signed-requires c = record { small = subst Signable (sym c.pack.ensures.answer) (pack_signable _ _) }
