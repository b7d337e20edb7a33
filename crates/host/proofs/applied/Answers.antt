-- `applied` meets its contract: the edit's answer as a number, and its bytes. Assumes nothing.
use mathlib.Core.Path.{sym, subst}
use Rattle.answers.specs.Signed.{Signable}
use Rattle.edits.proofs.SignableLaws.{apply_signable}
use Rattle.host.proofs.applied.Goals as goal

pub signed-requires : goal.signed-requires
signed-requires c = record {
  small = let a = c.args in
      subst Signable (sym c.apply.ensures.answer) (apply_signable a.register.now a.edit);
}
