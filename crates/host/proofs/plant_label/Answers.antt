-- `plant_label` meets its contract: the call's answer as a number, and the call's bytes. Assumes nothing.
use mathlib.Core.Path.{sym, subst}
use Rattle.answers.specs.Signed.{SignableRow}
use Rattle.tables.proofs.SignableLaws.{label_signable}
use Rattle.host.proofs.plant_label.Goals as goal

pub signed_row-requires : goal.signed_row-requires
signed_row-requires c = record { small = subst SignableRow (sym c.label.ensures.answer) (label_signable _ _) }
