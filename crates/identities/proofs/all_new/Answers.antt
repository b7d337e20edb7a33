-- A number that is new behind those before it leaves the answer to those behind it.
use Rattle.std.proofs.Common.{sym, ◌∙◌, arith}
use native.Mathlib.Numerals.{add-one}
use Rattle.identities.proofs.RowLaws.{next_new}
use Rattle.identities.proofs.all_new.Goals as goal

pub loop-i-preserved : goal.loop-i-preserved
loop-i-preserved c =
    let new = c.if-not-new_at.false in
    let next = next_new c.args.identities.now c.loop-i.i (omega arith) (sym c.new_at.ensures.fresh ∙ new) in
    (rw add-one (c.loop-i.invariant.0 ∙ next), rw add-one (c.new_at.ensures.held new))
