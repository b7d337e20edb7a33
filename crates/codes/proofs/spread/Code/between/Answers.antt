-- By how the two sides stand to each other.
use Rattle.std.proofs.Common.{refl, sym, ap, ◌∙◌, Err}
use Rattle.std.proofs.lemmas.Result.{err_from_is_err_and}
use Rattle.answers.proofs.OutcomeLaws.{gives}
use Rattle.codes.proofs.CallLaws.{between_refused, in_order}
use Rattle.codes.proofs.spread.Code.between.Goals as goal

pub returns-in_err-sides : goal.returns-in_err-sides
returns-in_err-sides c =
    let p = err_from_is_err_and c.from_residual.result c.from_residual.ensures.1 in
    let a = c.args in
    let e = sym (c.in_err-sides.was) ∙ c.sides.ensures.sides in
    let t = gives _ _ _ _ _ (between_refused a.left.now a.right.now a.field.now _ e) (p.1 ∙ ap Err p.2) refl in
    record { answer = t.0; bytes = t.1 }

pub whole-requires : goal.whole-requires
whole-requires c = record { whole = (in_order _ _ (sym c.sides.ensures.sides ∙ c.in_ok-sides.was)).left_known.size }

pub whole-requires-2 : goal.whole-requires-2
whole-requires-2 c = record { whole = (in_order _ _ (sym c.sides.ensures.sides ∙ c.in_ok-sides.was)).right_known.size }
