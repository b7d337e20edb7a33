-- Refused where one of the labels is not sound, and else the answer on their codes.
use Rattle.std.proofs.Common.{◌∙◌, refl, w32}
use Rattle.std.proofs.lemmas.Result.{err_from_is_err_and}
use Rattle.answers.proofs.SignedLaws.{read_back}
use Rattle.labels.proofs.QuestionLaws.{left_refused, right_refused, both_answered}
use Rattle.labels.proofs.order.Goals as goal

pub returns-in_err-read : goal.returns-in_err-read
returns-in_err-read c =
    let p = err_from_is_err_and c.from_residual.result c.from_residual.ensures.1 in
    let e = c.in_err-read.ensures.sound in
    record { answer = p.1 ∙ left_refused c.args.u.now c.args.v.now _ _ e.0 (p.2 ∙ e.1) }

pub returns-in_err-read-2 : goal.returns-in_err-read-2
returns-in_err-read-2 c =
    let p = err_from_is_err_and c.from_residual-in_err-read-2.result c.from_residual-in_err-read-2.ensures.1 in
    let e = c.in_err-read-2.ensures.sound in
    record { answer = p.1 ∙ right_refused c.args.u.now c.args.v.now _ _ c.in_ok-read.ensures.sound.0 e.0 (p.2 ∙ e.1) }

pub returns : goal.returns
returns c =
    let u = c.in_ok-read.ensures.sound in
    let v = c.in_ok-read-2.ensures.sound in
    record {
      answer = both_answered c.args.u.now c.args.v.now _ _ u.0 v.0
          (read_back w32 _ c.order.type_inv ∙ c.order.ensures.order ∙ rw (u.1, v.1) refl);
    }
