-- `Code::unpack` meets its contract: by whether the field holds a code. Assumes nothing.
use mathlib.Core.Path.{refl, sym, ◌∙◌}
use Rattle.answers.proofs.OutcomeLaws.{gives}
use Rattle.codes.proofs.CallLaws.{unpack_none}
use Rattle.codes.proofs.spread.Code.unpack.Goals as goal

pub returns : goal.returns
returns c =
    let a = c.args in
    let t = gives _ _ _ _ _ (unpack_none a.field.now a.digits.now (sym c.holds_code.ensures.code ∙ c.if-holds_code.false)) refl refl in
    record { answer = t.0; bytes = t.1 }
