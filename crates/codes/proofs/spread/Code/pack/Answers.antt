-- `Code::pack` meets its contract: each way out is one case of its outcome. Assumes nothing.
use mathlib.Core.Path.{refl, sym, ◌∙◌}
use native.Mathlib.Omega.{arith}
use Rattle.answers.proofs.OutcomeLaws.{gives}
use Rattle.codes.proofs.TestLaws.{is_code_true, code_slots}
use Rattle.codes.proofs.CallLaws.{pack_no_code, pack_short, pack_written}
use Rattle.codes.proofs.spread.Code.pack.Goals as goal

pub returns-then-field-lt-FIELD : goal.returns-then-field-lt-FIELD
returns-then-field-lt-FIELD c =
    let a = c.args in
    let e = sym c.is_code.ensures.code ∙ c.if-not-is_code.false in
    let t = gives _ _ _ _ _ (pack_short a.digits.now a.field.now e c.if-field-lt-FIELD.true) refl refl in
    record { answer = t.0; bytes = t.1 }

pub write_field-requires : goal.write_field-requires
write_field-requires c = let x = c.args.digits.now in
    record {
      room = omega arith;
      slots = code_slots x (is_code_true x (sym c.is_code.ensures.code ∙ c.if-not-is_code.false));
    }

pub returns : goal.returns
returns c =
    let a = c.args in
    let e = sym c.is_code.ensures.code ∙ c.if-not-is_code.false in
    let t = gives _ _ _ _ _ (pack_written a.digits.now a.field.now e c.if-field-lt-FIELD.false)
    refl c.write_field.ensures.bytes in
    record { answer = t.0; bytes = t.1 }

pub returns-then-not-is_code : goal.returns-then-not-is_code
returns-then-not-is_code c =
    let a = c.args in
    let t = gives _ _ _ _ _ (pack_no_code a.digits.now a.field.now (sym c.is_code.ensures.code ∙ c.if-not-is_code.true)) refl refl in
    record { answer = t.0; bytes = t.1 }
