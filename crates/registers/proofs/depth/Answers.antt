-- A refusal of the register, no such identity, or its depth.
use mathlib.Core.Path.{refl, sym, ap, ◌∙◌}
use Rattle.std.specs.Prelude.{Ok, Err}
use Rattle.std.proofs.lemmas.Result.{err_from_is_err_and}
use Rattle.registers.specs.Questions.{depth_as, depth_result}
use Rattle.registers.proofs.QuestionLaws.{depth_unsound, depth_result_found}
use Rattle.registers.proofs.depth.Goals as goal

pub returns-in_err-register : goal.returns-in_err-register
returns-in_err-register c =
    let p = err_from_is_err_and c.from_residual.result c.from_residual.ensures.1 in
    let no = c.in_err-register.ensures.sound in
    record { answer = p.1 ∙ ap Err (p.2 ∙ no.0) ∙ depth_unsound c.args.register.now c.args.identity no.1 }

pub returns-in_err-place : goal.returns-in_err-place
returns-in_err-place c =
    let s = c.in_ok-register.register in
    let b = s.reading.bytes.now in
    let p = err_from_is_err_and c.from_residual-in_err-place.result c.from_residual-in_err-place.ensures.1 in
    let no = c.in_err-place.ensures.err in
    record {
      answer = p.1 ∙ ap Err (p.2 ∙ no.0) ∙ ap (depth_as b) (sym no.1) ∙ depth_result_found b c.args.identity s.sound _ refl
          ∙ ap (λ b. depth_result b c.args.identity) c.in_ok-register.ensures.sound;
    }

pub returns : goal.returns
returns c =
    let s = c.in_ok-register.register in
    let b = s.reading.bytes.now in
    record {
      answer = ap Ok c.depth_at.ensures.depth ∙ ap (depth_as b) (sym c.in_ok-place.ensures.ok.0)
          ∙ depth_result_found b c.args.identity s.sound _ refl
          ∙ ap (λ b. depth_result b c.args.identity) c.in_ok-register.ensures.sound;
    }
