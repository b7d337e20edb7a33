-- A refusal of the register, or what is found.
use mathlib.Core.Path.{refl, ap, ◌∙◌}
use Rattle.std.specs.Prelude.{Err}
use Rattle.std.proofs.lemmas.Result.{err_from_is_err_and}
use Rattle.registers.specs.Questions.{place_answer}
use Rattle.registers.proofs.QuestionLaws.{place_unsound, place_found, placed}
use Rattle.registers.proofs.place.Goals as goal

pub returns-in_err-register : goal.returns-in_err-register
returns-in_err-register c =
    let p = err_from_is_err_and c.from_residual.result c.from_residual.ensures.1 in
    let no = c.in_err-register.ensures.sound in
    record { answer = p.1 ∙ ap Err (p.2 ∙ no.0) ∙ place_unsound c.args.register.now c.args.identity no.1 }

pub returns : goal.returns
returns c =
    let s = c.in_ok-register.register in
    let b = s.reading.bytes.now in
    record {
      answer = placed b c.args.identity _ c.place_of.ensures.ok c.place_of.ensures.err
          ∙ place_found b c.args.identity s.sound _ refl ∙ ap (λ b. place_answer b c.args.identity) c.in_ok-register.ensures.sound;
    }
