-- A refusal of the register, an identity that is not there, or the difference of two places.
use mathlib.Core.Path.{refl, sym, ap, ◌∙◌}
use native.Mathlib.Omega.{arith}
use Rattle.std.specs.Prelude.{Ok, Err}
use Rattle.std.proofs.lemmas.Result.{err_from_is_err_and}
use Rattle.registers.specs.declared.Found.TheVariants.{At}
use Rattle.registers.specs.Questions.{found_in, distance_as, distance_result}
use Rattle.registers.proofs.QuestionLaws.{difference_is, distance_unsound, distance_result_found, distance_none, sized_of}
use Rattle.registers.proofs.distance.Goals as goal

pub returns-in_err-register : goal.returns-in_err-register
returns-in_err-register c =
    let p = err_from_is_err_and c.from_residual.result c.from_residual.ensures.1 in
    let no = c.in_err-register.ensures.sound in
    record { answer = p.1 ∙ ap Err (p.2 ∙ no.0) ∙ distance_unsound c.args.register.now c.args.x c.args.y no.1 }

pub returns-in_err-from : goal.returns-in_err-from
returns-in_err-from c =
    let s = c.in_ok-register.register in
    let p = err_from_is_err_and c.from_residual-in_err-from.result c.from_residual-in_err-from.ensures.1 in
    let no = c.in_err-from.ensures.err in
    record {
      answer = p.1 ∙ ap Err (p.2 ∙ no.0) ∙ distance_none s.reading.bytes.now c.args.x c.args.y s.sound (sym no.1)
          ∙ ap (λ b. distance_result b c.args.x c.args.y) c.in_ok-register.ensures.sound;
    }

pub returns-in_err-to : goal.returns-in_err-to
returns-in_err-to c =
    let s = c.in_ok-register.register in
    let b = s.reading.bytes.now in
    let p = err_from_is_err_and c.from_residual-in_err-to.result c.from_residual-in_err-to.ensures.1 in
    let no = c.in_err-to.ensures.err in
    record {
      answer = p.1 ∙ ap Err (p.2 ∙ no.0) ∙ ap (distance_as (At c.in_ok-from.from)) (sym no.1)
          ∙ ap (λ f. distance_as f (found_in b c.args.y)) (sym c.in_ok-from.ensures.ok.0)
          ∙ distance_result_found b c.args.x c.args.y s.sound _ _ refl refl
          ∙ ap (λ b. distance_result b c.args.x c.args.y) c.in_ok-register.ensures.sound;
    }

pub returns : goal.returns
returns c =
    let s = c.in_ok-register.register in
    let b = s.reading.bytes.now in
    let most = (sized_of b s.sound).most in
    let x = c.in_ok-from.ensures.ok in
    let y = c.in_ok-to.ensures.ok in
    record {
      answer = ap Ok (difference_is c.in_ok-from.from c.in_ok-to.to (omega (arith, x.1, most)) (omega (arith, y.1, most)))
          ∙ ap (distance_as (At c.in_ok-from.from)) (sym y.0)
          ∙ ap (λ f. distance_as f (found_in b c.args.y)) (sym x.0)
          ∙ distance_result_found b c.args.x c.args.y s.sound _ _ refl refl
          ∙ ap (λ b. distance_result b c.args.x c.args.y) c.in_ok-register.ensures.sound;
    }
