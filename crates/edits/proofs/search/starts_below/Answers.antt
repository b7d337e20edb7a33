-- `starts_below` meets its contract: all lines before line i start below the code. Assumes nothing.
use mathlib.Core.Path.{sym, ap, ◌∙◌}
use native.Mathlib.Omega.{arith}
use Rattle.digits.specs.Order.{is_below}
use Rattle.registers.specs.Entries.{code_at}
use Rattle.edits.proofs.SearchLaws.{start_read, leading_next, leading_stop}
use Rattle.edits.proofs.search.starts_below.Goals as goal

pub fields_below-requires : goal.fields_below-requires
fields_below-requires c = record {
  codes = (
    start_read _ c.args.register.now.sound c.loop-i.i (omega (arith, c.loop-i.invariant.counted)) _ c.start_place.ensures.place,
    c.requires.code,
  );
}

pub returns-then-not-fields_below-clause-starts : goal.returns-then-not-fields_below-clause-starts
returns-then-not-fields_below-clause-starts c = let b = c.args.register.now.reading.bytes.now in
    let r = code_at b c.args.at in
    let s = leading_stop b r c.args.register.now.sound c.loop-i.i (omega (arith, c.loop-i.invariant.counted))
    (ap (λ z. is_below (code_at b z) r) (sym c.start_place.ensures.place) ∙ sym c.fields_below.ensures.below
    ∙ c.if-not-fields_below.true) in
    omega (arith, s, c.loop-i.invariant.left)

pub loop-i-preserved : goal.loop-i-preserved
loop-i-preserved c = let b = c.args.register.now.reading.bytes.now in
    let r = code_at b c.args.at in record {
      counted = c.loop-i.invariant.counted;
      left =
          c.loop-i.invariant.left
          ∙ leading_next b r c.args.register.now.sound c.loop-i.i (omega (arith, c.loop-i.invariant.counted))
          (ap (λ z. is_below (code_at b z) r) (sym c.start_place.ensures.place) ∙ sym c.fields_below.ensures.below
          ∙ c.if-not-fields_below.false);
    }
