-- The array begins with the field's first digits, and with what the rest leads with they are what the field leads with.
use Rattle.std.proofs.Common.{sym, ◌∙◌, ◌≡◌, length, arith}
use lib.ListN.{length-set}
use Rattle.codes.specs.Field.{spread}
use Rattle.codes.proofs.SpreadLaws.{stored_all, stored_next, spread_length, led_zero, led_next, led_all}
use Rattle.codes.proofs.spread.of_field.Goals as goal

pub returns-then-digit-eq0 : goal.returns-then-digit-eq0
returns-then-digit-eq0 c =
    let x = spread c.args.field.now in
    let i = c.loop-i.i in
    let n : length x ≡ 128 = spread_length c.args.field.now ∙ omega (arith, c.told-field) in
    record {
      held = stored_all _ x _ i (omega (arith, n, c.loop-i-test.true)) c.loop-i.invariant.array
          (led_zero x i (omega (arith, n, c.loop-i-test.true)) (sym c.slot-digit.ensures.digit ∙ c.if-digit-eq0.true)
          c.loop-i.invariant.led);
    }

pub loop-i-preserved : goal.loop-i-preserved
loop-i-preserved c =
    let x = spread c.args.field.now in
    let i = c.loop-i.i in
    let n : length x ≡ 128 = spread_length c.args.field.now ∙ omega (arith, c.told-field) in
    let h = c.loop-i-test.true in
    record {
      size = simp length-set c.loop-i.invariant.size;
      array = stored_next c.loop-i.code.digits x i _ (omega (arith, h, c.loop-i.invariant.size)) (omega (arith, n, h))
          c.slot-digit.ensures.digit c.loop-i.invariant.array;
      led = led_next x i (omega (arith, n, h)) (λ z. c.if-digit-eq0.false (c.slot-digit.ensures.digit ∙ z)) c.loop-i.invariant.led;
    }

pub returns : goal.returns
returns c =
    let x = spread c.args.field.now in
    let n : length x ≡ 128 = spread_length c.args.field.now ∙ omega (arith, c.told-field) in
    let e : c.loop-i.i ≡ 128 = omega (arith, c.loop-i-test.false, c.loop-i.auto.i-end) in
    record {
      held = rw e at
          (stored_all c.loop-i.code.digits x _ c.loop-i.i (omega (arith, n, e)) c.loop-i.invariant.array
          (led_all x c.loop-i.i (omega (arith, n, e)) c.loop-i.invariant.led));
    }
