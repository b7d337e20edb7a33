-- Two codes, by the order of their fields.
use Rattle.std.proofs.Common.{sym, ◌∙◌, true, false}
use Rattle.codes.proofs.CallLaws.{codes_sides}
use Rattle.codes.proofs.sides.Goals as goal

pub returns-in-Some-Some : goal.returns-in-Some-Some
returns-in-Some-Some c =
    let l = rw c.in-Some-Some.is-0 at c.in_ok-side.ensures.side in
    let r = rw c.in-Some-Some.is-1 at c.in_ok-right.ensures.side in
    record {
      sides = sym (codes_sides c.args.left.now c.args.right.now false l.1 r.1
          (rw (← l.0, ← r.0) (sym c.below.ensures.order ∙ c.if-not-below.true)));
    }

pub returns-in_default : goal.returns-in_default
returns-in_default c =
    let l = rw c.in-Some-Some.is-0 at c.in_ok-side.ensures.side in
    let r = rw c.in-Some-Some.is-1 at c.in_ok-right.ensures.side in
    record {
      sides = sym (codes_sides c.args.left.now c.args.right.now true l.1 r.1
          (rw (← l.0, ← r.0) (sym c.below.ensures.order ∙ c.if-not-below.false)));
    }
