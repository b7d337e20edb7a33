-- The last digit taken off, and the digits that it is made put in its place.
use Rattle.std.proofs.Common.{refl, ap, ◌-◌, arith}
use borrow.Author.Tests.{ne_eqb}
use Rattle.codes.specs.Spread.{made_of}
use Rattle.codes.proofs.SpreadLaws.{held_remade}
use Rattle.codes.proofs.spread.Code.remake.Goals as goal

pub returns-then-self-eq2 : goal.returns-then-self-eq2
returns-then-self-eq2 c = record {
  held = held_remade (made_of c.args.two.now c.args.three.now) c.args.self.now
      (record { digits = c.args.self.now.digits; count = c.args.self.now.count - 1 }) _ _ c.args.two.now
      (omega arith) c.requires.code refl (refl, refl)
      (ap (made_of c.args.two.now c.args.three.now) c.if-self-eq2.true) c.extend.ensures.held;
}

pub returns-else-self-eq2 : goal.returns-else-self-eq2
returns-else-self-eq2 c = record {
  held = held_remade (made_of c.args.two.now c.args.three.now) c.args.self.now
      (record { digits = c.args.self.now.digits; count = c.args.self.now.count - 1 }) _ _ c.args.three.now
      (omega arith) c.requires.code refl (refl, refl)
      (simp (ne_eqb _ 2 c.if-self-eq2.false)) c.extend-else-self-eq2.ensures.held;
}
