-- A byte's four digits.
use Rattle.std.proofs.Common.{◌∙◌, ◌/◌, ◌%◌, arith, refl}
use lib.ListN.{get_or}
use Rattle.codes.proofs.SpreadLaws.{slot_spread, shifted_down}
use Rattle.codes.proofs.spread.slot.Goals as goal

pub returns : goal.returns
returns c = record {
  digit = let a = c.args in
      let b = a.field.now in
      shifted_down (get_or b (a.i / 4) 0) (a.i % 4) (omega (arith, c.type_inv.field (a.i / 4))) (omega arith)
      ∙ slot_spread b a.i (a.i % 4) c.requires.inside refl;
}
