-- `Spot::level` meets its contract. Assumes nothing.
use native.Mathlib.Omega.{arith}
use Rattle.edits.specs.Edits.{where_of}
use Rattle.edits.proofs.PlaceLaws.{level_is, depth_most, bool_byte_most}
use Rattle.edits.proofs.Spot.level.Goals as goal

pub overflow_add-result : goal.overflow_add-result
overflow_add-result c =
    let most = depth_most _ c.args.self.now.at _ c.args.self.now.register.sound c.depth_at.ensures.depth in
    omega (arith, most, c.from.ensures, bool_byte_most c.is_inside.result)

pub returns : goal.returns
returns c = record {
  level =
      level_is _ c.args.self.now.register.sound (where_of c.args.self.now.place) _ c.args.self.now.inside _ _ _ c.depth_at.ensures.depth c.from.ensures
      c.is_inside.ensures.inside;
}
