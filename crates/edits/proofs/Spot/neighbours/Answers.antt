-- `Spot::neighbours` meets its contract. Assumes nothing.
use Rattle.edits.specs.Edits.{where_of}
use Rattle.edits.proofs.PlaceLaws.{own_found}
use Rattle.edits.proofs.Spot.neighbours.Goals as goal

pub nearest-requires : goal.nearest-requires
nearest-requires c = record {
  from = own_found _ c.args.self.now.register.sound (where_of c.args.self.now.place) _ c.args.self.now.inside _ c.own_place-own.ensures.place;
}

pub nearest-requires-else-is_upward : goal.nearest-requires-else-is_upward
nearest-requires-else-is_upward c = record {
  from = own_found _ c.args.self.now.register.sound (where_of c.args.self.now.place) _ c.args.self.now.inside _ c.own_place-own.ensures.place;
}
