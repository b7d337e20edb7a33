-- Three tests in a row, on fields of sound labels.
use Rattle.registers.proofs.ReadingLaws.{start_held, end_held, start_sided, parent_sided}
use Rattle.registers.proofs.walk.Labelled.in_place.Goals as goal

pub fields_below-requires : goal.fields_below-requires
fields_below-requires c = record {
  codes = let l = c.args.self.now in
      (c.requires.low, start_held _ _ _ _ l.reading.entries l.labels c.requires.places.0 c.start_place.ensures.place);
}

pub fields_below-requires-then-fields_below : goal.fields_below-requires-then-fields_below
fields_below-requires-then-fields_below c = record {
  codes = let l = c.args.self.now in (
    end_held _ _ _ _ l.reading.entries l.labels c.requires.places.0 c.end_place.ensures.place,
    end_held _ _ _ _ l.reading.entries l.labels c.requires.places.1 c.end_place-then-fields_below.ensures.place,
  );
}

pub fields_same-requires : goal.fields_same-requires
fields_same-requires c = record {
  sides = let l = c.args.self.now in (
    parent_sided _ _ _ _ l.reading.entries l.labels c.requires.places.0 c.parent_place.ensures.place,
    start_sided _ _ _ _ l.reading.entries l.labels c.requires.places.1 c.start_place-then-fields_below-2.ensures.place,
  );
}
