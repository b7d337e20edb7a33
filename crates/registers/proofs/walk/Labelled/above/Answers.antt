-- Two tests on fields of sound labels.
use mathlib.Core.Path.{sym, ◌∙◌}
use Rattle.registers.proofs.SoundLaws.{below_at, both_are, first_fails}
use Rattle.registers.proofs.ReadingLaws.{start_held, end_held, above_fields}
use Rattle.registers.proofs.walk.Labelled.above.Goals as goal

pub fields_below-requires : goal.fields_below-requires
fields_below-requires c = record {
  codes = let l = c.args.self.now in (
    start_held _ _ _ _ l.reading.entries l.labels c.requires.places.0 c.start_place.ensures.place,
    start_held _ _ _ _ l.reading.entries l.labels c.requires.places.1 c.start_place-2.ensures.place,
  );
}

pub fields_below-requires-then-fields_below : goal.fields_below-requires-then-fields_below
fields_below-requires-then-fields_below c = record {
  codes = let l = c.args.self.now in (
    end_held _ _ _ _ l.reading.entries l.labels c.requires.places.1 c.end_place.ensures.place,
    end_held _ _ _ _ l.reading.entries l.labels c.requires.places.0 c.end_place-then-fields_below.ensures.place,
  );
}

pub returns-then-fields_below : goal.returns-then-fields_below
returns-then-fields_below c = record {
  above = let l = c.args.self.now in
      both_are _ _ _
      (sym (below_at _ _ _ _ _ _ c.fields_below.ensures.below c.start_place.ensures.place c.start_place-2.ensures.place)
      ∙ c.if-fields_below.true)
      (below_at _ _ _ _ _ _ c.fields_below-then-fields_below.ensures.below c.end_place.ensures.place
      c.end_place-then-fields_below.ensures.place)
      ∙ above_fields _ _ _ _ l.labels c.requires.places.0 c.requires.places.1;
}

pub returns-else-fields_below : goal.returns-else-fields_below
returns-else-fields_below c = record {
  above = let l = c.args.self.now in
      c.if-fields_below.false
      ∙ first_fails _ _ (sym (below_at _ _ _ _ _ _ c.fields_below.ensures.below c.start_place.ensures.place c.start_place-2.ensures.place)
      ∙ c.if-fields_below.false)
      ∙ above_fields _ _ _ _ l.labels c.requires.places.0 c.requires.places.1;
}
