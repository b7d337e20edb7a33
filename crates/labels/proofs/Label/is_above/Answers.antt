-- The starts, then the ends the other way round.
use Rattle.std.proofs.Common.{◌∙◌, sym, refl, true, false}
use Rattle.labels.proofs.LabelLaws.{fields_sound}
use Rattle.labels.proofs.QuestionLaws.{above_by}
use Rattle.labels.proofs.Label.is_above.Goals as goal

pub returns-then-below : goal.returns-then-below
returns-then-below c = record {
  above = rw (← c.self.view_is, ← c.other.view_is)
      (above_by _ _ _ _ _ _ _ _ (fields_sound _ _ _ c.self.invariant) (fields_sound _ _ _ c.other.invariant)
      true _ (sym c.if-below.true ∙ c.below.ensures.order) c.below-then-below.ensures.order);
}

pub returns-else-below : goal.returns-else-below
returns-else-below c = record {
  above = rw (← c.self.view_is, ← c.other.view_is)
      (c.if-below.false
      ∙ above_by _ _ _ _ _ _ _ _ (fields_sound _ _ _ c.self.invariant) (fields_sound _ _ _ c.other.invariant)
      false _ (sym c.if-below.false ∙ c.below.ensures.order) refl);
}
