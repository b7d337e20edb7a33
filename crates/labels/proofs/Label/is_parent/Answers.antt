-- By the parent start of the one and the start of the other.
use Rattle.std.proofs.Common.{◌∙◌}
use Rattle.labels.proofs.LabelLaws.{fields_sound}
use Rattle.labels.proofs.QuestionLaws.{parent_fields}
use Rattle.labels.proofs.Label.is_parent.Goals as goal

pub returns : goal.returns
returns c = record {
  parent = rw (← c.self.view_is, ← c.other.view_is)
      (c.same.ensures.same
      ∙ parent_fields _ _ _ _ _ _ _ _ (fields_sound _ _ _ c.self.invariant) (fields_sound _ _ _ c.other.invariant));
}
