-- The parent starts, then the starts.
use Rattle.std.proofs.Common.{refl}
use Rattle.labels.proofs.LabelLaws.{fields_sound}
use Rattle.labels.proofs.QuestionLaws.{sibling_by}
use Rattle.labels.proofs.Label.is_sibling.Goals as goal

pub returns : goal.returns
returns c = record {
  sibling = rw (← c.self.view_is, ← c.other.view_is)
      (sibling_by _ _ _ _ _ _ _ _ (fields_sound _ _ _ c.self.invariant) (fields_sound _ _ _ c.other.invariant)
      _ _ _ refl c.same.ensures.same c.same-2.ensures.same);
}
