-- By the starts of the two.
use Rattle.std.proofs.Common.{◌∙◌, w32}
use Rattle.labels.proofs.LabelLaws.{fields_sound}
use Rattle.labels.proofs.QuestionLaws.{order_fields}
use Rattle.answers.proofs.SignedLaws.{read_back}
use Rattle.labels.proofs.Label.order.Goals as goal

pub returns : goal.returns
returns c = record {
  order = rw (← c.self.view_is, ← c.other.view_is)
      (read_back w32 _ c.compare.type_inv ∙ c.compare.ensures.order
      ∙ order_fields _ _ _ _ _ _ _ _ (fields_sound _ _ _ c.self.invariant) (fields_sound _ _ _ c.other.invariant));
}
