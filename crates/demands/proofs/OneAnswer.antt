-- Only one answer, and one content of each lent buffer, can meet a public call's contract.
-- Assumes nothing.
use Rattle.std.specs.Prelude.{Result, ℕ}
use Rattle.answers.specs.declared.Refusal.{Refusal}
use mathlib.Core.Path.{sym, ◌∙◌}
use Rattle.answers.specs.Outcome.{Outcome}
use Rattle.answers.specs.Signed.{signed_of, signed_row_of}
use Rattle.codes.specs.Calls.{pack_outcome, unpack_outcome, between_outcome}
use Rattle.tables.specs.Labelling.{label_outcome}
use Rattle.edits.specs.declared.Place.TheVariants.{FirstChildOf, LastChildOf, Before, After}
use Rattle.edits.specs.declared.Edit.TheVariants.{Insert, Delete}
use Rattle.edits.specs.Edits.{apply_outcome}
use Rattle.demands.specs.OneAnswer.{One, OneWith, itself, OneAnswer}

one : {A : Type 0} (x : A) → One x
one x a b h k = h ∙ sym k

both : {A : Type 0} (g : Result ℕ Refusal → A) (o : Outcome) → OneWith g o
both g o a b c d h k = (h.0 ∙ sym k.0, h.1 ∙ sym k.1)

pub one_answer : OneAnswer
one_answer = record {
  pack = λ digits lent. both itself _;
  unpack = λ field lent. both itself _;
  between = λ left right lent. both itself _;
  order = λ u v. one _;
  above = λ u v. one _;
  parent = λ u v. one _;
  sibling = λ u v. one _;
  place = λ register x. one _;
  depth = λ register x. one _;
  distance = λ register x y. one _;
  label = λ table lent. both itself _;
  apply = λ lent edit. both itself _;
  label_sound = λ label. one _;
  register_sound = λ register. one _;
  plant_pack = λ digits lent. both signed_of (pack_outcome digits lent);
  plant_unpack = λ field lent. both signed_of (unpack_outcome field lent);
  plant_between = λ left right lent. both signed_of (between_outcome left right lent);
  plant_order = λ u v. one _;
  plant_above = λ u v. one _;
  plant_parent = λ u v. one _;
  plant_sibling = λ u v. one _;
  plant_place = λ register x. one _;
  plant_depth = λ register x. one _;
  plant_distance = λ register x y. one _;
  plant_label = λ table lent. both signed_row_of (label_outcome table lent);
  plant_insert_first = λ lent t i tag. both signed_of (apply_outcome lent (Insert (FirstChildOf t) i tag));
  plant_insert_last = λ lent t i tag. both signed_of (apply_outcome lent (Insert (LastChildOf t) i tag));
  plant_insert_before = λ lent t i tag. both signed_of (apply_outcome lent (Insert (Before t) i tag));
  plant_insert_after = λ lent t i tag. both signed_of (apply_outcome lent (Insert (After t) i tag));
  plant_delete = λ lent t. both signed_of (apply_outcome lent (Delete t));
}
