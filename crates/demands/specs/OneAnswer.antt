-- One answer per contract: for each public call, in Rattle and in C, two results that meet its contract are the same, to every lent byte.
-- Assumes nothing.
use Rattle.std.specs.Prelude.{◌≡◌, List, ℕ, Result}
use Rattle.answers.specs.declared.Refusal.{Refusal}
use Rattle.answers.specs.Outcome.{Outcome}
use Rattle.answers.specs.Signed.{signed_of, signed_row_of}
use Rattle.codes.specs.Calls.{pack_outcome, unpack_outcome, between_outcome}
use Rattle.labels.specs.Label.{is_sound}
use Rattle.labels.specs.Questions.{order_result, above_result, parent_result, sibling_result, order_answer, above_answer, parent_answer, sibling_answer}
use Rattle.registers.specs.Questions.{is_register_sound, place_answer, depth_result, distance_result, depth_answer, distance_answer}
use Rattle.tables.specs.Labelling.{label_outcome}
use Rattle.edits.specs.declared.Place.TheVariants.{FirstChildOf, LastChildOf, Before, After}
use Rattle.edits.specs.declared.Edit.{Edit}
use Rattle.edits.specs.declared.Edit.TheVariants.{Insert, Delete}
use Rattle.edits.specs.Edits.{apply_outcome}

-- a call that only answers: its contract says which answer
abbrev pub One : {A : Type 0} → A → Type 0
One {A} x = (a b : A) → a ≡ x → b ≡ x → a ≡ b

-- a call that writes: its contract says which answer, read by g, and which bytes
abbrev pub OneWith : {A : Type 0} → (Result ℕ Refusal → A) → Outcome → Type 0
OneWith {A} g o =
    (a b : A) (c d : List ℕ) → (a ≡ g o.answer) × (c ≡ o.bytes) → (b ≡ g o.answer) × (d ≡ o.bytes) → (a ≡ b) × (c ≡ d)

-- the answer itself
abbrev pub itself : Result ℕ Refusal → Result ℕ Refusal
itself a = a

pub record OneAnswer : Type 0 where
  pub pack : (digits lent : List ℕ) → OneWith itself (pack_outcome digits lent)
  pub unpack : (field lent : List ℕ) → OneWith itself (unpack_outcome field lent)
  pub between : (left right lent : List ℕ) → OneWith itself (between_outcome left right lent)
  pub order : (u v : List ℕ) → One (order_result u v)
  pub above : (u v : List ℕ) → One (above_result u v)
  pub parent : (u v : List ℕ) → One (parent_result u v)
  pub sibling : (u v : List ℕ) → One (sibling_result u v)
  pub place : (register : List ℕ) (x : ℕ) → One (place_answer register x)
  pub depth : (register : List ℕ) (x : ℕ) → One (depth_result register x)
  pub distance : (register : List ℕ) (x y : ℕ) → One (distance_result register x y)
  pub label : (table lent : List ℕ) → OneWith itself (label_outcome table lent)
  pub apply : (lent : List ℕ) (edit : Edit) → OneWith itself (apply_outcome lent edit)
  pub label_sound : (label : List ℕ) → One (is_sound label)
  pub register_sound : (register : List ℕ) → One (is_register_sound register)
  pub plant_pack : (digits lent : List ℕ) → OneWith signed_of (pack_outcome digits lent)
  pub plant_unpack : (field lent : List ℕ) → OneWith signed_of (unpack_outcome field lent)
  pub plant_between : (left right lent : List ℕ) → OneWith signed_of (between_outcome left right lent)
  pub plant_order : (u v : List ℕ) → One (order_answer u v)
  pub plant_above : (u v : List ℕ) → One (above_answer u v)
  pub plant_parent : (u v : List ℕ) → One (parent_answer u v)
  pub plant_sibling : (u v : List ℕ) → One (sibling_answer u v)
  pub plant_place : (register : List ℕ) (x : ℕ) → One (signed_of (place_answer register x))
  pub plant_depth : (register : List ℕ) (x : ℕ) → One (depth_answer register x)
  pub plant_distance : (register : List ℕ) (x y : ℕ) → One (distance_answer register x y)
  pub plant_label : (table lent : List ℕ) → OneWith signed_row_of (label_outcome table lent)
  pub plant_insert_first : (lent : List ℕ) (t i tag : ℕ) → OneWith signed_of (apply_outcome lent (Insert (FirstChildOf t) i tag))
  pub plant_insert_last : (lent : List ℕ) (t i tag : ℕ) → OneWith signed_of (apply_outcome lent (Insert (LastChildOf t) i tag))
  pub plant_insert_before : (lent : List ℕ) (t i tag : ℕ) → OneWith signed_of (apply_outcome lent (Insert (Before t) i tag))
  pub plant_insert_after : (lent : List ℕ) (t i tag : ℕ) → OneWith signed_of (apply_outcome lent (Insert (After t) i tag))
  pub plant_delete : (lent : List ℕ) (t : ℕ) → OneWith signed_of (apply_outcome lent (Delete t))
