-- Laws of the questions: what two sound labels' fields say of each, and what the answer is.
-- Assumes nothing.
use mathlib.Core.Path.{◌≡◌, refl, sym, ap, ◌∙◌}
use mathlib.Core.Logic.{inr}
use mathlib.Core.Bool.{Bool, true, false, cond, not, ◌&&◌, and-false, and_assoc}
use mathlib.Core.List.{List, [], ◌∷◌}
use Prim.Native.Nat.{ℕ}
use native.Mathlib.Omega.{arith}
use lib.ListN.{length, get_or}
use lib.IntN.{ℤ}
use lib.Dec.{eqb}
use borrow.Author.Tests.{eqb-true, eqb-false}
use Rattle.digits.specs.Order.{Digits, is_below, order_by}
use Rattle.digits.proofs.CodeLaws.{formed_length}
use Rattle.std.specs.Prelude.{Ok, Err}
use Rattle.answers.specs.declared.Refusal.{Refusal}
use Rattle.answers.specs.declared.Refusal.TheVariants as refusals
use Rattle.answers.specs.Number.{number_of}
use Rattle.answers.specs.Signed.{refused_as, signed_as}
use Rattle.codes.specs.Reading.{is_same}
use Rattle.codes.proofs.FieldLaws.{is_below_field}
use Rattle.codes.proofs.ReadingLaws.{is_same_true, is_same_field, first_zero, first_none}
use Rattle.labels.specs.Label.{Label, is_sound}
use Rattle.labels.specs.Questions.{order, is_above, is_orphan, is_parent, is_sibling, asked, answered}
use Rattle.labels.proofs.LabelLaws.{SoundFields}

-- a refusal, or the answer
pub left_refused : {A : Type 0} (u v : List ℕ) (answer : A) (r : Refusal) → is_sound u ≡ false → r ≡ refusals.Label
    → Err r ≡ answered u v answer
unfolding answered
left_refused u v answer r e f = sym (rw (e, f) refl)

pub right_refused : {A : Type 0} (u v : List ℕ) (answer : A) (r : Refusal) → is_sound u ≡ true → is_sound v ≡ false → r ≡ refusals.Label
    → Err r ≡ answered u v answer
unfolding answered
right_refused u v answer r d e f = sym (rw (d, e, f) refl)

pub both_answered : {A : Type 0} (u v : List ℕ) (answer given : A) → is_sound u ≡ true → is_sound v ≡ true → given ≡ answer
    → Ok given ≡ answered u v answer
unfolding answered
both_answered u v answer given d e f = sym (rw (d, e, f) refl)

-- as C gets it
pub signed_answered : {A : Type 0} (f : A → ℤ) (u v : List ℕ) (answer : A) → signed_as f (answered u v answer) ≡ asked u v (f answer)
unfolding answered asked
signed_answered f u v answer = go (is_sound u && is_sound v)
  where
    go : (t : Bool) → signed_as f (cond t (Ok answer) (Err refusals.Label)) ≡ cond t (f answer) (refused_as (number_of refusals.Label))
    go true = refl
    go false = refl

-- two labels with different parent starts
pub sibling_apart : (u v : Label) → is_same u.parent v.parent ≡ false → false ≡ is_sibling u v
sibling_apart u v h =
    sym (rw (h, and-false (not (is_orphan u) && not (is_orphan v))) refl)

-- two sound labels by their fields
module _ (us ue up vs ve vp : List ℕ) (u v : Label) (s : SoundFields us ue up u) (t : SoundFields vs ve vp v) where
  pub order_fields : order_by us vs ≡ order u v
  order_fields =
      rw (
        s.start_field,
        t.start_field,
        is_below_field u.start v.start s.start_code t.start_code,
        is_below_field v.start u.start t.start_code s.start_code,
      ) refl

  above_fields : (is_below us vs && is_below ve ue) ≡ is_above u v
  above_fields =
      rw (
        s.start_field,
        t.start_field,
        s.end_field,
        t.end_field,
        is_below_field u.start v.start s.start_code t.start_code,
        is_below_field v.end u.end t.end_code s.end_code,
      ) refl

  -- by what the tests answered
  pub above_by : (a b : Bool) → a ≡ is_below us vs → b ≡ is_below ve ue → (a && b) ≡ is_above u v
  above_by a b e f = rw (e, f) above_fields

  -- a parent start that equals a start is not empty
  start_some : is_same v.parent u.start ≡ true → is_orphan v ≡ false
  start_some h = go v.parent (is_same_true v.parent u.start h)
    where
      go : (p : Digits) → p ≡ u.start → is_same p [] ≡ false
      go [] e = absurd (omega (arith, ap length e, formed_length 1 3 u.start s.start_code.formed))
      go (a ∷ p) e = refl

  parent_as : (r : Bool) → is_same v.parent u.start ≡ r → r ≡ is_parent u v
  parent_as true e = sym (rw (e, start_some e) refl)
  parent_as false e = sym (rw e (and-false (not (is_orphan v))))

  pub parent_fields : is_same vp us ≡ is_parent u v
  parent_fields =
      rw (t.parent_field, s.start_field) (is_same_field v.parent u.start t.parent_side (inr s.start_code)) ∙ parent_as _ refl

  -- the first byte of a parent start
  orphan_first : (r : Bool) → eqb (get_or up 0 0) 0 ≡ r → is_orphan u ≡ r
  orphan_first true e = rw (first_zero u.parent s.parent_side (rw s.parent_field at (eqb-true (get_or up 0 0) 0 e))) refl
  orphan_first false e = go (is_orphan u) refl
    where
      go : (r : Bool) → is_orphan u ≡ r → r ≡ false
      go true f =
          absurd (eqb-false (get_or up 0 0) 0 e
          (ap (λ (l : List ℕ). get_or l 0 0) s.parent_field ∙ first_none u.parent (is_same_true u.parent [] f)))
      go false f = refl

  -- where the parent starts are the same, neither or both are empty
  orphan_both : (r : Bool) → is_same u.parent v.parent ≡ r → (not (is_orphan u) && not (is_orphan v) && r) ≡ (not (is_orphan u) && r)
  orphan_both true e =
      let f = is_same_true u.parent v.parent e in
      rw (← f) (both (not (is_orphan u)))
    where
      both : (b : Bool) → (b && b && true) ≡ (b && true)
      both true = refl
      both false = refl
  orphan_both false e = and-false (not (is_orphan u) && not (is_orphan v)) ∙ sym (and-false (not (is_orphan u)))

  sibling_fields : (not (eqb (get_or up 0 0) 0) && (is_same up vp && not (is_same us vs))) ≡ is_sibling u v
  sibling_fields =
      let e : eqb (get_or up 0 0) 0 ≡ is_orphan u = sym (orphan_first _ refl) in
      let f : is_same up vp ≡ is_same u.parent v.parent =
      rw (s.parent_field, t.parent_field) (is_same_field u.parent v.parent s.parent_side t.parent_side) in
      let g : is_same us vs ≡ is_same u.start v.start =
      rw (s.start_field, t.start_field) (is_same_field u.start v.start (inr s.start_code) (inr t.start_code)) in
      sym (and_assoc (not (eqb (get_or up 0 0) 0)) (is_same up vp) (not (is_same us vs)))
      ∙ rw (e, f, g) (sym (ap (λ (r : Bool). r && not (is_same u.start v.start)) (orphan_both (is_same u.parent v.parent) refl)))

  pub sibling_by : (a b c : Bool) → a ≡ not (eqb (get_or up 0 0) 0) → b ≡ is_same up vp → c ≡ is_same us vs
      → (a && (b && not c)) ≡ is_sibling u v
  sibling_by a b c e f g = rw (e, f, g) sibling_fields
