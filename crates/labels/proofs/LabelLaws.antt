-- Laws of labels: the size of a field, what a sound label holds, and its soundness field by field.
-- Assumes nothing.
use mathlib.Core.Path.{◌≡◌, refl, sym, ap, ◌∙◌}
use mathlib.Core.Logic.{◌⊎◌, inl, inr}
use mathlib.Core.Bool.{Bool, true, false, cond, ◌&&◌, and-eq-true_iff, false≢true}
use mathlib.Core.List.{List, []}
use Prim.Native.Nat.{ℕ, ◌+◌, ◌≤◌}
use native.Mathlib.Omega.{arith}
use lib.Dec.{eqb}
use lib.ListN.{length, length-take, length-drop}
use borrow.Author.Tests.{eq-eqb, ne_eqb, eqb-true}
use Rattle.digits.specs.Order.{Digits, Below, is_below}
use Rattle.digits.proofs.OrderLaws.{is_below_gives}
use Rattle.codes.specs.Code.{field_size, IsCode}
use Rattle.codes.specs.Field.{field_of}
use Rattle.codes.specs.Reading.{Reading, code, empty, unsound, read, is_code_held, is_empty_held, side_of}
use Rattle.codes.proofs.ReadingLaws.{Sided, read_code, read_empty, held_code}
use Rattle.codes.proofs.CallLaws.{held_below}
use Rattle.labels.specs.Label.{start_at, end_at, parent_at, label_size, field_at, Label, label_of, label_by, are_sound, is_parent_sound, is_sound_as, is_sound}

pub field_size_lem : (b : List ℕ) (at : ℕ) → at + field_size ≤ length b → length (field_at at b) ≡ field_size
field_size_lem b at h = simp (length-take, length-drop) (omega arith)

-- a test that holds, as a fact
pub is_below_holds : (x y : Digits) → is_below x y ≡ true → Below x y
is_below_holds x y e = is_below_gives x y (rw e tt)

-- a parent start that is a code, and any other
pub parent_code : (parent start : List ℕ) → is_code_held (read parent) ≡ true → is_code_held (read start) ≡ true
    → is_below parent start ≡ is_parent_sound (read parent) (side_of (read start))
parent_code parent start h k =
    held_below parent start h k ∙ sym (ap (λ (r : Reading). is_parent_sound r (side_of (read start))) (held_code (read parent) h))

pub parent_none : (parent : Reading) (start : Digits) → is_code_held parent ≡ false → is_empty_held parent ≡ is_parent_sound parent start
parent_none (code x) start h = absurd (false≢true (sym h))
parent_none empty start h = refl
parent_none unsound start h = refl

-- what a sound label holds
pub record Sound (b : List ℕ) (u : Label) : Type 0 where
  pub size : length b ≡ label_size
  pub start_code : IsCode u.start
  pub start_field : field_at start_at b ≡ field_of u.start
  pub end_code : IsCode u.end
  pub end_field : field_at end_at b ≡ field_of u.end
  pub parent_side : Sided u.parent
  pub parent_field : field_at parent_at b ≡ field_of u.parent
  pub spans : Below u.start u.end
  pub under : (u.parent ≡ []) ⊎ Below u.parent u.start

-- what three sound fields hold
pub record SoundFields (s e p : List ℕ) (u : Label) : Type 0 where
  pub start_code : IsCode u.start
  pub start_field : s ≡ field_of u.start
  pub end_code : IsCode u.end
  pub end_field : e ≡ field_of u.end
  pub parent_side : Sided u.parent
  pub parent_field : p ≡ field_of u.parent
  pub spans : Below u.start u.end
  pub under : (u.parent ≡ []) ⊎ Below u.parent u.start

module _ (s e p : List ℕ) where
  fields_as : (i j k : Reading) → read s ≡ i → read e ≡ j → read p ≡ k → is_sound_as i j k ≡ true
      → SoundFields s e p (record { start = side_of i; end = side_of j; parent = side_of k })
  fields_as (code x) (code y) (code z) a b c h =
      let t = (and-eq-true_iff (is_below x y) (is_below z x)).0 h in
      let k = read_code _ x a in
      let l = read_code _ y b in
      let m = read_code _ z c in
      record {
        start_code = k.0;
        start_field = k.1;
        end_code = l.0;
        end_field = l.1;
        parent_side = inr m.0;
        parent_field = m.1;
        spans = is_below_holds x y t.0;
        under = inr (is_below_holds z x t.1);
      }
  fields_as (code x) (code y) empty a b c h =
      let t = (and-eq-true_iff (is_below x y) true).0 h in
      let k = read_code _ x a in
      let l = read_code _ y b in
      record {
        start_code = k.0;
        start_field = k.1;
        end_code = l.0;
        end_field = l.1;
        parent_side = inl refl;
        parent_field = read_empty _ c;
        spans = is_below_holds x y t.0;
        under = inl refl;
      }
  fields_as (code x) (code y) unsound a b c h = absurd (false≢true ((and-eq-true_iff (is_below x y) false).0 h).1)
  fields_as (code x) empty k a b c h = absurd (false≢true h)
  fields_as (code x) unsound k a b c h = absurd (false≢true h)
  fields_as empty j k a b c h = absurd (false≢true h)
  fields_as unsound j k a b c h = absurd (false≢true h)

  pub fields_sound : is_sound_as (read s) (read e) (read p) ≡ true → SoundFields s e p (label_by s e p)
  fields_sound h = fields_as (read s) (read e) (read p) refl refl refl h

pub sound_gives : (b : List ℕ) → is_sound b ≡ true → Sound b (label_of b)
unfolding is_sound label_of
sound_gives b h =
    let t = (and-eq-true_iff (eqb (length b) label_size) _).0 h in
    let f = fields_sound _ _ _ t.1 in
    record {
      size = eqb-true (length b) label_size t.0;
      start_code = f.start_code;
      start_field = f.start_field;
      end_code = f.end_code;
      end_field = f.end_field;
      parent_side = f.parent_side;
      parent_field = f.parent_field;
      spans = f.spans;
      under = f.under;
    }

-- soundness field by field
not_start : (r e p : Reading) → is_code_held r ≡ false → is_sound_as r e p ≡ false
not_start (code s) e p h = absurd (false≢true (sym h))
not_start empty e p h = refl
not_start unsound e p h = refl

not_end : (r e p : Reading) → is_code_held e ≡ false → is_sound_as r e p ≡ false
not_end (code s) (code e) p h = absurd (false≢true (sym h))
not_end (code s) empty p h = refl
not_end (code s) unsound p h = refl
not_end empty e p h = refl
not_end unsound e p h = refl

both_codes : (r e p : Reading) → is_code_held r ≡ true → is_code_held e ≡ true
    → is_sound_as r e p ≡ (is_below (side_of r) (side_of e) && is_parent_sound p (side_of r))
both_codes (code s) (code e) p h k = refl
both_codes (code s) empty p h k = absurd (false≢true k)
both_codes (code s) unsound p h k = absurd (false≢true k)
both_codes empty e p h k = absurd (false≢true h)
both_codes unsound e p h k = absurd (false≢true h)

-- by the tests on the three fields
module _ (s e p : List ℕ) where
  abbrev tested : Bool
  tested = cond (is_code_held (read p)) (is_below p s) (is_empty_held (read p))

  at_parent : is_code_held (read s) ≡ true → (t : Bool) → is_code_held (read p) ≡ t
      → cond t (is_below p s) (is_empty_held (read p)) ≡ is_parent_sound (read p) (side_of (read s))
  at_parent h true k = parent_code p s k h
  at_parent h false k = parent_none (read p) (side_of (read s)) k

  at_end : is_code_held (read s) ≡ true → (t : Bool) → is_code_held (read e) ≡ t
      → (t && (is_below s e && tested)) ≡ is_sound_as (read s) (read e) (read p)
  at_end h true k =
      ap (λ (t : Bool). is_below s e && t) (at_parent h (is_code_held (read p)) refl)
      ∙ ap (λ (t : Bool). t && is_parent_sound (read p) (side_of (read s))) (held_below s e h k)
      ∙ sym (both_codes (read s) (read e) (read p) h k)
  at_end h false k = sym (not_end (read s) (read e) (read p) k)

  at_start : (t : Bool) → is_code_held (read s) ≡ t
      → (t && (is_code_held (read e) && (is_below s e && tested))) ≡ is_sound_as (read s) (read e) (read p)
  at_start true h = at_end h (is_code_held (read e)) refl
  at_start false h = sym (not_start (read s) (read e) (read p) h)

  pub sound_tests : are_sound s e p ≡ is_sound_as (read s) (read e) (read p)
  sound_tests = at_start (is_code_held (read s)) refl

-- for `Label::read`: a label of another size is not sound, and one of 96 bytes is as the tests say
pub unsound_size : (b : List ℕ) → (length b ≡ 96 → ⊥) → is_sound b ≡ false
unfolding is_sound
unsound_size b h = rw (ne_eqb (length b) label_size h) refl

pub sound_fields : (b s e p : List ℕ) → length b ≡ 96 → s ≡ field_at start_at b → e ≡ field_at end_at b → p ≡ field_at parent_at b
    → is_sound b ≡ are_sound s e p
unfolding is_sound
sound_fields b s e p h f g k = rw (eq-eqb (length b) label_size h, f, g, k) (sym (sound_tests _ _ _))

pub label_fields : (b s e p : List ℕ) → s ≡ field_at start_at b → e ≡ field_at end_at b → p ≡ field_at parent_at b
    → label_of b ≡ label_by s e p
unfolding label_of
label_fields b s e p f g k = rw (f, g, k) refl

pub ruleset soundness = (unsound_size, sound_fields, label_fields, sound_tests)
