-- What a type for a register that is read says of the fields that the code reads. Assumes nothing.
use Rattle.std.specs.Prelude.{Option, Some, None, nat_eq}
use Rattle.std.specs.Option.{option_eq}
use mathlib.Core.Path.{◌≡◌, refl, sym, ap, ◌∙◌, subst}
use mathlib.Core.Bool.{Bool, true, false, ◌&&◌}
use mathlib.Core.List.{List, []}
use Prim.Native.Nat.{ℕ, ◌<◌}
use native.Mathlib.Omega.{arith}
use Rattle.digits.specs.Order.{is_below}
use Rattle.codes.specs.Reading.{read, is_empty_held, is_same}
use Rattle.labels.specs.Label.{field_at}
use Rattle.identities.specs.Rows.{is_all_new}
use Rattle.registers.specs.Layout.{start_place, end_place, parent_place}
use Rattle.registers.specs.Entries.{code_at}
use Rattle.registers.specs.Holds.{identities}
use Rattle.registers.specs.Sound.{is_sound_label, is_sound_labels, line_at, is_tree, children_from, CodeAt, SideAt, HasEntries}
use Rattle.registers.specs.Questions.{count_of, lines_of, is_sized, is_register_sound, is_above_entry}
use Rattle.registers.proofs.SoundLaws.{SoundAt, label_codes, label_sound, labels_all, side_empty}
use Rattle.registers.proofs.RowLaws.{tree_child, tree_end, tree_un}
use Rattle.registers.proofs.QuestionLaws.{labels_sound, above_is, unsound_tree, not_sized, not_new, by_tree}

-- the labels of a sound register are all sound
pub all_sound : (b : List ℕ) (n : ℕ) → is_register_sound b ≡ true → n ≡ count_of b → is_sound_labels b n ≡ true
all_sound b n s e = labels_all b n (λ i h. labels_sound b i s (omega arith))

module _ (b : List ℕ) (n i at : ℕ) (entries : HasEntries b n) (labels : is_sound_labels b n ≡ true) (h : i < n) where
  codes : SoundAt b i
  codes = label_codes b n i (entries, labels) h

  pub start_held : at ≡ start_place i → CodeAt b at
  start_held e = subst (CodeAt b) (sym e) codes.start_at_lem

  pub end_held : at ≡ end_place i → CodeAt b at
  end_held e = subst (CodeAt b) (sym e) codes.end_at_lem

  pub start_sided : at ≡ start_place i → SideAt b at
  start_sided e = subst (SideAt b) (sym e) codes.start_side

  pub parent_sided : at ≡ parent_place i → SideAt b at
  parent_sided e = subst (SideAt b) (sym e) codes.parent_side

pub ruleset held = (start_held, end_held, start_sided, parent_sided)

-- above, by the two fields that the code compares
pub above_fields : (b : List ℕ) (n i j : ℕ) → is_sound_labels b n ≡ true → i < n → j < n
    → (is_below (code_at b (start_place i)) (code_at b (start_place j)) && is_below (code_at b (end_place j)) (code_at b (end_place i)))
    ≡ is_above_entry (line_at b i) (line_at b j)
above_fields b n i j labels h k = sym (above_is b i j (label_sound b n i labels h) (label_sound b n j labels k))

-- the root's parent start is empty where its field is
pub orphan_field : (b f : List ℕ) (n at : ℕ) → HasEntries b n → is_sound_labels b n ≡ true → 0 < n → at ≡ parent_place 0 → f ≡ field_at at b
    → is_empty_held (read f) ≡ is_same (code_at b (parent_place 0)) []
orphan_field b f n at entries labels some e g =
    side_empty b f (parent_place 0) (parent_sided b n 0 (parent_place 0) entries labels some refl)
    (g ∙ ap (λ (k : ℕ). field_at k b) e)

-- a label that is not sound
pub labels_not : (b : List ℕ) (n i : ℕ) → i < n → is_sound_label b i ≡ false → is_sound_labels b n ≡ false
labels_not b n i h e = go (is_sound_labels b n) refl
  where
    go : (t : Bool) → is_sound_labels b n ≡ t → t ≡ false
    go true f = sym (label_sound b n i f h) ∙ e
    go false f = refl

-- the parts of a sound register, and what is none
pub parts_sound : (b : List ℕ) (n : ℕ) → is_sized b ≡ true → n ≡ count_of b → is_all_new (identities (lines_of b)) ≡ true
    → is_tree b n ≡ true
    → is_register_sound b ≡ true
parts_sound b n s e i t = sym (by_tree b s i) ∙ ap (is_tree b) (sym e) ∙ t

pub unsized : (b : List ℕ) → is_sized b ≡ false → is_register_sound b ≡ false
unsized b s = sym (not_sized b s)

pub unnew : (b : List ℕ) → is_sized b ≡ true → is_all_new (identities (lines_of b)) ≡ false → is_register_sound b ≡ false
unnew b s i = sym (not_new b s i)

pub untree : (b : List ℕ) (n : ℕ) → is_sized b ≡ true → n ≡ count_of b → is_all_new (identities (lines_of b)) ≡ true
    → is_tree b n ≡ false
    → is_register_sound b ≡ false
untree b n s e i t = sym (by_tree b s i) ∙ ap (is_tree b) (sym e) ∙ t

pub ruleset checked = (parts_sound, unsized, unnew, untree)

-- the tree test by the row of the root's children
module _ (b : List ℕ) (n : ℕ) (some : 0 < n) (entries : HasEntries b n) (labels : is_sound_labels b n ≡ true) where
  pub no_orphan : is_same (code_at b (parent_place 0)) [] ≡ false → is_tree b n ≡ false
  no_orphan o = sym (tree_child b n some (entries, labels) o)

  pub root_row : is_same (code_at b (parent_place 0)) [] ≡ true → (r : Option ℕ)
      → r ≡ children_from b n 0 1 (code_at b (start_place 0)) 1
      → option_eq nat_eq r (Some n) ≡ is_tree b n
  root_row o (Some end) g = tree_end b n some (entries, labels) o end (sym g)
  root_row o None g = tree_un b n some (entries, labels) o (sym g)

pub no_labels : (b : List ℕ) (n : ℕ) → is_sound_labels b n ≡ false → is_tree b n ≡ false
no_labels b n e = sym (unsound_tree b n e)

pub ruleset treed = (no_orphan, root_row, no_labels)
