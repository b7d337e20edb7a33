-- The tree test in both directions: it holds exactly where some sound tree has these lines. Assumes nothing.
use mathlib.Core.Path.{◌≡◌, refl, sym, subst}
use mathlib.Core.Logic.{◌⊎◌, inl, inr}
use mathlib.Core.Bool.{true, and-eq-true_iff}
use mathlib.Core.List.{List, [], ◌∷◌}
use Prim.Native.Nat.{ℕ, suc, pred}
use lib.Dec.{ltb}
use borrow.Author.Tests.{ltb-true, lt-ltb}
use Rattle.digits.specs.Lists.{All}
use Rattle.digits.specs.Order.{Digits, Below, is_below}
use Rattle.digits.proofs.OrderLaws.{is_below_true, below_trans}
use Rattle.codes.specs.Code.{IsCode, is_code}
use Rattle.codes.specs.Reading.{is_same}
use Rattle.codes.proofs.TestLaws.{is_code_true, true_is_code}
use Rattle.codes.proofs.ReadingLaws.{is_same_true, is_same_refl}
use Rattle.labels.proofs.LabelLaws.{is_below_holds}
use Rattle.trees.specs.Forest.{Forest, nil, node, preorder, Rooted}
use Rattle.trees.specs.Labelled.{Name, Entry, starts, ends, parents, Sound}
use Rattle.trees.specs.Check.{is_under, InPlace, is_tree_walk}
use Rattle.trees.proofs.ListLaws.{all_append}
use Rattle.trees.proofs.WalkLaws.{is_under_gives, gives_is_under}
use Rattle.trees.proofs.CheckLaws.{Facts, tree_of, tree_passes, facts_at}
use Rattle.registers.specs.Layout.{deepest}
use Rattle.registers.specs.Sound.{is_entry, lines_from, is_tree}

-- what the test of one entry says
abbrev Placed : ℕ → Digits → Digits → Digits → Entry Name → Type 0
Placed k p l r u = InPlace IsCode starts ends parents k p l r u

told : (k : ℕ) (p l r : Digits) (u : Entry Name) → is_entry k p l r u ≡ true → Placed k p l r u
told k p l r u e =
    let a = (and-eq-true_iff (ltb 0 k) _).0 e in
    let b = (and-eq-true_iff (is_code u.start) _).0 a.1 in
    let c = (and-eq-true_iff (is_code u.end) _).0 b.1 in
    let d = (and-eq-true_iff (is_below u.start u.end) _).0 c.1 in
    let f = (and-eq-true_iff (is_below l u.start) _).0 d.1 in
    let g = (and-eq-true_iff (is_under u.end r) (is_same u.parent p)).0 f.1 in
    record {
      deep = ltb-true 0 k a.0;
      start_code = is_code_true u.start b.0;
      end_code = is_code_true u.end c.0;
      above = is_below_holds l u.start f.0;
      inner = is_below_holds u.start u.end d.0;
      under = is_under_gives u.end r g.0;
      parented = is_same_true u.parent p g.1;
    }

tell : (k : ℕ) (p l r : Digits) (u : Entry Name) → Placed k p l r u → is_entry k p l r u ≡ true
tell k p l r u h =
    rw (
      lt-ltb 0 k h.deep,
      true_is_code u.start h.start_code,
      true_is_code u.end h.end_code,
      is_below_true u.start u.end h.inner,
      is_below_true l u.start h.above,
      gives_is_under u.end r h.under,
      h.parented,
    )
    (is_same_refl p)

abbrev Fact : ℕ → Digits → Digits → Digits → Forest (Entry Name) → Type 0
Fact k p l r f = Facts IsCode starts ends parents k p l r f

facts_are : (k : ℕ) (p l r : Digits) (f : Forest (Entry Name)) → Fact k p l r f → Sound IsCode k p l r f
facts_are k p l r f h = record { rising = h.rising; coded = h.coded; parented = h.parented; height = h.height }

are_facts : (k : ℕ) (p l r : Digits) (f : Forest (Entry Name)) → Sound IsCode k p l r f → Fact k p l r f
are_facts k p l r f h = record { rising = h.rising; coded = h.coded; parented = h.parented; height = h.height }

-- a label as 01 asks it of any entry of a sound register
pub record Label (u : Entry Name) : Type 0 where
  pub start_code : IsCode u.start
  pub end_code : IsCode u.end
  pub inner : Below u.start u.end
  pub parent : (u.parent ≡ []) ⊎ (IsCode u.parent × Below u.parent u.start)

-- the parent start of a row is no later than its left side
abbrev Parented : Digits → Digits → Type 0
Parented p l = (p ≡ []) ⊎ (IsCode p × ((p ≡ l) ⊎ Below p l))

parent_below : (p l x : Digits) → Parented p l → Below l x → (p ≡ []) ⊎ (IsCode p × Below p x)
parent_below p l x (inl e) b = inl e
parent_below p l x (inr (c, inl e)) b = inr (c, subst (λ z. Below z x) (sym e) b)
parent_below p l x (inr (c, inr d)) b = inr (c, below_trans p l x d b)

later_side : (p l x : Digits) → Parented p l → Below l x → Parented p x
later_side p l x (inl e) b = inl e
later_side p l x (inr (c, inl e)) b = inr (c, inr (subst (λ z. Below z x) (sym e) b))
later_side p l x (inr (c, inr d)) b = inr (c, inr (below_trans p l x d b))

labels_of : (k : ℕ) (p l r : Digits) (f : Forest (Entry Name)) → Parented p l → Fact k p l r f → All Label (preorder f)
labels_of k p l r nil q h = tt
labels_of k p l r (node u c s) q h =
    let w = facts_at IsCode starts ends parents k p l r u c s h in
    let i = w.place in
    let m : Below l u.end = below_trans l u.start u.end i.above i.inner in
    let v : Label u = record {
      start_code = i.start_code;
      end_code = i.end_code;
      inner = i.inner;
      parent = subst (λ z. (z ≡ []) ⊎ (IsCode z × Below z u.start)) (sym i.parented) (parent_below p l u.start q i.above);
    } in (
      v,
      all_append _ (preorder c) (preorder s)
          (labels_of (pred k) u.start u.start u.end c (inr (i.start_code, inl refl)) w.children)
          (labels_of k p u.end r s (later_side p l u.end q m) w.next),
    )

-- a tree for the lines
pub record Lined (b : List ℕ) (n : ℕ) : Type 0 where
  pub tree : Forest (Entry Name)
  pub rooted : Rooted tree
  pub entries : preorder tree ≡ lines_from b 0 n
  pub sound : Sound IsCode (suc deepest) [] [] [] tree

pub tree_lined : (b : List ℕ) (n : ℕ) → is_tree b n ≡ true → Lined b n
unfolding is_tree
tree_lined b n e =
    let t = tree_of IsCode starts ends parents is_entry told (suc deepest) (lines_from b 0 n) e in
    record { tree = t.tree; rooted = t.rooted; entries = t.entries; sound = facts_are (suc deepest) [] [] [] t.tree t.facts }

all_unit : (us : List (Entry Name)) → All (λ u. Unit {0}) us
all_unit [] = tt
all_unit (u ∷ us) = (tt, all_unit us)

pub lined_tree : (b : List ℕ) (n : ℕ) → Lined b n → is_tree b n ≡ true
unfolding is_tree
lined_tree b n t =
    subst (λ us. is_tree_walk starts ends is_entry (suc deepest) us ≡ true) t.entries
    (tree_passes IsCode starts ends parents is_entry (λ u. Unit {0}) (λ k p l r u _ h. tell k p l r u h) (suc deepest) t.tree t.rooted
    (are_facts (suc deepest) [] [] [] t.tree t.sound) (all_unit (preorder t.tree)))

pub tree_labels : (f : Forest (Entry Name)) → Sound IsCode (suc deepest) [] [] [] f → All Label (preorder f)
tree_labels f h = labels_of (suc deepest) [] [] [] f (inl refl) (are_facts (suc deepest) [] [] [] f h)
