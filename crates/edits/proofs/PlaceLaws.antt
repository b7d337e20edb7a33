-- Laws of a place in a sound register: what the lines say of the gap in the tree that they stand for. Assumes nothing.
use mathlib.Core.Path.{◌≡◌, refl, sym, ap, ◌∙◌, subst}
use mathlib.Core.Logic.{◌⊎◌, inl, inr}
use mathlib.Core.Bool.{Bool, true, false, cond}
use mathlib.Core.List.{List, [], map}
use Prim.Native.Nat.{ℕ, suc, ◌+◌, ◌≤◌, ◌<◌}
use native.Mathlib.Numerals.{add-one}
use native.Mathlib.Omega.{arith}
use lib.Dec.{eqb, ltb}
use mir.Val.{bool_byte}
use lib.ListN.{length, get_or, get_or-map}
use borrow.Author.Tests.{ltb-true}
use Rattle.digits.specs.Order.{Digits}
use Rattle.digits.specs.Code.{Rising, Formed}
use Rattle.digits.specs.Between.{between}
use Rattle.codes.specs.declared.spread.Code.{Code}
use Rattle.codes.specs.Code.{longest, IsCode}
use Rattle.codes.specs.Spread.{digits_of, Held}
use Rattle.trees.specs.Forest.{Forest, size, preorder}
use Rattle.trees.specs.Table.{rows}
use Rattle.trees.specs.Labelled.{Name, Entry, starts, ends, codes}
use Rattle.trees.specs.Edit.{Where, first_child, last_child, before, after, is_inside, Spot, ahead, level_at, spot_of, is_leaf}
use Rattle.trees.specs.Neighbours.{left_of, right_of, parent_at, new_entry}
use Rattle.trees.specs.Search.{is_upward, own_code, outermost, nearest, leading}
use Rattle.trees.proofs.ForestLaws.{length_preorder}
use Rattle.trees.proofs.NeighbourLaws.{parent_in, new_formed}
use Rattle.trees.proofs.PlaceLaws.{Own, Beside, beside, level_inner}
use Rattle.trees.proofs.SearchLaws.{other, leading_ahead, neighbour_found, leaf_ahead}
use Rattle.registers.specs.Entries.{code_at}
use Rattle.registers.specs.Layout.{most_entries, deepest, start_place, end_place, parent_place}
use Rattle.registers.specs.Sound.{line_at, CodeAt, SideAt}
use Rattle.registers.specs.Questions.{count_of, lines_of, is_register_sound, depth_in, tree_in}
use Rattle.registers.proofs.SoundLaws.{side_held}
use Rattle.registers.proofs.RowLaws.{lines_length}
use Rattle.registers.proofs.QuestionLaws.{line_at_lem, sized_of, depth_bound, codes_at, start_of, end_of, parent_of}
use Rattle.registers.proofs.AnswerLaws.{rows_lines, Stands, tree_stands}
use Rattle.edits.specs.Search.{own_place, parent_from}
use Rattle.edits.specs.Edits.{is_parented}

module _ (b : List ℕ) (e : is_register_sound b ≡ true) where
  abbrev f : Forest (Entry Name)
  f = tree_in b

  abbrev stands : Stands b
  stands = tree_stands b e

  pub rises : Rising [] (codes f) []
  rises = stands.sound.rising

  pub tree_size : size f ≡ count_of b
  tree_size = sym (length_preorder f) ∙ ap length stands.entries ∙ lines_length b 0 (count_of b)

  line_is : (i : ℕ) (z : Entry Name) → i < count_of b → get_or (lines_of b) i z ≡ line_at b i
  line_is i z h = line_at_lem b (count_of b) 0 i z h ∙ ap (line_at b) (let k : 0 + i ≡ i = omega arith in k)

  row_is : (i : ℕ) (z : Entry Name) → i < count_of b
      → get_or (rows 0 f) i (z, depth_in z (lines_of b)) ≡ (line_at b i, depth_in (line_at b i) (lines_of b))
  row_is i z h =
      let us = lines_of b in
      let r : rows 0 f ≡ map (λ u. (u, depth_in u us)) us =
      rows_lines f rises ∙ ap (λ vs. map (λ u. (u, depth_in u vs)) vs) stands.entries in
      ap (λ (t : List (Entry Name × ℕ)). get_or t i (z, depth_in z us)) r ∙ get_or-map (λ u. (u, depth_in u us)) us i z
      ∙ ap (λ u. (u, depth_in u us)) (line_is i z h)

  -- the place at line i
  module _ (w : Where) (i : ℕ) (h : i < count_of b) where
    abbrev q : Spot f
    q = spot_of w i f

    inside_tree : i < size f
    inside_tree = omega (arith, tree_size)

    place_at : Beside w (line_at b i) (depth_in (line_at b i) (lines_of b)) [] [] [] 0 f q
    place_at =
        let z = line_at b i in
        subst (λ (r : Entry Name × ℕ). Beside w r.0 r.1 [] [] [] 0 f q) (row_is i z h)
        (beside w f i inside_tree (z, depth_in z (lines_of b)) [] [] [] 0 stands.sound.parented)

    -- its depth: that of its target, and one more inside
    pub level_is : (n k : ℕ) (t : Bool) → n ≡ depth_in (line_at b i) (lines_of b) → k ≡ bool_byte t → t ≡ is_inside w
        → n + k ≡ level_at f q
    level_is n k t d o e =
        let l : 0 + level_at f q ≡ cond t (suc n) n = rw (d, e) place_at.level in
        omega (arith, l, o, step t n)
      where
        step : (t : Bool) (n : ℕ) → cond t (suc n) n ≡ n + bool_byte t
        step true n = omega arith
        step false n = omega arith

    -- the target's own code
    pub own_at : CodeAt b (own_place w i)
    own_at = go w
      where
        go : (v : Where) → CodeAt b (own_place v i)
        go first_child = (codes_at b e i h).start_at_lem
        go last_child = (codes_at b e i h).end_at_lem
        go before = (codes_at b e i h).start_at_lem
        go after = (codes_at b e i h).end_at_lem

    pub own_found : (own : ℕ) → own ≡ own_place w i → CodeAt b own
    own_found own e = subst (CodeAt b) (sym e) own_at

    own_is : own_code w (line_at b i) ≡ code_at b (own_place w i)
    own_is = go w
      where
        go : (v : Where) → own_code v (line_at b i) ≡ code_at b (own_place v i)
        go first_child = start_of b e i h
        go last_child = end_of b e i h
        go before = start_of b e i h
        go after = end_of b e i h

    own_side : (t : Bool) → is_upward w ≡ t → Own t (code_at b (own_place w i)) (left_of starts ends f q) (right_of starts ends f q)
    own_side t k =
        subst (λ (x : Digits). Own t x (left_of starts ends f q) (right_of starts ends f q)) own_is
        (subst (λ (t : Bool). Own t (own_code w (line_at b i)) (left_of starts ends f q) (right_of starts ends f q)) k place_at.own)

    -- it is the left neighbour or the right one
    pub own_left : (own : ℕ) → own ≡ own_place w i → is_upward w ≡ true → code_at b own ≡ left_of starts ends f q
    own_left own e k = ap (code_at b) e ∙ sym (own_side true k)

    pub own_right : (own : ℕ) → own ≡ own_place w i → is_upward w ≡ false → code_at b own ≡ right_of starts ends f q
    own_right own e k = ap (code_at b) e ∙ sym (own_side false k)

    module _ (p : is_parented w i ≡ true) where
      pub inner : 0 < level_at f q
      inner = level_inner w i f stands.rooted inside_tree (go (is_inside w) refl)
        where
          go : (t : Bool) → is_inside w ≡ t → (is_inside w ≡ true) ⊎ (0 < i)
          go true k = inl k
          go false k = inr (ltb-true 0 i (sym (ap (λ (t : Bool). cond t true (ltb 0 i)) k) ∙ p))

      -- the search from the target's own code finds the other neighbour
      pub found_other : nearest (is_upward w) (own_code w (line_at b i)) (outermost (is_upward w) (line_at b 0)) (lines_of b)
          ≡ other (is_upward w) (left_of starts ends f q) (right_of starts ends f q)
      found_other =
          let z = line_at b 0 in
          let o : get_or (preorder f) 0 z ≡ z = ap (λ us. get_or us 0 z) stands.entries ∙ line_is 0 z (omega arith) in
          ap (λ us. nearest (is_upward w) (own_code w (line_at b i)) (outermost (is_upward w) z) us) (sym stands.entries)
          ∙ ap (λ (u : Entry Name). nearest (is_upward w) (own_code w (line_at b i)) (outermost (is_upward w) u) (preorder f)) (sym o)
          ∙ neighbour_found (is_upward w) (own_code w (line_at b i)) f q z stands.rooted rises inner place_at.own

      other_is : (r own : ℕ) (up : Bool) → up ≡ is_upward w → own ≡ own_place w i
          → code_at b r ≡ nearest up (code_at b own) (outermost up (line_at b 0)) (lines_of b)
          → code_at b r ≡ other up (left_of starts ends f q) (right_of starts ends f q)
      other_is r own up k o n =
          n ∙ ap (λ (z : ℕ). nearest up (code_at b z) (outermost up (line_at b 0)) (lines_of b)) o
          ∙ ap (λ (x : Digits). nearest up x (outermost up (line_at b 0)) (lines_of b)) (sym own_is)
          ∙ subst
          (λ (t : Bool). nearest t (own_code w (line_at b i)) (outermost t (line_at b 0)) (lines_of b)
          ≡ other t (left_of starts ends f q) (right_of starts ends f q)) (sym k) found_other

      pub other_right : (r own : ℕ) → own ≡ own_place w i → is_upward w ≡ true
          → code_at b r ≡ nearest true (code_at b own) (outermost true (line_at b 0)) (lines_of b) → code_at b r ≡ right_of starts ends f q
      other_right r own o u n = other_is r own true (sym u) o n

      pub other_left : (r own : ℕ) → own ≡ own_place w i → is_upward w ≡ false
          → code_at b r ≡ nearest false (code_at b own) (outermost false (line_at b 0)) (lines_of b) → code_at b r ≡ left_of starts ends f q
      other_left r own o u n = other_is r own false (sym u) o n

      -- the parent start of what is put in
      parent_is : parent_at [] f q ≡ code_at b (parent_from w i)
      parent_is = place_at.parented ∙ go (is_inside w)
        where
          go : (t : Bool) → cond t (line_at b i).start (line_at b i).parent ≡ code_at b (cond t (start_place i) (parent_place i))
          go true = start_of b e i h
          go false = parent_of b e i h

      parent_code : IsCode (code_at b (parent_from w i))
      parent_code = subst IsCode parent_is (parent_in IsCode [] f q (λ z. absurd (omega (arith, inner))) stands.sound.coded)

      pub parent_found : (r : ℕ) → r ≡ parent_from w i → CodeAt b r × IsCode (code_at b r) × (code_at b r ≡ parent_at [] f q)
      parent_found r k =
          subst (λ (z : ℕ). CodeAt b z × IsCode (code_at b z) × (code_at b z ≡ parent_at [] f q)) (sym k)
          (side_held b (parent_from w i) (go (is_inside w)) parent_code, parent_code, sym parent_is)
        where
          go : (t : Bool) → SideAt b (cond t (start_place i) (parent_place i))
          go true = (codes_at b e i h).start_side
          go false = (codes_at b e i h).parent_side

      -- the lines that start below the right neighbour are those before the place
      pub found_place : leading (right_of starts ends f q) (lines_of b) ≡ length (ahead f q)
      found_place = ap (leading (right_of starts ends f q)) (sym stands.entries) ∙ leading_ahead f q rises inner

  pub leaf_is : (i n : ℕ) → i < count_of b → n ≡ leading (code_at b (end_place i)) (lines_of b) → eqb n (i + 1) ≡ is_leaf i f
  leaf_is i n h k =
      let r : code_at b (end_place i) ≡ right_of starts ends f (spot_of last_child i f) =
      sym ((place_at last_child i h).own ∙ end_of b e i h) in
      let m : n ≡ length (ahead f (spot_of last_child i f)) =
      k ∙ ap (λ (x : Digits). leading x (lines_of b)) r ∙ found_place last_child i h refl in
      rw (m, add-one i) (leaf_ahead f i (inside_tree last_child i h))

  -- the new codes have the form of codes
  pub new_codes : (m : Name) (q : Spot f) → Formed 1 3 (new_entry m f q).start × Formed 1 3 (new_entry m f q).end
  new_codes m q = new_formed longest (suc deepest) f q stands.sound m

-- the step on two spread codes is the step on their digits
pub held_step : (l r s : Code) (x y : Digits) → digits_of l ≡ x → digits_of r ≡ y → Held s (between (digits_of l) (digits_of r))
    → Held s (between x y)
held_step l r s x y i j h = rw (sym i, sym j) h

pub held_code : (s : Code) (x : Digits) → Held s x → Formed 1 3 x → s.count ≤ longest → IsCode (digits_of s)
held_code s x h k n = rw h.digits (record { formed = k; fits = omega (arith, h.count) })

-- a depth is at most the number of entries
pub depth_most : (b : List ℕ) (i n : ℕ) → is_register_sound b ≡ true → n ≡ depth_in (line_at b i) (lines_of b) → n ≤ most_entries
depth_most b i n e d = omega (arith, d, depth_bound b i, (sized_of b e).most)

pub bool_byte_most : (t : Bool) → bool_byte t ≤ 1
bool_byte_most true = omega arith
bool_byte_most false = omega arith

pub ruleset sides = (own_found, own_left, own_right, other_right, other_left)
