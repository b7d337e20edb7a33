-- Laws of the walk over a register's lines by their numbers: each step of a row, with no fuel and no lists. Assumes nothing.
use mathlib.Core.Path.{◌≡◌, refl, sym, ap, ◌∙◌}
use mathlib.Core.Bool.{Bool, true, false, cond, ◌&&◌}
use mathlib.Core.List.{List, [], ◌∷◌}
use Prim.Native.Nat.{ℕ, zero, suc, pred, ◌+◌, ◌-◌, ◌≤◌, ◌<◌}
use native.Mathlib.Numerals.{add-one}
use native.Mathlib.Omega.{arith}
use lib.Dec.{eqb, ltb}
use lib.ListN.{length, drop}
use borrow.Author.Tests.{eq-eqb, ne_eqb, lt-ltb}
use Rattle.digits.specs.Order.{Digits, is_below}
use Rattle.digits.proofs.OrderLaws.{is_below_true}
use Rattle.codes.specs.Code.{IsCode}
use Rattle.codes.specs.Reading.{is_same}
use Rattle.codes.proofs.TestLaws.{true_is_code}
use Rattle.trees.specs.Labelled.{Name, Entry, starts, ends}
use Rattle.trees.specs.Check.{is_under, Rest, rest, fault, then_from, is_whole, row_walk, is_tree_walk}
use Rattle.trees.proofs.WalkLaws.{row_rest, row_none, row_out, row_bad, row_on}
use Rattle.std.specs.Prelude.{Option, Some, None}
use Rattle.registers.specs.Layout.{start_place, end_place, parent_place, HasPlace}
use Rattle.registers.specs.Entries.{code_at, entry_at}
use Rattle.registers.specs.Sound.{is_sound_label, is_tree, line_at, lines_from, is_entry, placed, row_from, levels, children_from, entry_from, HasLabels}
use Rattle.registers.proofs.SoundLaws.{sound_at, has_place, label_sound, label_codes}

-- lines by their numbers
pub lines_length : (b : List ℕ) (i m : ℕ) → length (lines_from b i m) ≡ m
lines_length b i zero = refl
lines_length b i (suc m) = ap suc (lines_length b (suc i) m)

lines_drop : (b : List ℕ) (j i m : ℕ) → drop j (lines_from b i m) ≡ lines_from b (i + j) (m - j)
lines_drop b zero i m =
    let e : i + 0 ≡ i = omega arith in
    let f : m - 0 ≡ m = omega arith in
    rw (e, f) refl
lines_drop b (suc j) i zero =
    let f : 0 - suc j ≡ 0 = omega arith in
    rw f refl
lines_drop b (suc j) i (suc m) =
    let e : i + suc j ≡ suc i + j = omega arith in
    let f : suc m - suc j ≡ m - j = omega arith in
    rw (e, f) (lines_drop b j (suc i) m)

pub lines_next : (b : List ℕ) (n i : ℕ) → i < n → lines_from b i (n - i) ≡ line_at b i ∷ lines_from b (suc i) (n - suc i)
lines_next b n i h = let e : n - i ≡ suc (n - suc i) = omega arith in rw e refl

-- a line whose label is sound is the entry that is read; any other has no codes
pub line_sound : (b : List ℕ) (i : ℕ) → is_sound_label b i ≡ true → line_at b i ≡ entry_at b i
unfolding line_at
line_sound b i h = rw h refl

pub line_start : (b : List ℕ) (i : ℕ) → is_sound_label b i ≡ true → (line_at b i).start ≡ code_at b (start_place i)
unfolding entry_at
line_start b i h = ap (λ (u : Entry Name). u.start) (line_sound b i h)

pub line_end : (b : List ℕ) (i : ℕ) → is_sound_label b i ≡ true → (line_at b i).end ≡ code_at b (end_place i)
unfolding entry_at
line_end b i h = ap (λ (u : Entry Name). u.end) (line_sound b i h)

pub line_parent : (b : List ℕ) (i : ℕ) → is_sound_label b i ≡ true → (line_at b i).parent ≡ code_at b (parent_place i)
unfolding entry_at
line_parent b i h = ap (λ (u : Entry Name). u.parent) (line_sound b i h)

pub line_blank : (b : List ℕ) (i : ℕ) → is_sound_label b i ≡ false → (line_at b i).start ≡ []
unfolding line_at
line_blank b i h = rw h refl

-- a code has digits, and no digits are below it
under_code : (x r : Digits) → IsCode r → is_under x r ≡ is_below x r
under_code x [] c = absurd c.formed
under_code x (d ∷ r) c = refl

nothing_below : (r : Digits) → IsCode r → is_below [] r ≡ true
nothing_below [] c = absurd c.formed
nothing_below (d ∷ r) c = refl

-- what is asked of a line whose label is sound
entry_test : (b : List ℕ) (i k : ℕ) (p l r : Digits) → HasPlace b i → is_sound_label b i ≡ true → IsCode r
    → is_entry k p l r (line_at b i)
    ≡ (ltb 0 k
    && (is_below l (code_at b (start_place i)) && (is_below (code_at b (end_place i)) r && is_same (code_at b (parent_place i)) p)))
entry_test b i k p l r h t c =
    let s = sound_at b i h t in
    rw (
      line_start b i t,
      line_end b i t,
      line_parent b i t,
      true_is_code _ s.start_code,
      true_is_code _ s.end_code,
      is_below_true _ _ s.inner,
      under_code _ r c,
    ) refl

-- where a walk came to, by what is left
to_is : {m n : ℕ} → Some m ≡ Some n → m ≡ n
to_is e = cc

never : {A : Type 0} {n : ℕ} → None ≡ Some n → A
never e = let z : ◌≡◌ {A = ℕ} 0 1 = cc in absurd (omega arith)

pub row_past : (b : List ℕ) (n k : ℕ) (p l r : Digits) → Some n ≡ row_from b n k p l r n
unfolding row_from
row_past b n k p l r =
    let z : n - n ≡ 0 = omega arith in
    let y : n - 0 ≡ n = omega arith in
    rw (z, row_none starts ends is_entry k p l r, y) refl

module _ (b : List ℕ) (n k : ℕ) (p l r : Digits) (i : ℕ) (h : i < n) (c : IsCode r) where
  abbrev pub x : Entry Name
  x = line_at b i

  abbrev pub xs : List (Entry Name)
  xs = lines_from b (suc i) (n - suc i)

  row_is : row_from b n k p l r i ≡ placed n (row_walk starts ends is_entry k p l r (x ∷ xs))
  unfolding row_from
  row_is = ap (λ us. placed n (row_walk starts ends is_entry k p l r us)) (lines_next b n i h)

  module _ (t : is_sound_label b i ≡ true) where
    under_is : is_under x.start r ≡ is_below (code_at b (start_place i)) r
    under_is = ap (λ z. is_under z r) (line_start b i t) ∙ under_code (code_at b (start_place i)) r c

    -- an entry that does not start below the right side ends the row
    row_stops : is_below (code_at b (start_place i)) r ≡ false → Some i ≡ row_from b n k p l r i
    row_stops f =
        let m : n - length (x ∷ xs) ≡ i = omega (arith, lines_length b (suc i) (n - suc i)) in
        sym (row_is ∙ ap (placed n) (row_out starts ends is_entry k p l r x xs (under_is ∙ f)) ∙ ap Some m)

    module _ (f : is_below (code_at b (start_place i)) r ≡ true) where
      -- one that is not in its place is a fault
      row_fails : is_entry k p l r x ≡ false → row_from b n k p l r i ≡ None
      row_fails o = row_is ∙ ap (placed n) (row_bad starts ends is_entry k p l r x xs (under_is ∙ f) o)

      -- one in its place: the row goes on behind its children, or their fault is the row's
      abbrev children : Rest (Entry Name)
      children = row_walk starts ends is_entry (pred k) x.start x.start x.end xs

      row_then : is_entry k p l r x ≡ true
          → row_from b n k p l r i ≡ placed n (then_from children (λ us. row_walk starts ends is_entry k p x.end r us))
      row_then o = row_is ∙ ap (placed n) (row_on starts ends is_entry k p l r x xs (under_is ∙ f) o)

pred_is : (m : ℕ) → pred m ≡ m - 1
pred_is zero = refl
pred_is (suc m) = omega arith

deeper : (depth : ℕ) → pred (levels depth) ≡ levels (depth + 1)
deeper depth = pred_is (levels depth) ∙ omega arith

-- what the walk of an entry says of its parent's row
pub record Went (b : List ℕ) (n parent depth : ℕ) (l : Digits) (i next : ℕ) : Type 0 where
  pub later : i < next
  pub inside : next ≤ n
  pub same : children_from b n parent depth l i ≡ children_from b n parent depth (code_at b (end_place i)) next

-- line i among n lines with sound labels, in the row of children of another
module _ (b : List ℕ) (n parent depth : ℕ) (l : Digits) (i : ℕ) (labels : HasLabels b n) (q : parent < n) (h : i < n) where
  abbrev k : ℕ
  k = levels depth

  abbrev p : Digits
  p = code_at b (start_place parent)

  abbrev r : Digits
  r = code_at b (end_place parent)

  coded : IsCode r
  coded = (label_codes b n parent labels q).end_code

  label : is_sound_label b i ≡ true
  label = label_sound b n i labels.1 h

  -- the row ends at an entry that does not start below its parent's end
  pub row_ends : is_below (code_at b (start_place i)) r ≡ false → Some i ≡ children_from b n parent depth l i
  row_ends f = row_stops b n k p l r i h coded label f

  module _ (f : is_below (code_at b (start_place i)) r ≡ true) where
    abbrev inner : Rest (Entry Name)
    inner = children b n k p l r i h coded label f

    -- the children of the line are those of the entry
    inner_is : children_from b n i (depth + 1) (code_at b (start_place i)) (i + 1) ≡ placed n inner
    unfolding row_from
    inner_is = rw (add-one i, line_start b i label, line_end b i label, deeper depth) refl

    unfoldable onward : Rest (Entry Name) → Option ℕ
    onward m = placed n (then_from m (λ us. row_walk starts ends is_entry k p (line_at b i).end r us))

    went : (next : ℕ) (m : Rest (Entry Name)) → inner ≡ m → placed n m ≡ Some next → children_from b n parent depth l i ≡ onward m
        → Went b n parent depth l i next
    unfolding row_from onward
    went next fault e g a = never g
    went next (rest us) e g a =
        let q = row_rest starts ends is_entry (pred k) (line_at b i).start (line_at b i).start (line_at b i).end
        (lines_from b (suc i) (n - suc i)) us e in
        let w : length (lines_from b (suc i) (n - suc i)) ≡ n - suc i = lines_length b (suc i) (n - suc i) in
        let v : n - length us ≡ next = to_is g in
        let m : ℕ = length (lines_from b (suc i) (n - suc i)) - length us in
        let j : next ≡ suc i + m = omega (arith, q.0) in
        let z : n - next ≡ n - suc i - m = omega (arith, q.0) in
        let d : lines_from b next (n - next) ≡ us = rw (z, j) (sym (lines_drop b m (suc i) (n - suc i)) ∙ q.1) in
        record {
          later = omega (arith, q.0);
          inside = omega arith;
          same = a ∙ rw (line_end b i label, ← d) refl;
        }

    pub row_to : (next : ℕ) → entry_from b n parent depth l i ≡ Some next → Went b n parent depth l i next
    unfolding onward
    row_to next g = go (is_entry k p l r (line_at b i)) refl g
      where
        go : (o : Bool) → is_entry k p l r (line_at b i) ≡ o
            → cond o (children_from b n i (depth + 1) (code_at b (start_place i)) (i + 1)) None ≡ Some next
            → Went b n parent depth l i next
        go true o g = went next inner refl (sym inner_is ∙ g) (row_then b n k p l r i h coded label f o)
        go false o g = never g

    pub row_un : entry_from b n parent depth l i ≡ None → children_from b n parent depth l i ≡ None
    unfolding onward
    row_un g = go (is_entry k p l r (line_at b i)) refl g
      where
        stops : (m : Rest (Entry Name)) → placed n m ≡ None → onward m ≡ None
        stops fault e = refl
        stops (rest us) e = never (sym e)

        go : (o : Bool) → is_entry k p l r (line_at b i) ≡ o
            → cond o (children_from b n i (depth + 1) (code_at b (start_place i)) (i + 1)) None ≡ None
            → children_from b n parent depth l i ≡ None
        go true o g = row_then b n k p l r i h coded label f o ∙ stops inner (sym inner_is ∙ g)
        go false o g = row_fails b n k p l r i h coded label f o

  -- the walk of an entry that is not too deep: its row of children, or a fault where it is not in its place
  module _ (s : depth ≤ 63) where
    abbrev is_placed : Bool
    is_placed =
        is_below l (code_at b (start_place i))
        && (is_below (code_at b (end_place i)) r && is_same (code_at b (parent_place i)) p)

    entry_is : is_entry k p l r (line_at b i) ≡ is_placed
    entry_is =
        entry_test b i k p l r (has_place b n i labels.0 h) label coded
        ∙ ap (λ (z : Bool). z && is_placed) (lt-ltb 0 k (omega arith))

    pub entry_on : is_placed ≡ true → children_from b n i (depth + 1) (code_at b (start_place i)) (i + 1) ≡ entry_from b n parent depth l i
    entry_on e = rw (entry_is, e) refl

    pub entry_no : is_placed ≡ false → None ≡ entry_from b n parent depth l i
    entry_no e = rw (entry_is, e) refl

pub entry_deep : (b : List ℕ) (n parent depth : ℕ) (l : Digits) (i : ℕ) → 63 < depth → None ≡ entry_from b n parent depth l i
entry_deep b n parent depth l i h = let z : levels depth ≡ 0 = omega arith in rw z refl

-- the tree test: the root's label, its parent start, and whether its children and theirs are all the rest
module _ (b : List ℕ) (n : ℕ) (some : 0 < n) where
  first_line : lines_from b 0 n ≡ line_at b 0 ∷ lines_from b 1 (n - 1)
  first_line = let e : n ≡ suc (n - 1) = omega arith in ap (lines_from b 0) e

  abbrev inside : Rest (Entry Name)
  inside = row_walk starts ends is_entry 63 (line_at b 0).start (line_at b 0).start (line_at b 0).end (lines_from b 1 (n - 1))

  tree_is : is_tree b n ≡ (is_entry 64 [] [] [] (line_at b 0) && is_whole inside)
  unfolding is_tree
  tree_is = ap (is_tree_walk starts ends is_entry 64) first_line

  module _ (labels : HasLabels b n) where
    t : is_sound_label b 0 ≡ true
    t = label_sound b n 0 labels.1 some

    root_is : is_entry 64 [] [] [] (line_at b 0) ≡ is_same (code_at b (parent_place 0)) []
    root_is =
        let s = label_codes b n 0 labels some in
        rw (
          line_start b 0 t,
          line_end b 0 t,
          line_parent b 0 t,
          true_is_code _ s.start_code,
          true_is_code _ s.end_code,
          is_below_true _ _ s.inner,
          nothing_below _ s.start_code,
        ) refl

    pub tree_child : is_same (code_at b (parent_place 0)) [] ≡ false → false ≡ is_tree b n
    tree_child o = sym (tree_is ∙ ap (λ (z : Bool). z && is_whole inside) (root_is ∙ o))

    inside_is : children_from b n 0 1 (code_at b (start_place 0)) 1 ≡ placed n inside
    unfolding row_from
    inside_is = rw (line_start b 0 t, line_end b 0 t) refl

    tree_whole : is_same (code_at b (parent_place 0)) [] ≡ true → is_tree b n ≡ is_whole inside
    tree_whole o = tree_is ∙ ap (λ (z : Bool). z && is_whole inside) (root_is ∙ o)

    all_used : (m : Rest (Entry Name)) → inside ≡ m → (end : ℕ) → placed n m ≡ Some end → eqb end n ≡ is_whole m
    all_used fault e end g = never g
    all_used (rest []) e end g = let z : end ≡ n = sym (to_is g) ∙ omega arith in eq-eqb end n z
    all_used (rest (u ∷ us)) e end g =
        let q = row_rest starts ends is_entry 63 (line_at b 0).start (line_at b 0).start (line_at b 0).end (lines_from b 1 (n - 1))
        (u ∷ us) e in
        let w = lines_length b 1 (n - 1) in
        let v : n - suc (length us) ≡ end = to_is g in
        ne_eqb end n (λ z. omega (arith, q.0))

    pub tree_end : is_same (code_at b (parent_place 0)) [] ≡ true
        → (end : ℕ) → children_from b n 0 1 (code_at b (start_place 0)) 1 ≡ Some end
        → eqb end n ≡ is_tree b n
    tree_end o end g = all_used inside refl end (sym inside_is ∙ g) ∙ sym (tree_whole o)

    pub tree_un : is_same (code_at b (parent_place 0)) [] ≡ true → children_from b n 0 1 (code_at b (start_place 0)) 1 ≡ None
        → false ≡ is_tree b n
    tree_un o g = sym (tree_whole o ∙ go inside (sym inside_is ∙ g))
      where
        go : (m : Rest (Entry Name)) → placed n m ≡ None → is_whole m ≡ false
        go fault e = refl
        go (rest us) e = never (sym e)
