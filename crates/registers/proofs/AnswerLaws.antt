-- What the questions on a register say of the tree that it holds: places in document order, depths as numbers of ancestors.
-- Assumes nothing.
use mathlib.Core.Path.{◌≡◌, refl, sym, ap, ◌∙◌, subst}
use mathlib.Core.Logic.{inl, inr, ◌≢◌, ◌↔◌}
use mathlib.Core.Bool.{Bool, true, false, cond, and-eq-true_iff, and-false}
use mathlib.Core.List.{List, [], ◌∷◌, ◌++◌, map}
use Prim.Native.Nat.{ℕ, zero, suc, ◌+◌, ◌≤◌, ◌<◌}
use native.Mathlib.Omega.{arith}
use lib.Dec.{eqb}
use lib.IntN.{ℤ}
use lib.ListN.{length, get_or}
use borrow.Author.Tests.{eqb-true, eq-eqb, ne_eqb}
use Rattle.digits.specs.Lists.{All, Distinct}
use Rattle.digits.specs.Order.{Digits, Below, is_below}
use Rattle.digits.proofs.ListLaws.{all_map, all_at}
use Rattle.digits.specs.Code.{Rising}
use Rattle.digits.proofs.OrderLaws.{below_irrefl, below_trans, below_asym, is_below_true, is_below_false}
use Rattle.codes.specs.Code.{field_size, IsCode}
use Rattle.codes.specs.Reading.{read, side_of}
use Rattle.labels.specs.Label.{start_at, end_at, parent_at, label_size, field_at, Label, label_of}
use Rattle.labels.specs.Questions.{asked}
use Rattle.identities.proofs.RowLaws.{differs}
use Rattle.labels.proofs.LabelLaws.{is_below_holds}
use Rattle.trees.specs.Lists.{Member}
use Rattle.trees.specs.Forest.{Forest, nil, node, preorder, Rooted}
use Rattle.trees.specs.Axes.{Has, Ancestor, Depth}
use Rattle.trees.specs.Table.{rows, forest}
use Rattle.trees.specs.Tour.{tour}
use Rattle.trees.specs.Labelled.{Name, Entry, starts, ends, codes, Sound}
use Rattle.trees.proofs.ListLaws.{gives_all, all_append, member_left, member_right}
use Rattle.trees.proofs.ForestLaws.{has_gives_all}
use Rattle.trees.proofs.DistinctLaws.{one_depth}
use Rattle.trees.proofs.TableLaws.{forest_rows, preorder_rows}
use Rattle.trees.proofs.DepthLaws.{depth_has, row_depth}
use Rattle.trees.proofs.TourLaws.{under_real, at, inside}
use Rattle.trees.proofs.KinLaws.{rises_distinct, above_codes}
use Rattle.registers.specs.Holds.{identities, Holds}
use Rattle.registers.specs.declared.Found.TheVariants.{At, Nothing}
use Rattle.registers.specs.Layout.{deepest, entry_place, label_at}
use Rattle.registers.specs.Entries.{code_at}
use Rattle.registers.specs.Sound.{label_bytes, is_sound_label, line_at}
use Rattle.registers.specs.Questions.{count_of, lines_of, is_register_sound, found_from, found_in, is_above_entry, depth_in, tree_of, tree_in}
use Rattle.registers.proofs.SoundLaws.{label_field}
use Rattle.registers.proofs.RowLaws.{line_start, line_end, line_parent}
use Rattle.registers.proofs.TreeLaws.{tree_lined}
use Rattle.registers.proofs.HoldsLaws.{lines_held}
use Rattle.registers.proofs.QuestionLaws.{parts_of, labels_sound, at_is, nothing_at, found_from_lem, found_among}

-- an entry is above another by the test exactly where it is its ancestor
pub above_ancestor : (b : List ℕ) (f : Forest (Entry Name)) → Holds b f → (u v : Entry Name) → Has u f → Has v f
    → (is_above_entry u v ≡ true) ↔ Ancestor u v f
above_ancestor b f h u v i j =
    let k = above_codes starts ends f h.whole.sound.rising u v i j in (
      λ e. let a = (and-eq-true_iff (is_below u.start v.start) (is_below v.end u.end)).0 e in
          k.0 (is_below_holds u.start v.start a.0, is_below_holds v.end u.end a.1),
      λ a. let c = k.1 a in rw (is_below_true u.start v.start c.0, is_below_true v.end u.end c.1) refl,
    )

-- an order that does not hold, as a test
not_below : (x y : Digits) → Below y x → is_below x y ≡ false
not_below x y h = is_below_false x y (λ k. below_asym x y k h)

by_start : (u v : Entry Name) → Below v.start u.start → is_above_entry u v ≡ false
by_start u v h = rw (not_below u.start v.start h) refl

by_end : (u v : Entry Name) → Below u.end v.end → is_above_entry u v ≡ false
by_end u v h = rw (not_below v.end u.end h) (and-false (is_below u.start v.start))

-- the count over two lists, and over entries that are not above
depth_both : (v : Entry Name) (us ws : List (Entry Name)) → depth_in v (us ++ ws) ≡ depth_in v us + depth_in v ws
depth_both v [] ws = omega arith
depth_both v (u ∷ us) ws = omega (arith, depth_both v us ws)

depth_zero : (v : Entry Name) (us : List (Entry Name)) → All (λ u. is_above_entry u v ≡ false) us → depth_in v us ≡ 0
depth_zero v [] a = refl
depth_zero v (u ∷ us) a = rw a.0 (omega (arith, depth_zero v us a.1))

-- an entry's row has the number of those above it as its depth
depth_row : (f : Forest (Entry Name)) (l r : Digits) (d : ℕ) → Rising l (tour starts ends f) r → (v : Entry Name) → Has v f
    → Member (v, d + depth_in v (preorder f)) (rows d f)
depth_row nil l r d h v k = absurd k
depth_row (node a c s) l r d h v (inl e) =
    let t = at starts ends l r a c s h in
    let self : is_above_entry a a ≡ false = rw (is_below_false a.start a.start (below_irrefl a.start)) refl in
    let inner : All (λ u. is_above_entry u a ≡ false) (preorder c) =
    has_gives_all _ c (λ u k. by_start u a (inside starts ends c a.start a.end t.children u k).above) in
    let next : All (λ u. is_above_entry u a ≡ false) (preorder s) =
    has_gives_all _ s (λ u k. by_start u a (below_trans a.start a.end u.start t.inner
    (inside starts ends s a.end r t.next u k).above)) in
    let n : depth_in a (preorder (node a c s)) ≡ 0 =
    depth_zero a (preorder (node a c s)) (self, all_append _ (preorder c) (preorder s) inner next) in
    let m : d + depth_in v (preorder (node a c s)) ≡ d =
    ap (λ (z : Entry Name). d + depth_in z (preorder (node a c s))) e ∙ omega (arith, n) in
    inl (ap (λ (k : ℕ). (v, k)) m ∙ ap (λ (z : Entry Name). (z, d)) e)
depth_row (node a c s) l r d h v (inr (inl k)) =
    let t = at starts ends l r a c s h in
    let i = inside starts ends c a.start a.end t.children v k in
    let w : Below v.end a.end = under_real a.start v.end a.end t.inner i.under in
    let self : is_above_entry a v ≡ true = rw (is_below_true a.start v.start i.above, is_below_true v.end a.end w) refl in
    let next : All (λ u. is_above_entry u v ≡ false) (preorder s) =
    has_gives_all _ s (λ u j. by_start u v (below_trans v.start v.end u.start i.inner
    (below_trans v.end a.end u.start w (inside starts ends s a.end r t.next u j).above))) in
    let n : depth_in v (preorder (node a c s)) ≡ 1 + depth_in v (preorder c) =
    ap (λ (z : Bool). cond z 1 0 + depth_in v (preorder c ++ preorder s)) self
    ∙ omega (arith, depth_both v (preorder c) (preorder s), depth_zero v (preorder s) next) in
    let m : suc d + depth_in v (preorder c) ≡ d + depth_in v (preorder (node a c s)) = omega (arith, n) in
    inr (member_left (rows (suc d) c) (rows d s) _
    (subst (λ (z : ℕ). Member (v, z) (rows (suc d) c)) m (depth_row c a.start a.end (suc d) t.children v k)))
depth_row (node a c s) l r d h v (inr (inr k)) =
    let t = at starts ends l r a c s h in
    let i = inside starts ends s a.end r t.next v k in
    let w : Below a.end v.end = below_trans a.end v.start v.end i.above i.inner in
    let inner : All (λ u. is_above_entry u v ≡ false) (preorder c) =
    has_gives_all _ c (λ u j. by_end u v (below_trans u.end a.end v.end
    (under_real a.start u.end a.end t.inner (inside starts ends c a.start a.end t.children u j).under) w)) in
    let n : depth_in v (preorder (node a c s)) ≡ depth_in v (preorder s) =
    ap (λ (z : Bool). cond z 1 0 + depth_in v (preorder c ++ preorder s)) (by_end a v w)
    ∙ omega (arith, depth_both v (preorder c) (preorder s), depth_zero v (preorder c) inner) in
    let m : d + depth_in v (preorder s) ≡ d + depth_in v (preorder (node a c s)) = omega (arith, n) in
    inr (member_right (rows (suc d) c) (rows d s) _
    (subst (λ (z : ℕ). Member (v, z) (rows d s)) m (depth_row s a.end r d t.next v k)))

-- the depth that is answered is the depth in the tree
depth_of : (f : Forest (Entry Name)) → Rising [] (codes f) [] → (v : Entry Name) → Has v f → Depth v (depth_in v (preorder f)) f
depth_of f h v k =
    let e : 0 + depth_in v (preorder f) ≡ depth_in v (preorder f) = omega arith in
    row_depth f v _ (subst (λ (z : ℕ). Member (v, z) (rows 0 f)) e (depth_row f [] [] 0 h v k))

pub depth_held : (b : List ℕ) (f : Forest (Entry Name)) → Holds b f → (v : Entry Name) → Has v f → Depth v (depth_in v (lines_of b)) f
depth_held b f h v k =
    subst (λ us. Depth v (depth_in v us) f) (sym (lines_held b f h)) (depth_of f h.whole.sound.rising v k)

-- the rows of a tree are its lines with their depths, so that it is the tree that the lines stand for
named : (g : Entry Name → ℕ) (t : List (Entry Name × ℕ)) → All (λ p. p.1 ≡ g p.0) t
    → t ≡ map (λ u. (u, g u)) (map (λ p. p.0) t)
named g [] a = refl
named g ((u, n) ∷ t) a = rw (a.0, sym (named g t a.1)) refl

pub rows_lines : (f : Forest (Entry Name)) → Rising [] (codes f) [] → rows 0 f ≡ map (λ u. (u, depth_in u (preorder f))) (preorder f)
rows_lines f h =
    let us = preorder f in
    let d = rises_distinct starts ends f h in
    let a : All (λ p. p.1 ≡ depth_in p.0 us) (rows 0 f) =
    gives_all (λ p. p.1 ≡ depth_in p.0 us) (rows 0 f) (λ p m. let i = row_depth f p.0 p.1 m in
    one_depth f d p.1 (depth_in p.0 us) p.0 i (depth_of f h p.0 (depth_has f p.0 p.1 i))) in
    named (λ u. depth_in u us) (rows 0 f) a ∙ ap (map (λ u. (u, depth_in u us))) (preorder_rows 0 f)

tree_lines : (f : Forest (Entry Name)) → Rising [] (codes f) [] → tree_of (preorder f) ≡ f
unfolding tree_of
tree_lines f h = ap forest (sym (rows_lines f h)) ∙ forest_rows f

-- the tree of a sound register
pub record Stands (b : List ℕ) : Type 0 where
  pub rooted : Rooted (tree_in b)
  pub entries : preorder (tree_in b) ≡ lines_of b
  pub sound : Sound IsCode (suc deepest) [] [] [] (tree_in b)

pub tree_stands : (b : List ℕ) → is_register_sound b ≡ true → Stands b
tree_stands b e =
    let t = tree_lined b (count_of b) (parts_of b e).tree in
    let i : t.tree ≡ tree_in b = sym (tree_lines t.tree t.sound.rising) ∙ ap tree_of t.entries in
    record {
      rooted = subst Rooted i t.rooted;
      entries = ap preorder (sym i) ∙ t.entries;
      sound = subst (Sound IsCode (suc deepest) [] [] []) i t.sound;
    }

pub tree_held : (b : List ℕ) (f : Forest (Entry Name)) → Holds b f → tree_in b ≡ f
tree_held b f h = ap tree_of (lines_held b f h) ∙ tree_lines f h.whole.sound.rising

-- the place that is answered is that of the identity in document order, and an identity with no place is not there
found_is : (ys : List ℕ) (x i j : ℕ) → found_from i x ys ≡ At (i + j) → get_or ys j 0 ≡ x
found_is [] x i j e = nothing_at e
found_is (y ∷ ys) x i j e = go (eqb x y) refl j (λ k f. found_is ys x (suc i) k f) e
  where
    go : (t : Bool) → eqb x y ≡ t → (j : ℕ) → ((k : ℕ) → found_from (suc i) x ys ≡ At (suc i + k) → get_or ys k 0 ≡ x)
        → cond t (At i) (found_from (suc i) x ys) ≡ At (i + j) → get_or (y ∷ ys) j 0 ≡ x
    go true q zero more e = sym (eqb-true x y q)
    go true q (suc j) more e = let z : i ≡ i + suc j = at_is e in absurd (omega arith)
    go false q zero more e = let z = found_from_lem ys x (suc i) (i + 0) e in absurd (omega arith)
    go false q (suc j) more e = more j (e ∙ ap At (omega arith))

pub place_held : (b : List ℕ) (f : Forest (Entry Name)) (x i : ℕ) → Holds b f → found_in b x ≡ At i
    → get_or (identities (preorder f)) i 0 ≡ x
place_held b f x i h e =
    ap (λ us. get_or (identities us) i 0) (sym (lines_held b f h))
    ∙ found_is (identities (lines_of b)) x 0 i (e ∙ ap At (let z : i ≡ 0 + i = omega arith in z))

pub absent_held : (b : List ℕ) (f : Forest (Entry Name)) (x : ℕ) → Holds b f → found_in b x ≡ Nothing
    → All (λ y. y ≢ x) (identities (preorder f))
absent_held b f x h e =
    subst (λ us. All (λ y. y ≢ x) (identities us)) (lines_held b f h)
    (all_map (λ y. x ≢ y) (λ y. y ≢ x) (λ y n i. n (sym i)) (identities (lines_of b))
    (differs x (identities (lines_of b)) (found_among x 0 (identities (lines_of b)) e)))

-- an identity among different ones is found at its place
pub found_at : (ys : List ℕ) (k i : ℕ) → Distinct ys → i < length ys → found_from k (get_or ys i 0) ys ≡ At (k + i)
found_at [] k i d h = absurd (omega arith)
found_at (y ∷ ys) k zero d h = rw (eq-eqb y y refl) (ap At (omega arith))
found_at (y ∷ ys) k (suc i) d h =
    let l : i < length ys = omega arith in
    let n : eqb (get_or ys i 0) y ≡ false = ne_eqb (get_or ys i 0) y (λ e. all_at (λ z. y ≢ z) ys i 0 d.0 l (sym e)) in
    rw n (found_at ys (suc k) i d.1 l ∙ ap At (omega arith))

-- the questions on two labels of a sound register are asked of the codes of its two lines
abbrev pub label_in : Entry Name → Label
label_in u = record { start = u.start; end = u.end; parent = u.parent }

label_code : (b : List ℕ) (i at : ℕ) → at + field_size ≤ label_size
    → side_of (read (field_at at (label_bytes b i))) ≡ code_at b (entry_place i + label_at + at)
label_code b i at h = ap (λ z. side_of (read z)) (label_field b i at h)

label_line : (b : List ℕ) (i : ℕ) → is_sound_label b i ≡ true → label_of (label_bytes b i) ≡ label_in (line_at b i)
unfolding label_of
label_line b i s =
    rw (
      label_code b i start_at (omega arith),
      label_code b i end_at (omega arith),
      label_code b i parent_at (omega arith),
      line_start b i s,
      line_end b i s,
      line_parent b i s,
    ) refl

pub asked_lines : (b : List ℕ) (i j : ℕ) → is_register_sound b ≡ true → i < count_of b → j < count_of b → (q : Label → Label → ℤ)
    → asked (label_bytes b i) (label_bytes b j) (q (label_of (label_bytes b i)) (label_of (label_bytes b j)))
    ≡ q (label_in (line_at b i)) (label_in (line_at b j))
unfolding asked
asked_lines b i j e h k q =
    let s = labels_sound b i e h in
    let t = labels_sound b j e k in
    rw (s, t, label_line b i s, label_line b j t) refl
