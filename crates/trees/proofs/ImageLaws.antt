-- Laws of a forest with other entries, as the tree without its labels: sizes, levels, and the axes where no two entries become one.
-- Assumes nothing.
use mathlib.Core.Path.{◌≡◌, refl, sym, ap, ◌∙◌}
use mathlib.Core.Logic.{inl, inr, ◌≢◌, ◌↔◌}
use mathlib.Core.List.{List, [], ◌∷◌, map}
use Prim.Native.Nat.{ℕ, zero, suc, pred}
use Rattle.digits.specs.Lists.{Distinct}
use Rattle.trees.specs.Lists.{Member, Earlier}
use Rattle.trees.specs.Forest.{Forest, nil, node, size, preorder, Rooted, Height, image}
use Rattle.trees.specs.Axes.{Has, OfRow, Parent, Ancestor, Sibling, Before, Depth}
use Rattle.trees.proofs.ListLaws.{all_gives, map_append}
use Rattle.trees.proofs.ForestLaws.{member_gives_has}

module _ {A B : Type 0} (g : A → B) where
  pub size_image : (f : Forest A) → size (image g f) ≡ size f
  size_image nil = refl
  size_image (node a c s) = cc (size_image c, size_image s)

  pub height_image : (k : ℕ) (f : Forest A) → Height k (image g f) → Height k f
  height_image k nil h = tt
  height_image k (node a c s) h = (h.0, height_image (pred k) c h.1, height_image k s h.2)

  pub rooted_image : (f : Forest A) → Rooted (image g f) → Rooted f
  rooted_image nil h = h
  rooted_image (node a c nil) h = h
  rooted_image (node a c (node b d s)) h = h

  pub preorder_image : (f : Forest A) → preorder (image g f) ≡ map g (preorder f)
  preorder_image nil = refl
  preorder_image (node a c s) = cc (preorder_image c, preorder_image s, map_append g (preorder c) (preorder s))

  -- what the axes say of two entries they say of their images
  has_image : (f : Forest A) (v : A) → Has v f → Has (g v) (image g f)
  has_image nil v h = h
  has_image (node a c s) v (inl e) = inl (ap g e)
  has_image (node a c s) v (inr (inl h)) = inr (inl (has_image c v h))
  has_image (node a c s) v (inr (inr h)) = inr (inr (has_image s v h))

  row_image : (f : Forest A) (v : A) → OfRow v f → OfRow (g v) (image g f)
  row_image nil v h = h
  row_image (node a c s) v (inl e) = inl (ap g e)
  row_image (node a c s) v (inr h) = inr (row_image s v h)

  ancestor_gives_image : (f : Forest A) (u v : A) → Ancestor u v f → Ancestor (g u) (g v) (image g f)
  ancestor_gives_image nil u v h = h
  ancestor_gives_image (node a c s) u v (inl (e, h)) = inl (ap g e, has_image c v h)
  ancestor_gives_image (node a c s) u v (inr (inl h)) = inr (inl (ancestor_gives_image c u v h))
  ancestor_gives_image (node a c s) u v (inr (inr h)) = inr (inr (ancestor_gives_image s u v h))

  parent_gives_image : (f : Forest A) (u v : A) → Parent u v f → Parent (g u) (g v) (image g f)
  parent_gives_image nil u v h = h
  parent_gives_image (node a c s) u v (inl (e, h)) = inl (ap g e, row_image c v h)
  parent_gives_image (node a c s) u v (inr (inl h)) = inr (inl (parent_gives_image c u v h))
  parent_gives_image (node a c s) u v (inr (inr h)) = inr (inr (parent_gives_image s u v h))

  pub depth_image : (f : Forest A) (n : ℕ) (v : A) → Depth v n f → Depth (g v) n (image g f)
  depth_image f zero v h = row_image f v h
  depth_image f (suc n) v (u, h, k) = (g u, parent_gives_image f u v h, depth_image f n u k)

  member_map : (xs : List A) (v : A) → Member v xs → Member (g v) (map g xs)
  member_map [] v h = h
  member_map (x ∷ xs) v (inl e) = inl (ap g e)
  member_map (x ∷ xs) v (inr h) = inr (member_map xs v h)

  earlier_map : (xs : List A) (u v : A) → Earlier u v xs → Earlier (g u) (g v) (map g xs)
  earlier_map [] u v h = h
  earlier_map (x ∷ xs) u v (inl (e, h)) = inl (ap g e, member_map xs v h)
  earlier_map (x ∷ xs) u v (inr h) = inr (earlier_map xs u v h)

-- the other way round, for entries of D, of which no two become one
module _ {A B : Type 0} (g : A → B) (D : A → Type 0) (one : (u v : A) → D u → D v → g u ≡ g v → u ≡ v) where
  -- every entry of the forest is of D
  abbrev Of : Forest A → Type 0
  Of f = (w : A) → Has w f → D w

  of_children : (a : A) (c s : Forest A) → Of (node a c s) → Of c
  of_children a c s d w k = d w (inr (inl k))

  of_next : (a : A) (c s : Forest A) → Of (node a c s) → Of s
  of_next a c s d w k = d w (inr (inr k))

  image_has : (f : Forest A) → Of f → (v : A) → D v → Has (g v) (image g f) → Has v f
  image_has nil d v i h = h
  image_has (node a c s) d v i (inl e) = inl (one v a i (d a (inl refl)) e)
  image_has (node a c s) d v i (inr (inl h)) = inr (inl (image_has c (of_children a c s d) v i h))
  image_has (node a c s) d v i (inr (inr h)) = inr (inr (image_has s (of_next a c s d) v i h))

  image_row : (f : Forest A) → Of f → (v : A) → D v → OfRow (g v) (image g f) → OfRow v f
  image_row nil d v i h = h
  image_row (node a c s) d v i (inl e) = inl (one v a i (d a (inl refl)) e)
  image_row (node a c s) d v i (inr h) = inr (image_row s (of_next a c s d) v i h)

  image_gives_ancestor : (f : Forest A) → Of f → (u v : A) → D u → D v → Ancestor (g u) (g v) (image g f) → Ancestor u v f
  image_gives_ancestor nil d u v i j h = h
  image_gives_ancestor (node a c s) d u v i j (inl (e, h)) = inl (one u a i (d a (inl refl)) e, image_has c (of_children a c s d) v j h)
  image_gives_ancestor (node a c s) d u v i j (inr (inl h)) = inr (inl (image_gives_ancestor c (of_children a c s d) u v i j h))
  image_gives_ancestor (node a c s) d u v i j (inr (inr h)) = inr (inr (image_gives_ancestor s (of_next a c s d) u v i j h))

  image_gives_parent : (f : Forest A) → Of f → (u v : A) → D u → D v → Parent (g u) (g v) (image g f) → Parent u v f
  image_gives_parent nil d u v i j h = h
  image_gives_parent (node a c s) d u v i j (inl (e, h)) = inl (one u a i (d a (inl refl)) e, image_row c (of_children a c s d) v j h)
  image_gives_parent (node a c s) d u v i j (inr (inl h)) = inr (inl (image_gives_parent c (of_children a c s d) u v i j h))
  image_gives_parent (node a c s) d u v i j (inr (inr h)) = inr (inr (image_gives_parent s (of_next a c s d) u v i j h))

  image_gives_sibling : (f : Forest A) → Of f → (u v : A) → D u → D v → Sibling (g u) (g v) (image g f) → Sibling u v f
  image_gives_sibling nil d u v i j h = h
  image_gives_sibling (node a c s) d u v i j (inl (h, k, n)) =
      let o = of_children a c s d in
      inl (image_row c o u i h, image_row c o v j k, λ e. n (ap g e))
  image_gives_sibling (node a c s) d u v i j (inr (inl h)) = inr (inl (image_gives_sibling c (of_children a c s d) u v i j h))
  image_gives_sibling (node a c s) d u v i j (inr (inr h)) = inr (inr (image_gives_sibling s (of_next a c s d) u v i j h))

  sibling_gives_image : (f : Forest A) (u v : A) → D u → D v → Sibling u v f → Sibling (g u) (g v) (image g f)
  sibling_gives_image nil u v i j h = h
  sibling_gives_image (node a c s) u v i j (inl (h, k, n)) = inl (row_image g c u h, row_image g c v k, λ e. n (one u v i j e))
  sibling_gives_image (node a c s) u v i j (inr (inl h)) = inr (inl (sibling_gives_image c u v i j h))
  sibling_gives_image (node a c s) u v i j (inr (inr h)) = inr (inr (sibling_gives_image s u v i j h))

  map_member : (xs : List A) → ((w : A) → Member w xs → D w) → (v : A) → D v → Member (g v) (map g xs) → Member v xs
  map_member [] d v j h = h
  map_member (x ∷ xs) d v j (inl e) = inl (one v x j (d x (inl refl)) e)
  map_member (x ∷ xs) d v j (inr h) = inr (map_member xs (λ w k. d w (inr k)) v j h)

  map_earlier : (xs : List A) → ((w : A) → Member w xs → D w) → (u v : A) → D u → D v → Earlier (g u) (g v) (map g xs) → Earlier u v xs
  map_earlier [] d u v i j h = h
  map_earlier (x ∷ xs) d u v i j (inl (e, h)) = inl (one u x i (d x (inl refl)) e, map_member xs (λ w k. d w (inr k)) v j h)
  map_earlier (x ∷ xs) d u v i j (inr h) = inr (map_earlier xs (λ w k. d w (inr k)) u v i j h)

-- where the images of a list are all different, two elements with one image are one
pub map_one : {A B : Type 0} (g : A → B) (xs : List A) → Distinct (map g xs) → (u v : A) → Member u xs → Member v xs → g u ≡ g v → u ≡ v
map_one g [] d u v h k e = absurd h
map_one g (x ∷ xs) d u v (inl i) (inl j) e = i ∙ sym j
map_one g (x ∷ xs) d u v (inl i) (inr k) e =
    absurd (all_gives (λ y. g x ≢ y) (map g xs) d.0 (g v) (member_map g xs v k) (ap g (sym i) ∙ e))
map_one g (x ∷ xs) d u v (inr h) (inl j) e =
    absurd (all_gives (λ y. g x ≢ y) (map g xs) d.0 (g u) (member_map g xs u h) (ap g (sym j) ∙ sym e))
map_one g (x ∷ xs) d u v (inr h) (inr k) e = map_one g xs d.1 u v h k e

-- a forest and its image have the same axes, if no two entries become one
module _ {A B : Type 0} (g : A → B) (f : Forest A) (one : (u v : A) → Has u f → Has v f → g u ≡ g v → u ≡ v) where
  pub ancestor_image : (u v : A) → Has u f → Has v f → Ancestor u v f ↔ Ancestor (g u) (g v) (image g f)
  ancestor_image u v h k = (ancestor_gives_image g f u v, image_gives_ancestor g (λ w. Has w f) one f (λ w i. i) u v h k)

  pub parent_image : (u v : A) → Has u f → Has v f → Parent u v f ↔ Parent (g u) (g v) (image g f)
  parent_image u v h k = (parent_gives_image g f u v, image_gives_parent g (λ w. Has w f) one f (λ w i. i) u v h k)

  pub sibling_image : (u v : A) → Has u f → Has v f → Sibling u v f ↔ Sibling (g u) (g v) (image g f)
  sibling_image u v h k =
      (sibling_gives_image g (λ w. Has w f) one f u v h k, image_gives_sibling g (λ w. Has w f) one f (λ w i. i) u v h k)

  pub before_image : (u v : A) → Has u f → Has v f → Before u v f ↔ Before (g u) (g v) (image g f)
  before_image u v h k =
      rw (preorder_image g f)
      (earlier_map g (preorder f) u v, map_earlier g (λ w. Has w f) one (preorder f) (λ w. member_gives_has f w) u v h k)
