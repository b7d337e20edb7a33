-- The entries in document order, with codes that rise along the tour, have one forest.
-- Assumes nothing.
use mathlib.Core.Path.{◌≡◌, refl, sym, ◌∙◌}
use mathlib.Core.List.{List, [], nil≢cons, cons≢nil, head-eq_of_cons-eq, tail-eq_of_cons-eq}
use Prim.Native.Nat.{ℕ}
use Rattle.digits.specs.Lists.{All}
use Rattle.digits.specs.Order.{Digits, Below}
use Rattle.digits.specs.Code.{Rising}
use Rattle.digits.proofs.OrderLaws.{below_trans, below_asym}
use Rattle.trees.specs.Forest.{Forest, nil, node, preorder}
use Rattle.trees.specs.Tour.{tour, Rises}
use Rattle.trees.specs.Labelled.{Entry, starts, ends, Tree}
use Rattle.trees.proofs.ListLaws.{seam}
use Rattle.trees.proofs.ForestLaws.{has_gives_all}
use Rattle.trees.proofs.TourLaws.{under_real, At, at, inside}

module _ {A : Type 0} (st en : A → Digits) where
  -- the end of an entry parts its children from the rest of its row
  children_below : (l r : Digits) (a : A) (c s : Forest A) → At st en l r a c s → All (λ v. Below (st v) (en a)) (preorder c)
  children_below l r a c s t =
      has_gives_all (λ v. Below (st v) (en a)) c
      (λ v h. let i = inside st en c (st a) (en a) t.children v h in
      below_trans (st v) (en v) (en a) i.inner (under_real (st a) (en v) (en a) t.inner i.under))

  next_above : (l r : Digits) (a : A) (c s : Forest A) → At st en l r a c s → All (λ v. Below (en a) (st v)) (preorder s)
  next_above l r a c s t = has_gives_all (λ v. Below (en a) (st v)) s (λ v h. (inside st en s (en a) r t.next v h).above)

  one_forest_between : (f g : Forest A) (l r x y : Digits) → Rising l (tour st en f) r → Rising x (tour st en g) y
      → preorder f ≡ preorder g → f ≡ g
  one_forest_between nil nil l r x y h k e = refl
  one_forest_between nil (node a c s) l r x y h k e = absurd (nil≢cons e)
  one_forest_between (node a c s) nil l r x y h k e = absurd (cons≢nil e)
  one_forest_between (node a c s) (node b d n) l r x y h k e =
      let i = at st en l r a c s h in
      let j = at st en x y b d n k in
      let q = head-eq_of_cons-eq e in
      let m =
      seam (λ v. Below (st v) (en a)) (λ v. Below (en a) (st v)) (λ v. below_asym (st v) (en a))
      (preorder c) (preorder s) (preorder d) (preorder n)
      (children_below l r a c s i) (next_above l r a c s i) (rw q (children_below x y b d n j)) (rw q (next_above x y b d n j))
      (tail-eq_of_cons-eq e)
      in
      let u = one_forest_between c d (st a) (en a) (st b) (en b) i.children j.children m.0 in
      let w = one_forest_between s n (en a) r (en b) y i.next j.next m.1 in
      cc (q, u, w)

  pub one_forest : (f g : Forest A) → Rises st en f → Rises st en g → preorder f ≡ preorder g → f ≡ g
  one_forest f g = one_forest_between f g [] [] [] []

-- 01, Register: entries are those of at most one sound tree
pub one_tree : {A : Type 0} (Code : Digits → Type 0) (deepest : ℕ) (us : List (Entry A)) (f g : Tree Code deepest us) → f.tree ≡ g.tree
one_tree Code deepest us f g =
    one_forest starts ends f.tree g.tree f.sound.rising g.sound.rising (f.entries ∙ sym g.entries)
