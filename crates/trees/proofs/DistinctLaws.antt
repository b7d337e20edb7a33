-- Laws of the axes where no entry stands twice: ancestors, one parent, siblings by their parent, one depth.
-- Assumes nothing.
use mathlib.Core.Path.{◌≡◌, refl, sym, ap, ◌∙◌}
use mathlib.Core.Logic.{inl, inr, ◌≢◌}
use mathlib.Core.List.{◌++◌}
use Prim.Native.Nat.{ℕ, zero, suc}
use Rattle.digits.specs.Lists.{Distinct}
use Rattle.trees.specs.Forest.{Forest, nil, node, preorder}
use Rattle.trees.specs.Axes.{Has, OfRow, Parent, Ancestor, Sibling, Preceding, Before, Depth}
use Rattle.trees.proofs.ListLaws.{all_gives, member_left, member_right, distinct_append, earlier_asym}
use Rattle.trees.proofs.ForestLaws.{has_gives_member, row_has, ancestor_has, parent_has, preceding_has}

module _ {A : Type 0} where
  -- what distinct entries say at one node: the entry, its children and the rest of its row share nothing
  pub record Apart (a : A) (c s : Forest A) : Type 0 where
    pub entry_children : (v : A) → v ≡ a → Has v c → ⊥
    pub entry_next : (v : A) → v ≡ a → Has v s → ⊥
    pub children_next : (v : A) → Has v c → Has v s → ⊥
    pub children : Distinct (preorder c)
    pub next : Distinct (preorder s)

  pub apart : (a : A) (c s : Forest A) → Distinct (preorder (node a c s)) → Apart a c s
  apart a c s d =
      let r = distinct_append (preorder c) (preorder s) d.1 in
      let n = all_gives (λ y. a ≢ y) (preorder c ++ preorder s) d.0 in
      record {
        entry_children = λ v e h. n v (member_left (preorder c) (preorder s) v (has_gives_member c v h)) (sym e);
        entry_next = λ v e h. n v (member_right (preorder c) (preorder s) v (has_gives_member s v h)) (sym e);
        children_next = λ v h k. r.2 v (has_gives_member c v h) (has_gives_member s v k);
        children = r.0;
        next = r.1;
      }

  -- document order is strict; by `before_three` it is total
  pub before_asym : (f : Forest A) → Distinct (preorder f) → (u v : A) → Before u v f → Before v u f → ⊥
  before_asym f d u v h k = earlier_asym (preorder f) d u v h k

  ancestor_irrefl : (f : Forest A) → Distinct (preorder f) → (v : A) → Ancestor v v f → ⊥
  ancestor_irrefl nil d v h = h
  ancestor_irrefl (node a c s) d v (inl (e, h)) = (apart a c s d).entry_children v e h
  ancestor_irrefl (node a c s) d v (inr (inl h)) = ancestor_irrefl c (apart a c s d).children v h
  ancestor_irrefl (node a c s) d v (inr (inr h)) = ancestor_irrefl s (apart a c s d).next v h

  ancestor_trans : (f : Forest A) → Distinct (preorder f) → (u v w : A) → Ancestor u v f → Ancestor v w f → Ancestor u w f
  ancestor_trans nil d u v w h k = h
  ancestor_trans (node a c s) d u v w h k =
      go (apart a c s d) (λ t. ancestor_trans c t u v w) (λ t. ancestor_trans s t u v w) h k
    where
      go : Apart a c s
          → (Distinct (preorder c) → Ancestor u v c → Ancestor v w c → Ancestor u w c)
          → (Distinct (preorder s) → Ancestor u v s → Ancestor v w s → Ancestor u w s)
          → Ancestor u v (node a c s) → Ancestor v w (node a c s) → Ancestor u w (node a c s)
      go t p q (inl h) (inl k) = absurd (t.entry_children v k.0 h.1)
      go t p q (inl h) (inr (inl k)) = inl (h.0, (ancestor_has c v w k).1)
      go t p q (inl h) (inr (inr k)) = absurd (t.children_next v h.1 (ancestor_has s v w k).0)
      go t p q (inr (inl h)) (inl k) = absurd (t.entry_children v k.0 (ancestor_has c u v h).1)
      go t p q (inr (inl h)) (inr (inl k)) = inr (inl (p t.children h k))
      go t p q (inr (inl h)) (inr (inr k)) = absurd (t.children_next v (ancestor_has c u v h).1 (ancestor_has s v w k).0)
      go t p q (inr (inr h)) (inl k) = absurd (t.entry_next v k.0 (ancestor_has s u v h).1)
      go t p q (inr (inr h)) (inr (inl k)) = absurd (t.children_next v (ancestor_has c v w k).0 (ancestor_has s u v h).1)
      go t p q (inr (inr h)) (inr (inr k)) = inr (inr (q t.next h k))

  -- XPath: the axes do not overlap; for the pairs with the order turned round this is `before_asym`
  ancestor_preceding : (f : Forest A) → Distinct (preorder f) → (u v : A) → Ancestor u v f → Preceding u v f → ⊥
  ancestor_preceding nil d u v h k = h
  ancestor_preceding (node a c s) d u v (inl h) (inl k) = (apart a c s d).children_next v h.1 k.1
  ancestor_preceding (node a c s) d u v (inl h) (inr (inl k)) = (apart a c s d).entry_children u h.0 (preceding_has c u v k)
  ancestor_preceding (node a c s) d u v (inl h) (inr (inr k)) = (apart a c s d).entry_next u h.0 (preceding_has s u v k)
  ancestor_preceding (node a c s) d u v (inr (inl h)) (inl k) = (apart a c s d).children_next v (ancestor_has c u v h).1 k.1
  ancestor_preceding (node a c s) d u v (inr (inl h)) (inr (inl k)) = ancestor_preceding c (apart a c s d).children u v h k
  ancestor_preceding (node a c s) d u v (inr (inl h)) (inr (inr k)) =
      (apart a c s d).children_next u (ancestor_has c u v h).0 (preceding_has s u v k)
  ancestor_preceding (node a c s) d u v (inr (inr h)) (inl (inl e, k)) = (apart a c s d).entry_next u e (ancestor_has s u v h).0
  ancestor_preceding (node a c s) d u v (inr (inr h)) (inl (inr j, k)) = (apart a c s d).children_next u j (ancestor_has s u v h).0
  ancestor_preceding (node a c s) d u v (inr (inr h)) (inr (inl k)) =
      (apart a c s d).children_next u (preceding_has c u v k) (ancestor_has s u v h).0
  ancestor_preceding (node a c s) d u v (inr (inr h)) (inr (inr k)) = ancestor_preceding s (apart a c s d).next u v h k

  -- an entry of the first row has no parent
  row_orphan : (f : Forest A) → Distinct (preorder f) → (u v : A) → OfRow v f → Parent u v f → ⊥
  row_orphan nil d u v h k = h
  row_orphan (node a c s) d u v (inl e) (inl k) = (apart a c s d).entry_children v e (row_has c v k.1)
  row_orphan (node a c s) d u v (inl e) (inr (inl k)) = (apart a c s d).entry_children v e (parent_has c u v k).1
  row_orphan (node a c s) d u v (inl e) (inr (inr k)) = (apart a c s d).entry_next v e (parent_has s u v k).1
  row_orphan (node a c s) d u v (inr h) (inl k) = (apart a c s d).children_next v (row_has c v k.1) (row_has s v h)
  row_orphan (node a c s) d u v (inr h) (inr (inl k)) = (apart a c s d).children_next v (parent_has c u v k).1 (row_has s v h)
  row_orphan (node a c s) d u v (inr h) (inr (inr k)) = row_orphan s (apart a c s d).next u v h k

  one_parent : (f : Forest A) → Distinct (preorder f) → (u v w : A) → Parent u w f → Parent v w f → u ≡ v
  one_parent nil d u v w h k = absurd h
  one_parent (node a c s) d u v w (inl h) (inl k) = h.0 ∙ sym k.0
  one_parent (node a c s) d u v w (inl h) (inr (inl k)) = absurd (row_orphan c (apart a c s d).children v w h.1 k)
  one_parent (node a c s) d u v w (inl h) (inr (inr k)) =
      absurd ((apart a c s d).children_next w (row_has c w h.1) (parent_has s v w k).1)
  one_parent (node a c s) d u v w (inr (inl h)) (inl k) = absurd (row_orphan c (apart a c s d).children u w k.1 h)
  one_parent (node a c s) d u v w (inr (inl h)) (inr (inl k)) = one_parent c (apart a c s d).children u v w h k
  one_parent (node a c s) d u v w (inr (inl h)) (inr (inr k)) =
      absurd ((apart a c s d).children_next w (parent_has c u w h).1 (parent_has s v w k).1)
  one_parent (node a c s) d u v w (inr (inr h)) (inl k) =
      absurd ((apart a c s d).children_next w (row_has c w k.1) (parent_has s u w h).1)
  one_parent (node a c s) d u v w (inr (inr h)) (inr (inl k)) =
      absurd ((apart a c s d).children_next w (parent_has c v w k).1 (parent_has s u w h).1)
  one_parent (node a c s) d u v w (inr (inr h)) (inr (inr k)) = one_parent s (apart a c s d).next u v w h k

  pub sibling_parent : (f : Forest A) (u v : A) → Sibling u v f → (w : A) × Parent w u f × Parent w v f × (u ≢ v)
  sibling_parent nil u v h = absurd h
  sibling_parent (node a c s) u v (inl (h, k, n)) = (a, inl (refl, h), inl (refl, k), n)
  sibling_parent (node a c s) u v (inr (inl h)) = let r = sibling_parent c u v h in (r.0, inr (inl r.1), inr (inl r.2), r.3)
  sibling_parent (node a c s) u v (inr (inr h)) = let r = sibling_parent s u v h in (r.0, inr (inr r.1), inr (inr r.2), r.3)

  pub parent_sibling : (f : Forest A) → Distinct (preorder f) → (u v w : A) → Parent w u f → Parent w v f → u ≢ v → Sibling u v f
  parent_sibling nil d u v w h k n = h
  parent_sibling (node a c s) d u v w (inl h) (inl k) n = inl (h.1, k.1, n)
  parent_sibling (node a c s) d u v w (inl h) (inr (inl k)) n =
      absurd ((apart a c s d).entry_children w h.0 (parent_has c w v k).0)
  parent_sibling (node a c s) d u v w (inl h) (inr (inr k)) n = absurd ((apart a c s d).entry_next w h.0 (parent_has s w v k).0)
  parent_sibling (node a c s) d u v w (inr (inl h)) (inl k) n =
      absurd ((apart a c s d).entry_children w k.0 (parent_has c w u h).0)
  parent_sibling (node a c s) d u v w (inr (inl h)) (inr (inl k)) n =
      inr (inl (parent_sibling c (apart a c s d).children u v w h k n))
  parent_sibling (node a c s) d u v w (inr (inl h)) (inr (inr k)) n =
      absurd ((apart a c s d).children_next w (parent_has c w u h).0 (parent_has s w v k).0)
  parent_sibling (node a c s) d u v w (inr (inr h)) (inl k) n = absurd ((apart a c s d).entry_next w k.0 (parent_has s w u h).0)
  parent_sibling (node a c s) d u v w (inr (inr h)) (inr (inl k)) n =
      absurd ((apart a c s d).children_next w (parent_has c w v k).0 (parent_has s w u h).0)
  parent_sibling (node a c s) d u v w (inr (inr h)) (inr (inr k)) n = inr (inr (parent_sibling s (apart a c s d).next u v w h k n))

  pub one_depth : (f : Forest A) → Distinct (preorder f) → (m n : ℕ) (v : A) → Depth v m f → Depth v n f → m ≡ n
  one_depth f d zero zero v h k = refl
  one_depth f d zero (suc n) v h (u, k, j) = absurd (row_orphan f d u v h k)
  one_depth f d (suc m) zero v (u, h, i) k = absurd (row_orphan f d u v k h)
  one_depth f d (suc m) (suc n) v (u, h, i) (w, k, j) =
      let e : u ≡ w = one_parent f d u w v h k in
      ap suc (one_depth f d m n w (rw e at i) j)
