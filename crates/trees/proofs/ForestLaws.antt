-- Laws of forests and of XPath's axes on them: members, parents and ancestors, the partition by axes, document order.
-- Those that need that no entry stands twice are in DistinctLaws.
-- Assumes nothing.
use mathlib.Core.Path.{◌≡◌, refl, sym, ◌∙◌}
use mathlib.Core.Logic.{◌⊎◌, inl, inr, ◌↔◌}
use native.Mathlib.Omega.{arith}
use lib.ListN.{length, length-append}
use Rattle.digits.specs.Lists.{All}
use Rattle.digits.proofs.OrderLaws.{Three, lower, equal, upper}
use Rattle.trees.specs.Lists.{Member}
use Rattle.trees.specs.Forest.{Forest, nil, node, size, preorder}
use Rattle.trees.specs.Axes.{Has, OfRow, Parent, Ancestor, Preceding, Before, Partition, self, ancestor, descendant, preceding, following}
use Rattle.trees.proofs.ListLaws.{gives_all, member_left, member_right, member_append, EarlierIn, earlier_append, append_earlier}

module _ {A : Type 0} where
  pub length_preorder : (f : Forest A) → length (preorder f) ≡ size f
  length_preorder nil = refl
  length_preorder (node a c s) = simp length-append (omega (arith, length_preorder c, length_preorder s))

  pub has_gives_member : (f : Forest A) (v : A) → Has v f → Member v (preorder f)
  has_gives_member nil v h = h
  has_gives_member (node a c s) v (inl e) = inl e
  has_gives_member (node a c s) v (inr (inl h)) = inr (member_left (preorder c) (preorder s) v (has_gives_member c v h))
  has_gives_member (node a c s) v (inr (inr h)) = inr (member_right (preorder c) (preorder s) v (has_gives_member s v h))

  pub member_gives_has : (f : Forest A) (v : A) → Member v (preorder f) → Has v f
  member_gives_has nil v h = h
  member_gives_has (node a c s) v (inl e) = inl e
  member_gives_has (node a c s) v (inr h) = go (member_gives_has c v) (member_gives_has s v) (member_append (preorder c) (preorder s) v h)
    where
      go : (Member v (preorder c) → Has v c) → (Member v (preorder s) → Has v s)
          → Member v (preorder c) ⊎ Member v (preorder s) → Has v (node a c s)
      go p q (inl k) = inr (inl (p k))
      go p q (inr k) = inr (inr (q k))

  -- what holds of each entry holds of all in document order
  pub has_gives_all : (P : A → Type 0) (f : Forest A) → ((v : A) → Has v f → P v) → All P (preorder f)
  has_gives_all P f h = gives_all P (preorder f) (λ v m. h v (member_gives_has f v m))

  pub row_has : (f : Forest A) (v : A) → OfRow v f → Has v f
  row_has nil v h = h
  row_has (node a c s) v (inl e) = inl e
  row_has (node a c s) v (inr h) = inr (inr (row_has s v h))

  pub ancestor_has : (f : Forest A) (u v : A) → Ancestor u v f → Has u f × Has v f
  ancestor_has nil u v h = absurd h
  ancestor_has (node a c s) u v (inl (e, h)) = (inl e, inr (inl h))
  ancestor_has (node a c s) u v (inr (inl h)) = let k = ancestor_has c u v h in (inr (inl k.0), inr (inl k.1))
  ancestor_has (node a c s) u v (inr (inr h)) = let k = ancestor_has s u v h in (inr (inr k.0), inr (inr k.1))

  parent_ancestor : (f : Forest A) (u v : A) → Parent u v f → Ancestor u v f
  parent_ancestor nil u v h = h
  parent_ancestor (node a c s) u v (inl (e, h)) = inl (e, row_has c v h)
  parent_ancestor (node a c s) u v (inr (inl h)) = inr (inl (parent_ancestor c u v h))
  parent_ancestor (node a c s) u v (inr (inr h)) = inr (inr (parent_ancestor s u v h))

  pub parent_has : (f : Forest A) (u v : A) → Parent u v f → Has u f × Has v f
  parent_has f u v h = ancestor_has f u v (parent_ancestor f u v h)

  pub preceding_has : (f : Forest A) (u v : A) → Preceding u v f → Has u f
  preceding_has nil u v h = h
  preceding_has (node a c s) u v (inl (inl e, k)) = inl e
  preceding_has (node a c s) u v (inl (inr j, k)) = inr (inl j)
  preceding_has (node a c s) u v (inr (inl k)) = inr (inl (preceding_has c u v k))
  preceding_has (node a c s) u v (inr (inr k)) = inr (inr (preceding_has s u v k))

  -- f is a part of g: what the axes say in f they say in g
  pub record PartOf (f g : Forest A) : Type 0 where
    pub parents : (u v : A) → Parent u v f → Parent u v g
    pub ancestors : (u v : A) → Ancestor u v f → Ancestor u v g
    pub precedings : (u v : A) → Preceding u v f → Preceding u v g
    pub befores : (u v : A) → Before u v f → Before u v g

  children_part : (a : A) (c s : Forest A) → PartOf c (node a c s)
  children_part a c s = record {
    parents = λ u v h. inr (inl h);
    ancestors = λ u v h. inr (inl h);
    precedings = λ u v h. inr (inl h);
    befores = λ u v h. inr (append_earlier (preorder c) (preorder s) u v (inr (inl h)));
  }

  pub next_part : (a : A) (c s : Forest A) → PartOf s (node a c s)
  next_part a c s = record {
    parents = λ u v h. inr (inr h);
    ancestors = λ u v h. inr (inr h);
    precedings = λ u v h. inr (inr h);
    befores = λ u v h. inr (append_earlier (preorder c) (preorder s) u v (inr (inr h)));
  }

  -- an entry is of the first row or has a parent
  pub has_parent : (f : Forest A) (v : A) → Has v f → OfRow v f ⊎ ((u : A) × Parent u v f)
  has_parent nil v h = absurd h
  has_parent (node a c s) v (inl e) = inl (inl e)
  has_parent (node a c s) v (inr (inl h)) = go (has_parent c v h)
    where
      go : OfRow v c ⊎ ((u : A) × Parent u v c) → OfRow v (node a c s) ⊎ ((u : A) × Parent u v (node a c s))
      go (inl k) = inr (a, inl (refl, k))
      go (inr (u, k)) = inr (u, inr (inl k))
  has_parent (node a c s) v (inr (inr h)) = go (has_parent s v h)
    where
      go : OfRow v s ⊎ ((u : A) × Parent u v s) → OfRow v (node a c s) ⊎ ((u : A) × Parent u v (node a c s))
      go (inl k) = inl (inr k)
      go (inr (u, k)) = inr (u, inr (inr k))

  -- XPath: the ancestors are the parent, and the parent's parent and so on
  abbrev Upward : A → A → Forest A → Type 0
  Upward u v f = Parent u v f ⊎ ((w : A) × Ancestor u w f × Parent w v f)

  upward_part : (f g : Forest A) → PartOf f g → (u v : A) → Upward u v f → Upward u v g
  upward_part f g t u v (inl h) = inl (t.parents u v h)
  upward_part f g t u v (inr (w, h, k)) = inr (w, t.ancestors u w h, t.parents w v k)

  ancestor_upward : (f : Forest A) (u v : A) → Ancestor u v f → Upward u v f
  ancestor_upward nil u v h = absurd h
  ancestor_upward (node a c s) u v (inl (e, h)) = go (has_parent c v h)
    where
      go : OfRow v c ⊎ ((w : A) × Parent w v c) → Upward u v (node a c s)
      go (inl k) = inl (inl (e, k))
      go (inr (w, k)) = inr (w, inl (e, (parent_has c w v k).0), inr (inl k))
  ancestor_upward (node a c s) u v (inr (inl h)) = upward_part c (node a c s) (children_part a c s) u v (ancestor_upward c u v h)
  ancestor_upward (node a c s) u v (inr (inr h)) = upward_part s (node a c s) (next_part a c s) u v (ancestor_upward s u v h)

  partition_part : (f g : Forest A) → PartOf f g → (u v : A) → Partition u v f → Partition u v g
  partition_part f g t u v (self e) = self e
  partition_part f g t u v (ancestor h) = ancestor (t.ancestors u v h)
  partition_part f g t u v (descendant h) = descendant (t.ancestors v u h)
  partition_part f g t u v (preceding h) = preceding (t.precedings u v h)
  partition_part f g t u v (following h) = following (t.precedings v u h)

  pub partition : (f : Forest A) (u v : A) → Has u f → Has v f → Partition u v f
  partition nil u v h k = absurd h
  partition (node a c s) u v (inl h) (inl k) = self (h ∙ sym k)
  partition (node a c s) u v (inl h) (inr (inl k)) = ancestor (inl (h, k))
  partition (node a c s) u v (inl h) (inr (inr k)) = preceding (inl (inl h, k))
  partition (node a c s) u v (inr (inl h)) (inl k) = descendant (inl (k, h))
  partition (node a c s) u v (inr (inl h)) (inr (inl k)) = partition_part c _ (children_part a c s) u v (partition c u v h k)
  partition (node a c s) u v (inr (inl h)) (inr (inr k)) = preceding (inl (inr h, k))
  partition (node a c s) u v (inr (inr h)) (inl k) = following (inl (inl k, h))
  partition (node a c s) u v (inr (inr h)) (inr (inl k)) = following (inl (inr k, h))
  partition (node a c s) u v (inr (inr h)) (inr (inr k)) = partition_part s _ (next_part a c s) u v (partition s u v h k)

  -- document order is the ancestors and the preceding entries
  abbrev pub Ahead : A → A → Forest A → Type 0
  Ahead u v f = Ancestor u v f ⊎ Preceding u v f

  ahead_part : (f g : Forest A) → PartOf f g → (u v : A) → Ahead u v f → Ahead u v g
  ahead_part f g t u v (inl h) = inl (t.ancestors u v h)
  ahead_part f g t u v (inr h) = inr (t.precedings u v h)

  before_gives_ahead : (f : Forest A) (u v : A) → Before u v f → Ahead u v f
  before_gives_ahead nil u v h = absurd h
  before_gives_ahead (node a c s) u v (inl (e, m)) = go (member_append (preorder c) (preorder s) v m)
    where
      go : Member v (preorder c) ⊎ Member v (preorder s) → Ahead u v (node a c s)
      go (inl k) = inl (inl (e, member_gives_has c v k))
      go (inr k) = inr (inl (inl e, member_gives_has s v k))
  before_gives_ahead (node a c s) u v (inr h) =
      go (before_gives_ahead c u v) (before_gives_ahead s u v) (earlier_append (preorder c) (preorder s) u v h)
    where
      go : (Before u v c → Ahead u v c) → (Before u v s → Ahead u v s) → EarlierIn u v (preorder c) (preorder s) → Ahead u v (node a c s)
      go p q (inl (k, m)) = inr (inl (inr (member_gives_has c u k), member_gives_has s v m))
      go p q (inr (inl k)) = ahead_part c _ (children_part a c s) u v (p k)
      go p q (inr (inr k)) = ahead_part s _ (next_part a c s) u v (q k)

  -- 01: an ancestor is before its descendants
  ancestor_before : (f : Forest A) (u v : A) → Ancestor u v f → Before u v f
  ancestor_before nil u v h = h
  ancestor_before (node a c s) u v (inl (e, h)) = inl (e, member_left (preorder c) (preorder s) v (has_gives_member c v h))
  ancestor_before (node a c s) u v (inr (inl h)) = (children_part a c s).befores u v (ancestor_before c u v h)
  ancestor_before (node a c s) u v (inr (inr h)) = (next_part a c s).befores u v (ancestor_before s u v h)

  preceding_before : (f : Forest A) (u v : A) → Preceding u v f → Before u v f
  preceding_before nil u v h = h
  preceding_before (node a c s) u v (inl (inl e, h)) = inl (e, member_right (preorder c) (preorder s) v (has_gives_member s v h))
  preceding_before (node a c s) u v (inl (inr h, k)) =
      inr (append_earlier (preorder c) (preorder s) u v (inl (has_gives_member c u h, has_gives_member s v k)))
  preceding_before (node a c s) u v (inr (inl h)) = (children_part a c s).befores u v (preceding_before c u v h)
  preceding_before (node a c s) u v (inr (inr h)) = (next_part a c s).befores u v (preceding_before s u v h)

  pub before_ahead : (f : Forest A) (u v : A) → Before u v f ↔ Ahead u v f
  before_ahead f u v = (before_gives_ahead f u v, back)
    where
      back : Ahead u v f → Before u v f
      back (inl h) = ancestor_before f u v h
      back (inr h) = preceding_before f u v h

  -- of two entries, one is before the other or they are the same
  pub before_three : (f : Forest A) (u v : A) → Has u f → Has v f → Three (Before u v f) (u ≡ v) (Before v u f)
  before_three f u v h k = go (partition f u v h k)
    where
      go : Partition u v f → Three (Before u v f) (u ≡ v) (Before v u f)
      go (self e) = equal e
      go (ancestor i) = lower (ancestor_before f u v i)
      go (descendant i) = upper (ancestor_before f v u i)
      go (preceding i) = lower (preceding_before f u v i)
      go (following i) = upper (preceding_before f v u i)
