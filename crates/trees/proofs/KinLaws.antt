-- In a rising tour the codes say what the axes say: document order, ancestor, parent, sibling, each in both directions.
-- Assumes nothing.
use mathlib.Core.Path.{◌≡◌, sym, ap, ◌∙◌}
use mathlib.Core.Logic.{◌⊎◌, inl, inr, ◌≢◌, ◌↔◌}
use mathlib.Core.List.{[]}
use Rattle.digits.specs.Lists.{Distinct}
use Rattle.digits.specs.Order.{Digits, Below}
use Rattle.digits.specs.Code.{Rising}
use Rattle.digits.proofs.OrderLaws.{Three, lower, equal, upper, below_irrefl, below_nil, below_trans, below_asym}
use Rattle.trees.specs.Lists.{Pairs}
use Rattle.trees.specs.Forest.{Forest, nil, node, preorder}
use Rattle.trees.specs.Axes.{Has, OfRow, Parent, Ancestor, Sibling, Preceding, Before, Partition, self, ancestor, descendant, preceding, following}
use Rattle.trees.specs.Tour.{tour, Rises, Parents}
use Rattle.trees.specs.Questions.{OrderCodes, AboveCodes, ParentCodes, SiblingCodes}
use Rattle.trees.proofs.ListLaws.{gives_pairs, pairs_distinct}
use Rattle.trees.proofs.ForestLaws.{parent_has, preceding_has, has_parent, partition, Ahead, before_ahead, before_three}
use Rattle.trees.proofs.DistinctLaws.{sibling_parent, parent_sibling}
use Rattle.trees.proofs.TourLaws.{under_real, at, inside}

module _ {A : Type 0} (st en : A → Digits) where
  ancestor_above : (f : Forest A) (l r : Digits) → Rising l (tour st en f) r → (u v : A) → Ancestor u v f → AboveCodes st en u v
  ancestor_above nil l r h u v k = absurd k
  ancestor_above (node a c s) l r h u v (inl (e, k)) =
      let t = at st en l r a c s h in
      let i = inside st en c (st a) (en a) t.children v k in
      rw e (i.above, under_real (st a) (en v) (en a) t.inner i.under)
  ancestor_above (node a c s) l r h u v (inr (inl k)) = ancestor_above c (st a) (en a) (at st en l r a c s h).children u v k
  ancestor_above (node a c s) l r h u v (inr (inr k)) = ancestor_above s (en a) r (at st en l r a c s h).next u v k

  -- a preceding entry ends before the other starts
  preceding_ends : (f : Forest A) (l r : Digits) → Rising l (tour st en f) r → (u v : A) → Preceding u v f → Below (en u) (st v)
  preceding_ends nil l r h u v k = absurd k
  preceding_ends (node a c s) l r h u v (inl (inl e, k)) = rw e (inside st en s (en a) r (at st en l r a c s h).next v k).above
  preceding_ends (node a c s) l r h u v (inl (inr j, k)) =
      let t = at st en l r a c s h in
      let b = under_real (st a) (en u) (en a) t.inner (inside st en c (st a) (en a) t.children u j).under in
      below_trans (en u) (en a) (st v) b (inside st en s (en a) r t.next v k).above
  preceding_ends (node a c s) l r h u v (inr (inl k)) = preceding_ends c (st a) (en a) (at st en l r a c s h).children u v k
  preceding_ends (node a c s) l r h u v (inr (inr k)) = preceding_ends s (en a) r (at st en l r a c s h).next u v k

  module _ (f : Forest A) (rises : Rises st en f) where
    pub start_end : (v : A) → Has v f → Below (st v) (en v)
    start_end v h = (inside st en f [] [] rises v h).inner

    pub start_some : (v : A) → Has v f → st v ≢ []
    start_some v h e = below_nil [] (rw e at (inside st en f [] [] rises v h).above)

    before_gives_order : (u v : A) → Before u v f → Below (st u) (st v)
    before_gives_order u v h = go ((before_ahead f u v).0 h)
      where
        go : Ahead u v f → Below (st u) (st v)
        go (inl k) = (ancestor_above f [] [] rises u v k).0
        go (inr k) =
            below_trans (st u) (en u) (st v) (start_end u (preceding_has f u v k)) (preceding_ends f [] [] rises u v k)

    -- in document order the starts rise, so no entry stands twice
    starts_rise : Pairs (OrderCodes st) (preorder f)
    starts_rise = gives_pairs (OrderCodes st) (preorder f) before_gives_order

    pub rises_distinct : Distinct (preorder f)
    rises_distinct = pairs_distinct (OrderCodes st) (λ x. below_irrefl (st x)) (preorder f) starts_rise

    -- one entry for a start
    pub one_start : (u v : A) → Has u f → Has v f → st u ≡ st v → u ≡ v
    one_start u v h k e = go (before_three f u v h k)
      where
        go : Three (Before u v f) (u ≡ v) (Before v u f) → u ≡ v
        go (lower b) = absurd (below_irrefl (st v) (rw e at (before_gives_order u v b)))
        go (equal i) = i
        go (upper b) = absurd (below_irrefl (st v) (rw e at (before_gives_order v u b)))

    -- 01, Order: minus one, zero or plus one by start
    pub order_codes : (u v : A) → Has u f → Has v f → OrderCodes st u v ↔ Before u v f
    order_codes u v h k = (λ b. go b (before_three f u v h k), before_gives_order u v)
      where
        go : Below (st u) (st v) → Three (Before u v f) (u ≡ v) (Before v u f) → Before u v f
        go b (lower i) = i
        go b (equal e) = absurd (below_irrefl (st v) (rw (ap st e) at b))
        go b (upper i) = absurd (below_asym (st u) (st v) b (before_gives_order v u i))

    -- 01, Above
    pub above_codes : (u v : A) → Has u f → Has v f → AboveCodes st en u v ↔ Ancestor u v f
    above_codes u v h k = (λ b. go b (partition f u v h k), ancestor_above f [] [] rises u v)
      where
        go : AboveCodes st en u v → Partition u v f → Ancestor u v f
        go b (self e) = absurd (below_irrefl (st v) (rw (ap st e) at b.0))
        go b (ancestor i) = i
        go b (descendant i) = absurd (below_asym (st u) (st v) b.0 (ancestor_above f [] [] rises v u i).0)
        go b (preceding i) =
            let c = below_trans (en u) (st v) (en v) (preceding_ends f [] [] rises u v i) (start_end v k) in
            absurd (below_asym (en v) (en u) b.1 c)
        go b (following i) =
            let c = below_trans (st v) (en v) (st u) (start_end v k) (preceding_ends f [] [] rises v u i) in
            absurd (below_asym (st u) (st v) b.0 c)

module _ {A : Type 0} (st ps : A → Digits) where
  row_parent : (p : Digits) (f : Forest A) (v : A) → Parents st ps p f → OfRow v f → ps v ≡ p
  row_parent p nil v h k = absurd k
  row_parent p (node a c s) v h (inl e) = rw e h.0
  row_parent p (node a c s) v h (inr k) = row_parent p s v h.2 k

  parent_start : (p : Digits) (f : Forest A) (u v : A) → Parents st ps p f → Parent u v f → ps v ≡ st u
  parent_start p nil u v h k = absurd k
  parent_start p (node a c s) u v h (inl (e, k)) = rw e (row_parent (st a) c v h.1 k)
  parent_start p (node a c s) u v h (inr (inl k)) = parent_start (st a) c u v h.1 k
  parent_start p (node a c s) u v h (inr (inr k)) = parent_start p s u v h.2 k

module _ {A : Type 0} (st en ps : A → Digits) (f : Forest A) (rises : Rises st en f) (parents : Parents st ps [] f) where
  -- a parent start that is not empty is some parent's start
  named_parent : (v : A) → Has v f → ps v ≢ [] → (u : A) × Parent u v f
  named_parent v h n = go (has_parent f v h)
    where
      go : OfRow v f ⊎ ((u : A) × Parent u v f) → (u : A) × Parent u v f
      go (inl k) = absurd (n (row_parent st ps [] f v parents k))
      go (inr k) = k

  parent_gives_codes : (u v : A) → Parent u v f → ParentCodes st ps u v
  parent_gives_codes u v h =
      let e = parent_start st ps [] f u v parents h in
      (λ n. start_some st en f rises u (parent_has f u v h).0 (sym e ∙ n), e)

  codes_gives_parent : (u v : A) → Has u f → Has v f → ParentCodes st ps u v → Parent u v f
  codes_gives_parent u v h k c =
      let q = named_parent v k c.0 in
      let w = q.0 in
      let i = parent_start st ps [] f w v parents q.1 in
      let e : u ≡ w = one_start st en f rises u w h (parent_has f w v q.1).0 (sym c.1 ∙ i) in
      rw e q.1

  -- 01, Parent
  pub parent_codes : (u v : A) → Has u f → Has v f → ParentCodes st ps u v ↔ Parent u v f
  parent_codes u v h k = (codes_gives_parent u v h k, parent_gives_codes u v)

  codes_gives_sibling : (u v : A) → Has u f → Has v f → SiblingCodes st ps u v → Sibling u v f
  codes_gives_sibling u v h k c =
      let q = named_parent u h c.left in
      let w = q.0 in
      let j = (parent_has f w u q.1).0 in
      let i = codes_gives_parent w v j k (c.right, sym c.equal ∙ parent_start st ps [] f w u parents q.1) in
      parent_sibling f (rises_distinct st en f rises) u v w q.1 i (λ e. c.different (ap st e))

  sibling_gives_codes : (u v : A) → Has u f → Has v f → Sibling u v f → SiblingCodes st ps u v
  sibling_gives_codes u v h k i =
      let q = sibling_parent f u v i in
      let a = parent_gives_codes q.0 u q.1 in
      let b = parent_gives_codes q.0 v q.2 in
      record {
        left = a.0;
        right = b.0;
        equal = a.1 ∙ sym b.1;
        different = λ e. q.3 (one_start st en f rises u v h k e);
      }

  -- 01, Sibling
  pub sibling_codes : (u v : A) → Has u f → Has v f → SiblingCodes st ps u v ↔ Sibling u v f
  sibling_codes u v h k = (codes_gives_sibling u v h k, sibling_gives_codes u v h k)
