-- XPath 1.0's axes and document order, as relations of two entries of a forest, the upper or earlier one first; and depth.
-- Assumes nothing.
use Rattle.std.specs.Prelude.{◌≡◌, ◌⊎◌, ◌≢◌, ℕ, zero, suc}
use Rattle.trees.specs.Lists.{Earlier}
use Rattle.trees.specs.Forest.{Forest, nil, node, preorder}

module _ {A : Type 0} where
  -- v is an entry of the forest
  abbrev pub Has : A → Forest A → Type 0
  Has v nil = ⊥
  Has v (node a c s) = (v ≡ a) ⊎ (Has v c ⊎ Has v s)

  -- v is an entry of the first row: it has no parent in the forest
  abbrev pub OfRow : A → Forest A → Type 0
  OfRow v nil = ⊥
  OfRow v (node a c s) = (v ≡ a) ⊎ OfRow v s

  -- XPath, parent: v is one of u's row of children
  abbrev pub Parent : A → A → Forest A → Type 0
  Parent u v nil = ⊥
  Parent u v (node a c s) = ((u ≡ a) × OfRow v c) ⊎ (Parent u v c ⊎ Parent u v s)

  -- XPath, ancestor: v is one of u's children, or of their children, and so on
  abbrev pub Ancestor : A → A → Forest A → Type 0
  Ancestor u v nil = ⊥
  Ancestor u v (node a c s) = ((u ≡ a) × Has v c) ⊎ (Ancestor u v c ⊎ Ancestor u v s)

  -- XPath, sibling: two different entries of one parent's row of children
  abbrev pub Sibling : A → A → Forest A → Type 0
  Sibling u v nil = ⊥
  Sibling u v (node a c s) = (OfRow u c × OfRow v c × (u ≢ v)) ⊎ (Sibling u v c ⊎ Sibling u v s)

  -- XPath, preceding: u is before v in document order and no ancestor of it
  abbrev pub Preceding : A → A → Forest A → Type 0
  Preceding u v nil = ⊥
  Preceding u v (node a c s) = (((u ≡ a) ⊎ Has u c) × Has v s) ⊎ (Preceding u v c ⊎ Preceding u v s)

  -- 01, "before" is document order
  abbrev pub Before : A → A → Forest A → Type 0
  Before u v f = Earlier u v (preorder f)

  -- 01, depth: an entry of the first row has depth 0, any other one more than its parent
  abbrev pub Depth : A → ℕ → Forest A → Type 0
  Depth v zero f = OfRow v f
  Depth v (suc n) f = (u : A) × Parent u v f × Depth u n f

  -- XPath: the self, ancestor, descendant, preceding and following axes together contain all the nodes
  pub data Partition (u v : A) (f : Forest A) : Type 0 where
    self : u ≡ v → Partition u v f
    ancestor : Ancestor u v f → Partition u v f
    descendant : Ancestor v u f → Partition u v f
    preceding : Preceding u v f → Partition u v f
    following : Preceding v u f → Partition u v f
