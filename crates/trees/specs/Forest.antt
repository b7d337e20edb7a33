-- Ordered forests: first child and next sibling. No codes and no bytes; the axes are in Axes.
-- Assumes nothing.
use Rattle.std.specs.Prelude.{List, [], ◌∷◌, ◌++◌, ℕ, zero, suc, pred, ◌+◌, ◌<◌}

-- a row of entries: the first one, its own row of children, the rest of the row
pub data Forest (A : Type 0) : Type 0 where
  nil : Forest A
  node : (entry : A) (children next : Forest A) → Forest A

module _ {A : Type 0} where
  -- the number of entries
  abbrev pub size : Forest A → ℕ
  size nil = zero
  size (node a c s) = suc (size c + size s)

  -- XPath, document order: an element occurs before its children
  abbrev pub preorder : Forest A → List A
  preorder nil = []
  preorder (node a c s) = a ∷ (preorder c ++ preorder s)

  -- 01, Register: an ordered tree has one root
  abbrev pub Rooted : Forest A → Type 0
  Rooted nil = ⊥
  Rooted (node a c nil) = Unit {0}
  Rooted (node a c (node b d s)) = ⊥

  -- 01, Register, depths from 0 to a deepest one: at most k levels, so depths below k
  abbrev pub Height : ℕ → Forest A → Type 0
  Height k nil = Unit {0}
  Height k (node a c s) = (0 < k) × Height (pred k) c × Height k s

-- the same forest with other entries
abbrev pub image : {A B : Type 0} → (A → B) → Forest A → Forest B
image g nil = nil
image g (node a c s) = node (g a) (image g c) (image g s)
