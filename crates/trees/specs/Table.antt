-- A table: rows of an entry and its depth, in document order; its rule, and the forest that it stands for.
-- Assumes nothing.
use Rattle.std.specs.Prelude.{◌≡◌, List, [], ◌∷◌, ◌++◌}
use Prim.Native.Nat.{ℕ, suc, ◌+◌, ◌≤◌, compare, Ordering}
use Rattle.trees.specs.Forest.{Forest, nil, node}

-- 01, Table: a later depth is at least 1, at most the previous depth plus 1, and at most `deepest`
pub record Later (deepest previous depth : ℕ) : Type 0 where
  pub inner : 1 ≤ depth
  pub step : depth ≤ previous + 1
  pub bounded : depth ≤ deepest

module _ {A : Type 0} where
  -- each row after the one before it
  abbrev pub Follow : (deepest previous : ℕ) → List (A × ℕ) → Type 0
  Follow deepest previous [] = Unit {0}
  Follow deepest previous (row ∷ t) = Later deepest previous row.1 × Follow deepest row.1 t

  -- 01, Table: the first depth is 0, and each later one follows the rule; that there are rows is another condition
  abbrev pub Ruled : (deepest : ℕ) → List (A × ℕ) → Type 0
  Ruled deepest [] = Unit {0}
  Ruled deepest (row ∷ t) = (row.1 ≡ 0) × Follow deepest row.1 t

  -- the rule for any number of roots: the first depth is at most k, each later one at most the previous depth plus 1
  abbrev pub Steps : ℕ → List (A × ℕ) → Type 0
  Steps k [] = Unit {0}
  Steps k (row ∷ t) = (row.1 ≤ k) × Steps (suc row.1) t

  -- the rows of a forest whose first row has depth d
  abbrev pub rows : ℕ → Forest A → List (A × ℕ)
  rows d nil = []
  rows d (node a c s) = (a, d) ∷ (rows (suc d) c ++ rows d s)

  -- a table's first row against the depth asked for: higher up, there; or deeper, the child of an entry already taken
  abbrev pub grow : Ordering → A → Forest A → Forest A → Forest A
  grow Ordering.lt a c s = nil
  grow Ordering.eq a c s = node a c s
  grow Ordering.gt a c s = s

  -- the row of siblings of depth d with which the table begins
  abbrev pub forest_at : ℕ → List (A × ℕ) → Forest A
  forest_at d [] = nil
  forest_at d (row ∷ t) = let c = forest_at (suc d) t in let s = forest_at d t in grow (compare row.1 d) row.0 c s

  -- the forest that a table stands for
  abbrev pub forest : List (A × ℕ) → Forest A
  forest t = forest_at 0 t
