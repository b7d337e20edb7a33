-- Edits of forests: a row put into a gap between siblings, a leaf taken out. No codes and no bytes; an entry is named by its number
-- in document order.
-- Assumes nothing.
use Rattle.std.specs.Prelude.{◌⊎◌, Bool, true, false, cond, List, [], ◌∷◌, ◌++◌, ℕ, zero, suc, ◌-◌, ltb}
use Rattle.std.proofs.Common.{inl, inr}
use Rattle.trees.specs.Forest.{Forest, nil, node, size, preorder}

-- 01, Edit: first child of, last child of, directly before, directly after
pub data Where : Type 0 where
  first_child last_child before after : Where

-- a place inside its target, at one of the ends of its row of children
abbrev pub is_inside : Where → Bool
is_inside first_child = true
is_inside last_child = true
is_inside before = false
is_inside after = false

-- the depth of an entry at a place whose target has depth n
abbrev pub level_beside : Where → ℕ → ℕ
level_beside w n = cond (is_inside w) (suc n) n

module _ {A : Type 0} where
  -- a gap of a forest: in front of an entry or at the end of a row; of the first row, of a row of children, or further on
  abbrev pub Spot : Forest A → Type 0
  Spot nil = Unit {0}
  Spot (node a c s) = Unit {0} ⊎ (Spot c ⊎ Spot s)

  -- a row of one entry without children
  abbrev pub leaf : A → Forest A
  leaf a = node a nil nil

  -- a row with another behind it
  abbrev pub join : Forest A → Forest A → Forest A
  join nil g = g
  join (node a c s) g = node a c (join s g)

  -- the row g put into a gap
  abbrev pub put : Forest A → (f : Forest A) → Spot f → Forest A
  put g nil q = g
  put g (node a c s) (inl q) = join g (node a c s)
  put g (node a c s) (inr (inl q)) = node a (put g c q) s
  put g (node a c s) (inr (inr q)) = node a c (put g s q)

  -- the entries before a gap and behind it, in document order
  abbrev pub ahead : (f : Forest A) → Spot f → List A
  ahead nil q = []
  ahead (node a c s) (inl q) = []
  ahead (node a c s) (inr (inl q)) = a ∷ ahead c q
  ahead (node a c s) (inr (inr q)) = a ∷ (preorder c ++ ahead s q)

  abbrev pub behind : (f : Forest A) → Spot f → List A
  behind nil q = []
  behind (node a c s) (inl q) = preorder (node a c s)
  behind (node a c s) (inr (inl q)) = behind c q ++ preorder s
  behind (node a c s) (inr (inr q)) = behind s q

  -- the depth of what is put into a gap
  abbrev pub level_at : (f : Forest A) → Spot f → ℕ
  level_at nil q = zero
  level_at (node a c s) (inl q) = zero
  level_at (node a c s) (inr (inl q)) = suc (level_at c q)
  level_at (node a c s) (inr (inr q)) = level_at s q

  -- in front of a row, and at its end
  abbrev pub front_spot : (f : Forest A) → Spot f
  front_spot nil = tt
  front_spot (node a c s) = inl tt

  abbrev pub end_spot : (f : Forest A) → Spot f
  end_spot nil = tt
  end_spot (node a c s) = inr (inr (end_spot s))

  -- 01, Edit: the place at the first entry of a row
  abbrev pub spot_here : Where → (a : A) (c s : Forest A) → Spot (node a c s)
  spot_here first_child a c s = inr (inl (front_spot c))
  spot_here last_child a c s = inr (inl (end_spot c))
  spot_here before a c s = inl tt
  spot_here after a c s = inr (inr (front_spot s))

  -- 01, Edit: the place at entry number i
  abbrev pub spot_of : Where → ℕ → (f : Forest A) → Spot f
  spot_of w i nil = tt
  spot_of w zero (node a c s) = spot_here w a c s
  spot_of w (suc i) (node a c s) = cond (ltb i (size c)) (inr (inl (spot_of w i c))) (inr (inr (spot_of w (i - size c) s)))

  -- 01, an insertion: a leaf put in at a place
  abbrev pub inserted : Where → ℕ → A → Forest A → Forest A
  inserted w i a f = put (leaf a) f (spot_of w i f)

  -- entry number i has no children
  abbrev pub is_nothing : Forest A → Bool
  is_nothing nil = true
  is_nothing (node a c s) = false

  abbrev pub is_leaf : ℕ → Forest A → Bool
  is_leaf i nil = true
  is_leaf zero (node a c s) = is_nothing c
  is_leaf (suc i) (node a c s) = cond (ltb i (size c)) (is_leaf i c) (is_leaf (i - size c) s)

  -- 01, a deletion: the leaf number i taken out
  abbrev pub without : ℕ → Forest A → Forest A
  without i nil = nil
  without zero (node a c s) = s
  without (suc i) (node a c s) = cond (ltb i (size c)) (node a (without i c) s) (node a c (without (i - size c) s))
