-- The codes on both sides of a gap along the tour, and the entry that an insertion puts in.
-- Assumes nothing.
use Rattle.std.proofs.Common.{inl, inr}
use Rattle.std.specs.Prelude.{List, [], ◌∷◌, ◌++◌, ℕ}
use Rattle.digits.specs.Order.{Digits}
use Rattle.digits.specs.Between.{start_of, end_of}
use Rattle.trees.specs.Forest.{Forest, nil, node}
use Rattle.trees.specs.Tour.{tour}
use Rattle.trees.specs.Labelled.{Entry, starts, ends}
use Rattle.trees.specs.Edit.{Where, Spot, leaf, put, spot_of}

-- the last of a list, or what stands in front of it; the first, or what stands behind it
abbrev pub last_or : Digits → List Digits → Digits
last_or l [] = l
last_or l (x ∷ xs) = last_or x xs

abbrev pub head_or : Digits → List Digits → Digits
head_or r [] = r
head_or r (x ∷ xs) = x

module _ {A : Type 0} (st en : A → Digits) where
  -- the codes before a gap and behind it, along the tour
  abbrev pub codes_ahead : (f : Forest A) → Spot f → List Digits
  codes_ahead nil q = []
  codes_ahead (node a c s) (inl q) = []
  codes_ahead (node a c s) (inr (inl q)) = st a ∷ codes_ahead c q
  codes_ahead (node a c s) (inr (inr q)) = st a ∷ (tour st en c ++ (en a ∷ codes_ahead s q))

  abbrev pub codes_behind : (f : Forest A) → Spot f → List Digits
  codes_behind nil q = []
  codes_behind (node a c s) (inl q) = tour st en (node a c s)
  codes_behind (node a c s) (inr (inl q)) = codes_behind c q ++ (en a ∷ tour st en s)
  codes_behind (node a c s) (inr (inr q)) = codes_behind s q

  -- 01, Edit: its neighbours L and R are the two codes that stand next to that place along the tour; outside of all codes, open sides
  abbrev pub left_of : (f : Forest A) → Spot f → Digits
  left_of f q = last_or [] (codes_ahead f q)

  abbrev pub right_of : (f : Forest A) → Spot f → Digits
  right_of f q = head_or [] (codes_behind f q)

module _ {A : Type 0} where
  -- the parent start of what is put into a gap; p is the first row's
  abbrev pub parent_at : Digits → (f : Forest (Entry A)) → Spot f → Digits
  parent_at p nil q = p
  parent_at p (node u c s) (inl q) = p
  parent_at p (node u c s) (inr (inl q)) = parent_at u.start c q
  parent_at p (node u c s) (inr (inr q)) = parent_at p s q

  -- 01, Edit: the new start is the one code between L and R, the new end the one code between that start and R
  abbrev pub new_entry : A → (f : Forest (Entry A)) → Spot f → Entry A
  new_entry a f q =
      let l = left_of starts ends f q in
      let r = right_of starts ends f q in
      record { name = a; start = start_of l r; end = end_of l r; parent = parent_at [] f q }

  -- 01, Edit: the labelled tree with the new leaf; no other entry changes
  abbrev pub inserted_entry : Where → ℕ → A → Forest (Entry A) → Forest (Entry A)
  inserted_entry w i a f = let q = spot_of w i f in put (leaf (new_entry a f q)) f q
