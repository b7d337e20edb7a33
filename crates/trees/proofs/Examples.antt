-- 01's worked rows, as the program `label` prints them: identity, tag, start, end, parent start.
-- Assumes nothing.
use mathlib.Core.Path.{◌≡◌, refl}
use mathlib.Core.Logic.{inl, inr}
use mathlib.Core.List.{[], ◌∷◌}
use Prim.Native.Nat.{ℕ}
use native.Mathlib.Omega.{arith}
use Rattle.digits.specs.Order.{Digits}
use Rattle.digits.specs.Thirds.{thirds_deep}
use Rattle.trees.specs.Forest.{Forest, nil, node, preorder}
use Rattle.trees.specs.Axes.{Parent, Ancestor, Sibling}
use Rattle.trees.specs.Table.{forest}
use Rattle.trees.specs.Labelled.{Name, Entry, labelled}

-- the tree of 01's four rows, and who is whose
abbrev pub four : Forest ℕ
four = forest ((10, 0) ∷ (11, 1) ∷ (12, 1) ∷ (13, 2) ∷ [])

pub four_tree : four ≡ node 10 (node 11 nil (node 12 (node 13 nil nil) nil)) nil
four_tree = refl

pub ten_above : Ancestor 10 13 four
ten_above = inl (refl, inr (inr (inr (inl (inl refl)))))

pub twelve_parent : Parent 12 13 four
twelve_parent = inr (inl (inr (inr (inl (refl, inl refl)))))

pub twelve_sibling : Sibling 11 12 four
twelve_sibling = inl (inl refl, inr (inl refl), λ e. omega arith)

abbrev row : ℕ → ℕ → ℕ → Name × ℕ
row identity tag depth = (record { identity = identity; tag = tag }, depth)

abbrev entry : ℕ → ℕ → Digits → Digits → Digits → Entry Name
entry identity tag start end parent =
    record { name = record { identity = identity; tag = tag }; start = start; end = end; parent = parent }

-- 10 1 12 33 -, 11 2 13 2 12, 12 2 22 32 12, 13 3 23 3 22
pub four_rows : preorder (labelled (forest (row 10 1 0 ∷ row 11 2 1 ∷ row 12 2 1 ∷ row 13 3 2 ∷ [])))
    ≡ entry 10 1 (1 ∷ 2 ∷ []) (3 ∷ 3 ∷ []) []
    ∷ entry 11 2 (1 ∷ 3 ∷ []) (2 ∷ []) (1 ∷ 2 ∷ [])
    ∷ entry 12 2 (2 ∷ 2 ∷ []) (3 ∷ 2 ∷ []) (1 ∷ 2 ∷ [])
    ∷ entry 13 3 (2 ∷ 3 ∷ []) (3 ∷ []) (2 ∷ 2 ∷ [])
    ∷ []
unfolding thirds_deep
four_rows = refl

-- P1: one row
pub one_row : preorder (labelled (forest (row 10 1 0 ∷ []))) ≡ entry 10 1 (2 ∷ []) (3 ∷ []) [] ∷ []
unfolding thirds_deep
one_row = refl
