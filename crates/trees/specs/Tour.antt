-- The tour of a forest, and what it means that its codes rise. Entries are of any type, with a start and an end.
-- Assumes nothing.
use Rattle.std.specs.Prelude.{◌≡◌, List, [], ◌∷◌, ◌++◌}
use Rattle.digits.specs.Order.{Digits}
use Rattle.digits.specs.Code.{Rising}
use Rattle.trees.specs.Forest.{Forest, nil, node}

module _ {A : Type 0} (st en : A → Digits) where
  -- 01, Register: a tour meets each entry's start, then its children, then its end
  abbrev pub tour : Forest A → List Digits
  tour nil = []
  tour (node a c s) = st a ∷ (tour c ++ (en a ∷ tour s))

  -- 01, Register: along the tour the codes strictly rise
  abbrev pub Rises : Forest A → Type 0
  Rises f = Rising [] (tour f) []

-- 01, Register: each parent start is the parent's start; that of the first row itself is p
abbrev pub Parents : {A : Type 0} → (st ps : A → Digits) → Digits → Forest A → Type 0
Parents st ps p nil = Unit {0}
Parents st ps p (node a c s) = (ps a ≡ p) × Parents st ps (st a) c × Parents st ps p s
