-- Properties of all of a list, and of a list with nothing in it twice.
-- Assumes nothing.
use Rattle.std.specs.Prelude.{◌≢◌, List, [], ◌∷◌}

-- every element has the property
abbrev pub All {ℓ} : {A : Type ℓ} → (A → Type 0) → List A → Type 0
All P [] = Unit {0}
All P (x ∷ xs) = P x × All P xs

-- no element stands in the list twice
abbrev pub Distinct : {A : Type 0} → List A → Type 0
Distinct [] = Unit {0}
Distinct (x ∷ xs) = All (λ y. x ≢ y) xs × Distinct xs
