-- What stands in a list, and before what. They compute, as `All` of digits does; the kit's membership is a data type and does not.
-- Assumes nothing.
use Rattle.std.specs.Prelude.{◌≡◌, ◌⊎◌, List, [], ◌∷◌}
use Rattle.digits.specs.Lists.{All}

module _ {A : Type 0} where
  -- v stands in the list
  abbrev pub Member : A → List A → Type 0
  Member v [] = ⊥
  Member v (x ∷ xs) = (v ≡ x) ⊎ Member v xs

  -- u stands before v in the list
  abbrev pub Earlier : A → A → List A → Type 0
  Earlier u v [] = ⊥
  Earlier u v (x ∷ xs) = ((u ≡ x) × Member v xs) ⊎ Earlier u v xs

  -- each element is in the relation to all after it
  abbrev pub Pairs : (A → A → Type 0) → List A → Type 0
  Pairs R [] = Unit {0}
  Pairs R (x ∷ xs) = All (R x) xs × Pairs R xs
