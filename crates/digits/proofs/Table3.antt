-- First labelling of 18 numbers is 001's table 3.
-- Assumes nothing.
use mathlib.Core.Path.{◌≡◌, refl}
use mathlib.Core.List.{[], ◌∷◌}
use Rattle.digits.specs.Thirds.{thirds_deep, thirds}

pub table_3 : thirds [] [] 19
    ≡ (1 ∷ 1 ∷ 2 ∷ [])
    ∷ (1 ∷ 2 ∷ [])
    ∷ (1 ∷ 2 ∷ 2 ∷ [])
    ∷ (1 ∷ 3 ∷ [])
    ∷ (1 ∷ 3 ∷ 2 ∷ [])
    ∷ (2 ∷ [])
    ∷ (2 ∷ 1 ∷ 2 ∷ [])
    ∷ (2 ∷ 2 ∷ [])
    ∷ (2 ∷ 2 ∷ 2 ∷ [])
    ∷ (2 ∷ 2 ∷ 3 ∷ [])
    ∷ (2 ∷ 3 ∷ [])
    ∷ (2 ∷ 3 ∷ 2 ∷ [])
    ∷ (3 ∷ [])
    ∷ (3 ∷ 1 ∷ 2 ∷ [])
    ∷ (3 ∷ 2 ∷ [])
    ∷ (3 ∷ 2 ∷ 2 ∷ [])
    ∷ (3 ∷ 3 ∷ [])
    ∷ (3 ∷ 3 ∷ 2 ∷ [])
    ∷ []
unfolding thirds_deep
table_3 = refl
