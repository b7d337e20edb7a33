-- The order of digit lists and their prefixes. No alphabet is fixed here.
-- Assumes nothing.
use Rattle.std.specs.Prelude.{◌≡◌, ◌⊎◌, Bool, true, false, cond, List, [], ◌∷◌, ◌++◌, ℤ, pos, negsuc}
use Prim.Native.Nat.{ℕ, ◌<◌, compare, Ordering}

abbrev pub Digits : Type 0
Digits = List ℕ

-- 01, Order: the first differing digit decides; a proper prefix is smaller
abbrev pub Below : Digits → Digits → Type 0
Below [] [] = ⊥
Below [] (b ∷ y) = Unit {0}
Below (a ∷ x) [] = ⊥
Below (a ∷ x) (b ∷ y) = (a < b) ⊎ ((a ≡ b) × Below x y)

-- x is the beginning of y, or all of it
abbrev pub Prefix : Digits → Digits → Type 0
Prefix x y = (z : Digits) × (x ++ z ≡ y)

-- what the first digits say, and where they are equal the rest
abbrev pub below_at : Ordering → Bool → Bool
below_at Ordering.lt rest = true
below_at Ordering.eq rest = rest
below_at Ordering.gt rest = false

-- the order as a test that computes
abbrev pub is_below : Digits → Digits → Bool
is_below [] [] = false
is_below [] (b ∷ y) = true
is_below (a ∷ x) [] = false
is_below (a ∷ x) (b ∷ y) = let rest = is_below x y in below_at (compare a b) rest

-- 01: minus one, zero or plus one
abbrev pub order_by : Digits → Digits → ℤ
order_by x y = cond (is_below x y) (negsuc 0) (cond (is_below y x) (pos 1) (pos 0))
