-- The neighbours of a place by a search through all codes: one is a code of the target, the other the nearest code on that side.
-- Assumes nothing.
use Rattle.std.specs.Prelude.{Bool, true, false, cond, ◌&&◌, List, [], ◌∷◌, ℕ, zero, suc}
use Rattle.digits.specs.Order.{Digits, is_below}
use Rattle.trees.specs.Labelled.{Entry}
use Rattle.trees.specs.Edit.{Where, first_child, last_child, before, after, is_inside}

-- the target's own code is the left neighbour, and the other one lies upward
abbrev pub is_upward : Where → Bool
is_upward first_child = true
is_upward last_child = false
is_upward before = false
is_upward after = true

-- x is before y, going upward or downward
abbrev pub is_toward : Bool → Digits → Digits → Bool
is_toward true x y = is_below x y
is_toward false x y = is_below y x

-- y where it lies between x and what was best so far
abbrev pub closer : Bool → Digits → Digits → Digits → Digits
closer up x best y = cond (is_toward up x y && is_toward up y best) y best

module _ {A : Type 0} where
  -- the target's code that is next to the place
  abbrev pub own_code : Where → Entry A → Digits
  own_code first_child u = u.start
  own_code last_child u = u.end
  own_code before u = u.start
  own_code after u = u.end

  -- the parent start of an entry at a place
  abbrev pub parent_beside : Where → Entry A → Digits
  parent_beside w u = cond (is_inside w) u.start u.parent

  -- the codes of all other entries lie between those of the root
  abbrev pub outermost : Bool → Entry A → Digits
  outermost up u = cond up u.end u.start

  -- the code of all entries that is nearest to x, going upward or downward
  abbrev pub nearest : Bool → Digits → Digits → List (Entry A) → Digits
  nearest up x best [] = best
  nearest up x best (u ∷ us) = nearest up x (closer up x (closer up x best u.start) u.end) us

  -- how many entries start below r, before one that does not
  abbrev pub leading : Digits → List (Entry A) → ℕ
  leading r [] = zero
  leading r (u ∷ us) = cond (is_below u.start r) (suc (leading r us)) zero
