-- One code between two sides, and the two codes of a new entry.
-- Assumes nothing.
use Rattle.std.specs.Prelude.{cond, [], ◌∷◌, ◌++◌, eqb, length}
use Prim.Native.Nat.{ℕ, suc, ◌≤◌, max, compare, Ordering}
use Rattle.digits.specs.Order.{Digits, Below}
use Rattle.digits.specs.Code.{Formed, Side, Under}

-- 01, Code: the digits 1, 2 and 3, the last 2 or 3
abbrev pub Shape : Digits → Type 0
Shape x = Formed 1 3 x

-- two sides in order, each a code or open
pub record Gap (l r : Digits) : Type 0 where
  pub left : Side 1 3 l
  pub right : Side 1 3 r
  pub order : Under l r

-- a code's form, strictly between two sides
pub record Inside (l r x : Digits) : Type 0 where
  pub shape : Shape x
  pub above : Below l x
  pub under : Under x r

-- x with its last digit d made the digits f d
abbrev pub remade : (ℕ → Digits) → Digits → Digits
remade f [] = []
remade f (d ∷ []) = f d
remade f (d ∷ e ∷ x) = d ∷ remade f (e ∷ x)

-- 01, one code between, L shorter: R with its last digit, a 2 made 12 or a 3 made 2
abbrev pub lower : ℕ → Digits
lower d = cond (eqb d 2) (1 ∷ 2 ∷ []) (2 ∷ [])

-- 01, one code between, L longer: L with its last digit, a 2 made 3 or a 3 followed by 2
abbrev pub raise : ℕ → Digits
raise d = cond (eqb d 2) (3 ∷ []) (3 ∷ 2 ∷ [])

abbrev pub between_at : Ordering → Digits → Digits → Digits
between_at Ordering.lt l r = remade lower r
between_at Ordering.eq l r = l ++ (2 ∷ [])
between_at Ordering.gt l r = remade raise l

-- 01, one code between L and R, by their lengths; an open side has length 0
abbrev pub between : Digits → Digits → Digits
between l r = between_at (compare (length l) (length r)) l r

-- 01, Edit: the new start is the one code between L and R, the new end the one code between that start and R
abbrev pub start_of : Digits → Digits → Digits
start_of l r = between l r

abbrev pub end_of : Digits → Digits → Digits
end_of l r = between (start_of l r) r

-- demand 3 for one insertion: each of the two codes is at most one digit longer than the longer neighbour
pub record Pair (l r start end : Digits) : Type 0 where
  pub first : Inside l r start
  pub second : Inside start r end
  pub first_length : length start ≤ suc (max (length l) (length r))
  pub second_length : length end ≤ suc (max (length l) (length r))
