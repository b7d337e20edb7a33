-- A code spread out as digits in an array, with their count.
-- Assumes nothing.
use Rattle.std.specs.Prelude.{◌≡◌, ℕ, ◌≤◌, ◌<◌, cond, eqb, ◌++◌, length, take}
use Prim.Native.Nat.{compare, Ordering}
use Rattle.digits.specs.Order.{Digits}
use Rattle.digits.specs.Between.{remade}
use Rattle.codes.specs.Code.{longest}
use Rattle.codes.specs.declared.spread.Code.{Code}

-- the first count of the array
abbrev pub digits_of : Code → Digits
digits_of c = take c.count c.digits

-- c has the digits x and no others
pub record Held (c : Code) (x : Digits) : Type 0 where
  pub digits : digits_of c ≡ x
  pub count : c.count ≡ length x

-- no more digits than a code has
abbrev pub Short : Code → Type 0
Short c = c.count ≤ longest

-- at least one digit, and no more than a code has
pub record Fit (c : Code) : Type 0 where
  pub some : 0 < c.count
  pub fits : Short c

-- what the last digit is made: the digits for a 2, or else those for a 3
abbrev pub made_of : Digits → Digits → ℕ → Digits
made_of two three d = cond (eqb d 2) two three

-- a code that cuts a gap: the left code shorter, the right one's last digit remade; else the left one, with digits behind it
abbrev pub cut_at : Digits → Digits → Digits → Ordering → Digits → Digits → Digits
cut_at behind two three Ordering.lt l r = remade (made_of two three) r
cut_at behind two three Ordering.eq l r = l ++ behind
cut_at behind two three Ordering.gt l r = l ++ behind

abbrev pub cut_by : Digits → Digits → Digits → Digits → Digits → Digits
cut_by behind two three l r = cut_at behind two three (compare (length l) (length r)) l r
