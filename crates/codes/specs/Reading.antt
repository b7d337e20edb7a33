-- What a lent field holds: a code, nothing, or neither. The one reading of a field.
-- Assumes nothing.
use Rattle.std.specs.Prelude.{Bool, true, false, cond, ◌&&◌, List, [], ◌∷◌, ℕ, eqb}
use Rattle.digits.specs.Order.{Digits}
use Rattle.codes.specs.Code.{is_code}
use Rattle.codes.specs.Field.{field_of, spread, lead}

pub data Reading : Type 0 where
  code : Digits → Reading
  empty : Reading
  unsound : Reading

-- two lists are the same to the last byte
abbrev pub is_same : List ℕ → List ℕ → Bool
is_same [] [] = true
is_same [] (b ∷ y) = false
is_same (a ∷ x) [] = false
is_same (a ∷ x) (b ∷ y) = eqb a b && is_same x y

-- 01, Packed field: the field of the code x, the empty field, or unsound. The whole field is compared, fill and length with it
abbrev pub read_as : Digits → List ℕ → Reading
read_as x field = cond (is_same field (field_of x)) (cond (is_code x) (code x) (cond (is_same x []) empty unsound)) unsound

unfoldable pub read : List ℕ → Reading
read field = read_as (lead (spread field)) field

-- a field that holds a code, and an empty one
abbrev pub is_code_held : Reading → Bool
is_code_held (code x) = true
is_code_held empty = false
is_code_held unsound = false

abbrev pub is_empty_held : Reading → Bool
is_empty_held (code x) = false
is_empty_held empty = true
is_empty_held unsound = false

-- 01, between: the digits of a side; an empty field is an open side, with no digits
abbrev pub side_of : Reading → Digits
side_of (code x) = x
side_of empty = []
side_of unsound = []
