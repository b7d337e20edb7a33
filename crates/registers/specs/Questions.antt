-- A sound register as one test, and the questions on a register: place, depth, distance. Assumes nothing.
use Rattle.std.specs.Prelude.{Bool, cond, ◌&&◌, List, [], ◌∷◌, map, ℕ, suc, ◌+◌, eqb, leb, ℤ, pos, ◌-ℤ◌, length, Result, Ok, Err}
use Rattle.answers.specs.declared.Refusal.{Refusal}
use Rattle.digits.specs.Order.{is_below}
use Rattle.answers.specs.declared.Refusal.TheVariants.{Register, Target}
use Rattle.answers.specs.Signed.{signed_as}
use Rattle.identities.specs.Rows.{is_all_new}
use Rattle.numbers.specs.Bytes.{number_at}
use Rattle.trees.specs.Forest.{Forest}
use Rattle.trees.specs.Table.{forest}
use Rattle.trees.specs.Labelled.{Name, Entry}
use Rattle.registers.specs.declared.Found.{Found}
use Rattle.registers.specs.declared.Found.TheVariants.{At, Nothing}
use Rattle.registers.specs.Layout.{most_entries, count_at, zero_at, header_size, entry_place}
use Rattle.registers.specs.Holds.{identities}
use Rattle.registers.specs.Sound.{line_at, lines_from, is_tree}

-- 01, Register: the count
abbrev pub count_of : List ℕ → ℕ
count_of bytes = number_at bytes count_at

-- the lines that are counted
abbrev pub lines_of : List ℕ → List (Entry Name)
lines_of bytes = lines_from bytes 0 (count_of bytes)

-- 01, Register: the buffer holds 8 + 104 x count bytes or more, the count is 1 to 4,096, the second number is zero
abbrev pub is_sized : List ℕ → Bool
is_sized bytes =
    leb header_size (length bytes)
    && (leb 1 (count_of bytes)
    && (leb (count_of bytes) most_entries && (leb (entry_place (count_of bytes)) (length bytes) && eqb (number_at bytes zero_at) 0)))

-- 01, Register: identities are non-zero and distinct, and some ordered tree has exactly these entries
unfoldable pub is_register_sound : List ℕ → Bool
is_register_sound bytes = is_sized bytes && (is_all_new (identities (lines_of bytes)) && is_tree bytes (count_of bytes))

-- the place of an identity in a list, counted from i
abbrev pub found_from : ℕ → ℕ → List ℕ → Found
found_from i x [] = Nothing
found_from i x (y ∷ ys) = cond (eqb x y) (At i) (found_from (suc i) x ys)

abbrev pub found_in : List ℕ → ℕ → Found
found_in bytes x = found_from 0 x (identities (lines_of bytes))

-- 01, Register questions: 5, 6
abbrev pub place_as : Found → Result ℕ Refusal
place_as (At i) = Ok i
place_as Nothing = Err Target

unfoldable pub place_answer : List ℕ → ℕ → Result ℕ Refusal
place_answer bytes x = cond (is_register_sound bytes) (place_as (found_in bytes x)) (Err Register)

-- 01, Above, of two entries; the depth of an entry is the number of those above it
abbrev pub is_above_entry : Entry Name → Entry Name → Bool
is_above_entry u v = is_below u.start v.start && is_below v.end u.end

abbrev pub depth_in : Entry Name → List (Entry Name) → ℕ
depth_in v [] = 0
depth_in v (u ∷ us) = cond (is_above_entry u v) 1 0 + depth_in v us

-- the tree that lines stand for: that of the table of the lines with their depths
unfoldable pub tree_of : List (Entry Name) → Forest (Entry Name)
tree_of us = forest (map (λ u. (u, depth_in u us)) us)

abbrev pub tree_in : List ℕ → Forest (Entry Name)
tree_in bytes = tree_of (lines_of bytes)

abbrev pub depth_as : List ℕ → Found → Result ℕ Refusal
depth_as bytes (At i) = Ok (depth_in (line_at bytes i) (lines_of bytes))
depth_as bytes Nothing = Err Target

unfoldable pub depth_result : List ℕ → ℕ → Result ℕ Refusal
depth_result bytes x = cond (is_register_sound bytes) (depth_as bytes (found_in bytes x)) (Err Register)

-- the same as C gets it
abbrev pub depth_answer : List ℕ → ℕ → ℤ
depth_answer bytes x = signed_as pos (depth_result bytes x)

-- 01: place of y minus place of x, signed; x before y
abbrev pub distance_as : Found → Found → Result ℤ Refusal
distance_as (At i) (At j) = Ok (pos j -ℤ pos i)
distance_as (At i) Nothing = Err Target
distance_as Nothing found = Err Target

unfoldable pub distance_result : List ℕ → ℕ → ℕ → Result ℤ Refusal
distance_result bytes x y = cond (is_register_sound bytes) (distance_as (found_in bytes x) (found_in bytes y)) (Err Register)

-- the same as C gets it
abbrev pub distance_answer : List ℕ → ℕ → ℕ → ℤ
distance_answer bytes x y = signed_as (λ z. z) (distance_result bytes x y)
