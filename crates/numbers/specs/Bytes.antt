-- A run of elements put into a list, and 32-bit numbers as four bytes, lowest first. Assumes nothing.
use Rattle.std.specs.Prelude.{List, [], ◌∷◌, ◌++◌, ℕ, ◌+◌, ◌*◌, ◌/◌, ◌%◌, length, take, drop, get_or}

-- xs, with the elements vs in place of as many from index at on
unfoldable pub put : List ℕ → ℕ → List ℕ → List ℕ
put xs at vs = take at xs ++ (vs ++ drop (at + length vs) xs)

-- the four bytes of x, the lowest first
abbrev pub le4 : ℕ → List ℕ
le4 x = (x % 256) ∷ (x / 256 % 256) ∷ (x / 65536 % 256) ∷ (x / 16777216) ∷ []

-- the number whose four bytes, the lowest first, stand from index at on
abbrev pub number_at : List ℕ → ℕ → ℕ
number_at xs at = get_or xs at 0 + get_or xs (at + 1) 0 * 256 + get_or xs (at + 2) 0 * 65536 + get_or xs (at + 3) 0 * 16777216
