-- What a text is read as: the numbers of its lines, and whether it is readable. Assumes nothing.
use Rattle.std.specs.Prelude.{◌≡◌, Bool, true, false, cond, ◌&&◌, List, [], ◌∷◌, ℕ, zero, suc, ◌+◌, ◌-◌, ◌*◌, ◌≤◌, ◌<◌, eqb, ltb, leb, length}
use Rattle.digits.specs.Lists.{All}
use Rattle.texts.specs.Printed.{space, newline}

-- `label` takes at most 500 rows
abbrev pub most_lines : ℕ
most_lines = 500

-- decimals of 32 bits
abbrev pub number_limit : ℕ
number_limit = 4294967296

-- the numbers of a table that has a text: three a row, of 32 bits, at most `most` rows
pub record Table (most : ℕ) (ns : List ℕ) : Type 0 where
  pub rows : ℕ
  pub whole : length ns ≡ 3 * rows
  pub few : rows ≤ most
  pub small : All (λ x. x < number_limit) ns

-- a number and the bytes behind it, or no number
pub data Number : Type 0 where
  number : ℕ → List ℕ → Number
  no_number : Number

-- the byte of a digit
abbrev pub is_digit : ℕ → Bool
is_digit b = leb 48 b && leb b 57

-- the number x with one digit more
abbrev pub longer : ℕ → ℕ → ℕ
longer x b = 10 * x + (b - 48)

-- no digit follows a leading zero, and none makes more than 32 bits
abbrev pub is_following : ℕ → ℕ → Bool
is_following x b = is_digit b && (ltb 0 x && ltb (longer x b) number_limit)

-- the digits that follow those of x, up to the byte `stop`
abbrev pub read_more : ℕ → ℕ → List ℕ → Number
read_more stop x [] = no_number
read_more stop x (b ∷ t) = cond (eqb b stop) (number x t) (cond (is_following x b) (read_more stop (longer x b) t) no_number)

-- a decimal and the byte `stop` behind it
abbrev pub read_number : ℕ → List ℕ → Number
read_number stop [] = no_number
read_number stop (b ∷ t) = cond (is_digit b) (read_more stop (b - 48) t) no_number

-- the three numbers of a line and the bytes behind it, or no such line
pub data Line : Type 0 where
  line : ℕ → ℕ → ℕ → List ℕ → Line
  no_line : Line

-- the third number, the second and the first, each in front of what follows it
abbrev pub with_third : ℕ → ℕ → Number → Line
with_third a b (number c t) = line a b c t
with_third a b no_number = no_line

abbrev pub with_second : ℕ → Number → Line
with_second a (number b t) = with_third a b (read_number newline t)
with_second a no_number = no_line

abbrev pub with_first : Number → Line
with_first (number a t) = with_second a (read_number space t)
with_first no_number = no_line

-- three decimals, with single spaces and the newline
unfoldable pub read_line : List ℕ → Line
read_line bytes = with_first (read_number space bytes)

-- the numbers of the lines down to the first that is unreadable, and whether there is no such line
pub record Text : Type 0 where
  pub numbers : List ℕ
  pub readable : Bool

-- a text that is read to its end, and one of which nothing more is read
abbrev pub read_as : List ℕ → Text
read_as ns = record { numbers = ns; readable = true }

abbrev pub unreadable : Text
unreadable = record { numbers = []; readable = false }

-- a line in front of the rest of the text
abbrev pub behind_line : Line → (List ℕ → Text) → Text
behind_line (line a b c t) rest = record { numbers = a ∷ b ∷ c ∷ (rest t).numbers; readable = (rest t).readable }
behind_line no_line rest = unreadable

-- at most n lines to the end of the text; an empty text has none
abbrev pub read_lines : ℕ → List ℕ → Text
read_lines zero [] = read_as []
read_lines zero (b ∷ t) = unreadable
read_lines (suc n) [] = read_as []
read_lines (suc n) (b ∷ t) = behind_line (read_line (b ∷ t)) (λ rest. read_lines n rest)

-- a text of more than 500 lines is unreadable
unfoldable pub read_text : List ℕ → Text
read_text text = read_lines most_lines text
