-- What packing, unpacking and between answer, and every byte of the lent buffer after them.
-- Assumes nothing.
use Rattle.std.specs.Prelude.{cond, List, ℕ, leb, length, ⊤, Result, Ok, Err}
use Rattle.digits.specs.Order.{Digits, is_below}
use Rattle.digits.specs.Between.{between}
use Rattle.answers.specs.declared.Refusal.{Refusal}
use Rattle.answers.specs.declared.Refusal.TheVariants.{Room, CodeLength, NoCode, Order}
use Rattle.answers.specs.Outcome.{Outcome, accepted, refused, unless}
use Rattle.numbers.specs.Bytes.{put}
use Rattle.codes.specs.Code.{longest, field_size, is_code}
use Rattle.codes.specs.Field.{field_of}
use Rattle.codes.specs.Reading.{Reading, code, empty, unsound, read, side_of}

-- the field of x written into a lent buffer, and the digit count answered
abbrev pub written : Digits → List ℕ → Outcome
written x lent = accepted (length x) (put lent 0 (field_of x))

-- 01, Packing: 12, 4
unfoldable pub pack_outcome : Digits → List ℕ → Outcome
pack_outcome digits lent = unless (is_code digits) NoCode lent (unless (leb field_size (length lent)) Room lent (written digits lent))

-- 01, Unpacking: 12, 4; it needs room for as many digits as the code has
abbrev pub unpack_as : Reading → List ℕ → Outcome
unpack_as (code x) lent = unless (leb (length x) (length lent)) Room lent (accepted (length x) (put lent 0 x))
unpack_as empty lent = refused NoCode lent
unpack_as unsound lent = refused NoCode lent

unfoldable pub unpack_outcome : List ℕ → List ℕ → Outcome
unpack_outcome field lent = unpack_as (read field) lent

-- 12: a side that is neither a code nor open; 13: two codes of which the left is not below the right
abbrev pub sides_of : Reading → Reading → Result ⊤ Refusal
sides_of (code l) (code r) = cond (is_below l r) (Ok tt) (Err Order)
sides_of (code l) empty = Ok tt
sides_of empty (code r) = Ok tt
sides_of empty empty = Ok tt
sides_of (code l) unsound = Err NoCode
sides_of empty unsound = Err NoCode
sides_of unsound right = Err NoCode

-- the code between two sides that are in order: 4, 8
abbrev pub between_sides : Digits → List ℕ → Outcome
between_sides x lent = unless (leb field_size (length lent)) Room lent (unless (leb (length x) longest) CodeLength lent (written x lent))

-- 01, Between: 12, 13, 4, 8
abbrev pub between_as : Result ⊤ Refusal → Digits → List ℕ → Outcome
between_as (Ok ordered) x lent = between_sides x lent
between_as (Err refusal) x lent = refused refusal lent

unfoldable pub between_outcome : List ℕ → List ℕ → List ℕ → Outcome
between_outcome left right lent =
    between_as (sides_of (read left) (read right)) (between (side_of (read left)) (side_of (read right))) lent
