-- A label's bytes: three fields, and when it is sound.
-- Assumes nothing.
use Rattle.std.specs.Prelude.{Bool, true, false, cond, ◌&&◌, List, ℕ, ◌+◌, eqb, length, take, drop}
use Rattle.digits.specs.Order.{Digits, is_below}
use Rattle.codes.specs.Code.{field_size}
use Rattle.codes.specs.Reading.{Reading, code, empty, unsound, read, is_code_held, is_empty_held, side_of}

-- 01, Label: start, end, parent start; where each field begins, and how many bytes there are
abbrev pub start_at : ℕ
start_at = 0

abbrev pub end_at : ℕ
end_at = start_at + field_size

abbrev pub parent_at : ℕ
parent_at = end_at + field_size

abbrev pub label_size : ℕ
label_size = parent_at + field_size

-- the field that begins at a place
abbrev pub field_at : ℕ → List ℕ → List ℕ
field_at at bytes = take field_size (drop at bytes)

-- a label's codes; an empty parent start has no digits
pub record Label : Type 0 where
  pub start : Digits
  pub end : Digits
  pub parent : Digits

-- the codes of three fields
abbrev pub label_by : List ℕ → List ℕ → List ℕ → Label
label_by start end parent = record { start = side_of (read start); end = side_of (read end); parent = side_of (read parent) }

unfoldable pub label_of : List ℕ → Label
label_of bytes = record {
  start = side_of (read (field_at start_at bytes));
  end = side_of (read (field_at end_at bytes));
  parent = side_of (read (field_at parent_at bytes));
}

-- 01, Label: the parent start is empty or a code below start
abbrev pub is_parent_sound : Reading → Digits → Bool
is_parent_sound (code parent) start = is_below parent start
is_parent_sound empty start = true
is_parent_sound unsound start = false

-- 01, Label: start and end are codes, start is below end
abbrev pub is_sound_as : Reading → Reading → Reading → Bool
is_sound_as (code start) (code end) parent = is_below start end && is_parent_sound parent start
is_sound_as (code start) empty parent = false
is_sound_as (code start) unsound parent = false
is_sound_as empty end parent = false
is_sound_as unsound end parent = false

-- 01, refusal 11: a sound label has exactly 96 bytes
unfoldable pub is_sound : List ℕ → Bool
is_sound bytes =
    eqb (length bytes) label_size
    && is_sound_as (read (field_at start_at bytes)) (read (field_at end_at bytes)) (read (field_at parent_at bytes))

-- the soundness of three fields by tests on them
abbrev pub are_sound : List ℕ → List ℕ → List ℕ → Bool
are_sound start end parent =
    is_code_held (read start) && (is_code_held (read end) && (is_below start end
    && cond (is_code_held (read parent)) (is_below parent start) (is_empty_held (read parent))))
