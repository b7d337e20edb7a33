-- When a lent buffer is a sound register, as tests that compute. The walk over the entries is that of `trees`. Assumes nothing.
use Rattle.std.specs.Prelude.{◌≡◌, ◌⊎◌, Bool, true, cond, ◌&&◌, List, [], ◌∷◌, ℕ, zero, suc, ◌+◌, ◌-◌, ◌≤◌, ltb, length, take, drop, Option, Some, None}
use Rattle.digits.specs.Order.{Digits, is_below}
use Rattle.codes.specs.Code.{field_size, IsCode, is_code}
use Rattle.codes.specs.Field.{field_of}
use Rattle.codes.specs.Reading.{read, is_code_held, is_same}
use Rattle.labels.specs.Label.{label_size, field_at, is_sound}
use Rattle.trees.specs.Labelled.{Name, Entry, starts, ends}
use Rattle.trees.specs.Check.{is_under, Rest, rest, fault, row_walk, is_tree_walk}
use Rattle.registers.specs.Layout.{most_entries, deepest, label_at, entry_place, start_place, end_place}
use Rattle.registers.specs.Entries.{code_at, entry_at}

-- the label of entry i
abbrev pub label_bytes : List ℕ → ℕ → List ℕ
label_bytes bytes i = take label_size (drop (entry_place i + label_at) bytes)

abbrev pub is_sound_label : List ℕ → ℕ → Bool
is_sound_label bytes i = is_sound (label_bytes bytes i)

-- the labels of the first n entries are sound
abbrev pub is_sound_labels : List ℕ → ℕ → Bool
is_sound_labels bytes zero = true
is_sound_labels bytes (suc n) = is_sound_labels bytes n && is_sound_label bytes n

-- line i: the entry as it is read; without codes where its label is not sound
unfoldable pub line_at : List ℕ → ℕ → Entry Name
line_at bytes i =
    cond (is_sound_label bytes i) (entry_at bytes i) (record { name = (entry_at bytes i).name; start = []; end = []; parent = [] })

-- the m lines from line i on
abbrev pub lines_from : List ℕ → ℕ → ℕ → List (Entry Name)
lines_from bytes i zero = []
lines_from bytes i (suc m) = line_at bytes i ∷ lines_from bytes (suc i) m

-- 01, Register, of one entry in its place: k levels left, parent start p, strictly between the sides l and r
abbrev pub is_entry : ℕ → Digits → Digits → Digits → Entry Name → Bool
is_entry k p l r u =
    ltb 0 k && (is_code u.start && (is_code u.end
    && (is_below u.start u.end && (is_below l u.start && (is_under u.end r && is_same u.parent p)))))

-- where a walk came to, of n entries; nowhere where what it met is not sound
abbrev pub placed : ℕ → Rest (Entry Name) → Option ℕ
placed n (rest us) = Some (n - length us)
placed n fault = None

-- the row from line i on, of n lines
unfoldable pub row_from : List ℕ → ℕ → ℕ → Digits → Digits → Digits → ℕ → Option ℕ
row_from bytes n k p l r i = placed n (row_walk starts ends is_entry k p l r (lines_from bytes i (n - i)))

-- how many levels there are from a depth on
abbrev pub levels : ℕ → ℕ
levels depth = suc deepest - depth

-- the row of children of an entry, from line i on
abbrev pub children_from : List ℕ → ℕ → ℕ → ℕ → Digits → ℕ → Option ℕ
children_from bytes n parent depth l i =
    row_from bytes n (levels depth) (code_at bytes (start_place parent)) l (code_at bytes (end_place parent)) i

-- an entry in its place, with its row of children
abbrev pub entry_from : List ℕ → ℕ → ℕ → ℕ → Digits → ℕ → Option ℕ
entry_from bytes n parent depth l i =
    cond (is_entry (levels depth) (code_at bytes (start_place parent)) l (code_at bytes (end_place parent)) (line_at bytes i))
    (children_from bytes n i (depth + 1) (code_at bytes (start_place i)) (i + 1))
    None

-- 01, Register: the tree test of its n lines
unfoldable pub is_tree : List ℕ → ℕ → Bool
is_tree bytes n = is_tree_walk starts ends is_entry (suc deepest) (lines_from bytes 0 n)

-- a field of the buffer that holds a code
abbrev pub CodeAt : List ℕ → ℕ → Type 0
CodeAt bytes at = (at + field_size ≤ length bytes) × (is_code_held (read (field_at at bytes)) ≡ true)

-- a field of the buffer that holds a code or is empty
pub record SideAt (bytes : List ℕ) (at : ℕ) : Type 0 where
  pub inside : at + field_size ≤ length bytes
  pub field : field_at at bytes ≡ field_of (code_at bytes at)
  pub side : (code_at bytes at ≡ []) ⊎ IsCode (code_at bytes at)

-- n entries stand in the buffer
abbrev pub HasEntries : List ℕ → ℕ → Type 0
HasEntries bytes n = (n ≤ most_entries) × (entry_place n ≤ length bytes)

-- n entries with sound labels stand in the buffer
abbrev pub HasLabels : List ℕ → ℕ → Type 0
HasLabels bytes n = HasEntries bytes n × (is_sound_labels bytes n ≡ true)
