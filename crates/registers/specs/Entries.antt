-- The bytes of entries and of a whole register, and an entry as it is read from bytes. Assumes nothing.
use Rattle.std.specs.Prelude.{List, [], ◌∷◌, ◌++◌, ℕ, ◌+◌, length}
use Rattle.codes.specs.Field.{field_of}
use Rattle.codes.specs.Reading.{read, side_of}
use Rattle.labels.specs.Label.{field_at}
use Rattle.numbers.specs.Bytes.{le4, number_at}
use Rattle.trees.specs.Labelled.{Name, Entry}
use Rattle.registers.specs.Layout.{identity_at, tag_at, entry_place, start_place, end_place, parent_place}

-- 01, Register: identity, tag, label; 01, Label: start, end, parent start, each as its field
unfoldable pub entry_bytes : Entry Name → List ℕ
entry_bytes u = le4 u.name.identity ++ (le4 u.name.tag ++ (field_of u.start ++ (field_of u.end ++ field_of u.parent)))

-- entries one behind the other
abbrev pub entries_bytes : List (Entry Name) → List ℕ
entries_bytes [] = []
entries_bytes (u ∷ us) = entry_bytes u ++ entries_bytes us

-- 01, Register: count, zero, then the entries
abbrev pub register_bytes : List (Entry Name) → List ℕ
register_bytes us = le4 (length us) ++ (le4 0 ++ entries_bytes us)

-- the code that a field holds; a field that holds none has no digits
abbrev pub code_at : List ℕ → ℕ → List ℕ
code_at bytes at = side_of (read (field_at at bytes))

-- entry i as it is read
unfoldable pub entry_at : List ℕ → ℕ → Entry Name
entry_at bytes i =
    record {
      name = record { identity = number_at bytes (entry_place i + identity_at); tag = number_at bytes (entry_place i + tag_at) };
      start = code_at bytes (start_place i);
      end = code_at bytes (end_place i);
      parent = code_at bytes (parent_place i);
    }
