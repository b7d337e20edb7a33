-- The bytes of a register with an entry put in and with one taken out. Assumes nothing.
use Rattle.std.specs.Prelude.{List, ◌++◌, ℕ, ◌+◌, ◌-◌, ◌*◌, take, drop, replicate}
use Rattle.numbers.specs.Bytes.{put, le4}
use Rattle.trees.specs.Labelled.{Name, Entry}
use Rattle.registers.specs.Layout.{entry_size, entry_place}
use Rattle.registers.specs.Entries.{entry_bytes}
use Rattle.registers.specs.Questions.{count_of}

-- the bytes of m entries from entry i on, as they stand
abbrev pub entries_at : List ℕ → ℕ → ℕ → List ℕ
entries_at bytes i m = take (entry_size * m) (drop (entry_place i) bytes)

-- 01, Edit: later entries move up by one; no other entry's bytes change
unfoldable pub inserted_bytes : List ℕ → ℕ → Entry Name → List ℕ
inserted_bytes bytes i x =
    put bytes 0
    (le4 (count_of bytes + 1) ++ (le4 0 ++ (entries_at bytes 0 i ++ (entry_bytes x ++ entries_at bytes i (count_of bytes - i)))))

-- 01, Edit: later entries move down, and the last freed 104 bytes become zero
unfoldable pub deleted_bytes : List ℕ → ℕ → List ℕ
deleted_bytes bytes i =
    put bytes 0
    (le4 (count_of bytes - 1)
    ++ (le4 0 ++ (entries_at bytes 0 i ++ (entries_at bytes (i + 1) (count_of bytes - 1 - i) ++ replicate entry_size 0))))
