-- What a cursor is after a text was written, and that there is room for one. Assumes nothing.
use Rattle.std.specs.Prelude.{◌≡◌, ℕ, ◌+◌, ◌≤◌, List, length}
use Rattle.numbers.specs.Bytes.{put}
use Rattle.texts.specs.declared.Cursor.{Cursor}

-- n bytes more
abbrev pub HasRoom : Cursor → ℕ → Type 0
HasRoom c n = c.at + n ≤ length c.out.now

-- after a text
unfoldable pub written : Cursor → List ℕ → Cursor
written c text = record c { out = record c.out { now = put c.out.now c.at text }; at = c.at + length text }

-- n bytes further at most, in the same buffer
abbrev pub Within : Cursor → ℕ → Cursor → Type 0
Within c n d = (d.at ≤ c.at + n) × (length d.out.now ≡ length c.out.now) × (d.out.ghost_name ≡ c.out.ghost_name)
