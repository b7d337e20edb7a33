-- Where a register's parts stand, and its two limits. Each size is stated once, here. Assumes nothing.
use Rattle.std.specs.Prelude.{List, ℕ, ◌+◌, ◌*◌, ◌≤◌, ◌<◌, length}
use Rattle.labels.specs.Label.{start_at, end_at, parent_at, label_size}

-- 01, Register: the count is 1 to 4,096
abbrev pub most_entries : ℕ
most_entries = 4096

-- 01, Register: depths 0 to 63
abbrev pub deepest : ℕ
deepest = 63

-- 01, Register: count and zero, 4 bytes each
abbrev pub count_at : ℕ
count_at = 0

abbrev pub zero_at : ℕ
zero_at = count_at + 4

abbrev pub header_size : ℕ
header_size = zero_at + 4

-- 01, Register: an entry's identity (4 bytes), tag (4 bytes), label (96 bytes)
abbrev pub identity_at : ℕ
identity_at = 0

abbrev pub tag_at : ℕ
tag_at = identity_at + 4

abbrev pub label_at : ℕ
label_at = tag_at + 4

abbrev pub entry_size : ℕ
entry_size = label_at + label_size

-- where entry i begins
abbrev pub entry_place : ℕ → ℕ
entry_place i = header_size + entry_size * i

-- where its three fields stand
abbrev pub start_place : ℕ → ℕ
start_place i = entry_place i + label_at + start_at

abbrev pub end_place : ℕ → ℕ
end_place i = entry_place i + label_at + end_at

abbrev pub parent_place : ℕ → ℕ
parent_place i = entry_place i + label_at + parent_at

-- entry i stands in the buffer
abbrev pub HasPlace : List ℕ → ℕ → Type 0
HasPlace buffer i = (i < most_entries) × (entry_place i + entry_size ≤ length buffer)
