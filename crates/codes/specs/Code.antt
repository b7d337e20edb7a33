-- 01's code with its two limits, each stated once.
-- Assumes nothing.
use Rattle.std.specs.Prelude.{Bool, ◌&&◌, ℕ, leb, ltb}
use Rattle.digits.specs.Order.{Digits}
use Rattle.digits.specs.Code.{Within, is_within}

-- 01, Code: the largest length
abbrev pub longest : ℕ
longest = 127

-- 01, Packed field: 32 bytes
abbrev pub field_size : ℕ
field_size = 32

-- 01, Code: 1 to 127 digits, each 1, 2 or 3, the last 2 or 3
abbrev pub IsCode : Digits → Type 0
IsCode x = Within 1 3 longest x

abbrev pub is_code : Digits → Bool
is_code x = is_within 1 3 longest x

-- 1, 2 or 3
abbrev pub is_digit : ℕ → Bool
is_digit d = leb 1 d && ltb d 4
