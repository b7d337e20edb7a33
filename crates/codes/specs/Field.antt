-- The packed field: digits to bytes and back.
-- Assumes nothing.
use Rattle.std.specs.Prelude.{List, [], ◌∷◌, ◌++◌, ℕ, zero, suc, ◌+◌, ◌*◌, ◌/◌, ◌%◌, ◌≤◌, ◌<◌, length, get_or, drop}
use Rattle.digits.specs.Lists.{All}
use Rattle.digits.specs.Order.{Digits}
use Rattle.codes.specs.Code.{field_size}

-- 01, Packed field: two bits a digit, the first digit in the highest bits
abbrev pub byte_of : ℕ → ℕ → ℕ → ℕ → ℕ
byte_of a b c d = 64 * a + 16 * b + 4 * c + d

-- n bytes of digits; behind the last digit, zero bits
abbrev pub gather : ℕ → Digits → List ℕ
gather zero x = []
gather (suc n) x = byte_of (get_or x 0 0) (get_or x 1 0) (get_or x 2 0) (get_or x 3 0) ∷ gather n (drop 4 x)

-- 01, Packed field: the digits, then the separator and zero bits to the end
unfoldable pub field_of : Digits → List ℕ
field_of x = gather field_size x

-- the four digits of a byte
abbrev pub quads : ℕ → Digits
quads b = b / 64 ∷ b / 16 % 4 ∷ b / 4 % 4 ∷ b % 4 ∷ []

-- the digits of bytes, four a byte
abbrev pub spread : List ℕ → Digits
spread [] = []
spread (b ∷ bs) = quads b ++ spread bs

-- the digits in front of the first zero
abbrev pub lead : Digits → Digits
lead [] = []
lead (zero ∷ x) = []
lead (suc a ∷ x) = suc a ∷ lead x

-- digits that a field has room for
pub record Slots (x : Digits) : Type 0 where
  pub small : All (λ d. d < 4) x
  pub fits : length x ≤ 4 * field_size
