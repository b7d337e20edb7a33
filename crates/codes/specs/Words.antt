-- A field by its eight-byte words: what the private helpers of the module field answer.
-- Assumes nothing.
use Rattle.std.specs.Prelude.{Bool, true, false, cond, ◌&&◌, List, ℕ, zero, suc, ◌+◌, ◌*◌, ◌/◌, ◌%◌, ℤ, pos, negsuc, eqb, leb, get_or}

-- the number of the eight bytes from index at on, the first the highest
abbrev pub word_at : List ℕ → ℕ → ℕ
word_at b at =
    get_or b at 0 * 72057594037927936 + get_or b (at + 1) 0 * 281474976710656 + get_or b (at + 2) 0 * 1099511627776
    + get_or b (at + 3) 0 * 4294967296 + get_or b (at + 4) 0 * 16777216 + get_or b (at + 5) 0 * 65536 + get_or b (at + 6) 0 * 256
    + get_or b (at + 7) 0

-- a 3 in the place of each of the n lowest digits of v, to the base four, that is zero
unfoldable pub blanks : ℕ → ℕ → ℕ
blanks zero v = 0
blanks (suc n) v = blanks n (v / 4) * 4 + cond (eqb (v % 4) 0) 3 0

-- of the n lowest digits of v none is zero
unfoldable pub full : ℕ → ℕ → Bool
full zero v = true
full (suc n) v = cond (eqb (v % 4) 0) false (full n (v / 4))

-- of the n lowest digits of v those that are not zero come first, there is one, and the last of them is 2 or 3
unfoldable pub ended : ℕ → ℕ → Bool
ended zero v = false
ended (suc n) v = cond (eqb (v % 4) 0) (ended n (v / 4)) (leb 2 (v % 4) && full n (v / 4))

-- four words are a packed code: the last that is not zero ends it, those before are full, and the last digit of all is zero
abbrev pub is_packed : ℕ → ℕ → ℕ → ℕ → Bool
is_packed a b c d =
    cond (eqb d 0)
    (cond (eqb c 0) (cond (eqb b 0) (ended 32 a) (ended 32 b && full 32 a)) (ended 32 c && (full 32 b && full 32 a)))
    (eqb (d % 4) 0 && (ended 32 d && (full 32 c && (full 32 b && full 32 a))))

-- the last two words of a field as one number
abbrev pub last_two : List ℕ → ℕ
last_two b = word_at b 16 * 18446744073709551616 + word_at b 24

-- minus one, zero or plus one, by the two tests of an order
abbrev pub sign_of : Bool → Bool → ℤ
sign_of below above = cond below (negsuc 0) (cond above (pos 1) (pos 0))
