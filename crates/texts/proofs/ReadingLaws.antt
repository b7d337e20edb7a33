-- Laws of reading. Assumes nothing.
use mathlib.Core.Path.{◌≡◌}
use mathlib.Core.Bool.{true, ◌&&◌, and-eq-true_iff}
use Prim.Native.Nat.{ℕ, ◌≤◌, ◌<◌}
use lib.Dec.{ltb, leb}
use borrow.Author.Tests.{lt-ltb, le-leb, leb-true, ltb-true}
use Rattle.texts.specs.Reading.{is_digit, longer, is_following, number_limit}

-- the byte of a digit
pub digit_byte_lem : (b : ℕ) → 48 ≤ b → b ≤ 57 → is_digit b ≡ true
digit_byte_lem b h k = rw (le-leb 48 b h, le-leb b 57 k)

pub record Byte (b : ℕ) : Type 0 where
  pub low : 48 ≤ b
  pub high : b ≤ 57

pub byte_digit : (b : ℕ) → is_digit b ≡ true → Byte b
byte_digit b e = record {
  low = leb-true 48 b ((and-eq-true_iff (leb 48 b) (leb b 57)).0 e).0;
  high = leb-true b 57 ((and-eq-true_iff (leb 48 b) (leb b 57)).0 e).1;
}

-- what may follow a number
pub record Follows (x b : ℕ) : Type 0 where
  pub byte : Byte b
  pub some : 0 < x
  pub fits : longer x b < number_limit

pub follows_gives : (x b : ℕ) → is_following x b ≡ true → Follows x b
follows_gives x b e =
    let r : ltb 0 x && ltb (longer x b) number_limit ≡ true = ((and-eq-true_iff (is_digit b) _).0 e).1 in
    record {
      byte = byte_digit b ((and-eq-true_iff (is_digit b) _).0 e).0;
      some = ltb-true 0 x ((and-eq-true_iff (ltb 0 x) _).0 r).0;
      fits = ltb-true (longer x b) number_limit ((and-eq-true_iff (ltb 0 x) _).0 r).1;
    }

pub gives_follows : (x b : ℕ) → Follows x b → is_following x b ≡ true
gives_follows x b f = rw (digit_byte_lem b f.byte.low f.byte.high, lt-ltb 0 x f.some, lt-ltb (longer x b) number_limit f.fits)
