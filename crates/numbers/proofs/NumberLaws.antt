-- Laws of numbers of four bytes: what is read back, what stands clear of a run, and the bytes of what is read. Assumes nothing.
use mathlib.Core.Path.{◌≡◌}
use mathlib.Core.List.{List, [], ◌∷◌}
use Prim.Native.Nat.{ℕ, suc, ◌+◌, ◌*◌, ◌/◌, ◌%◌, ◌≤◌, ◌<◌}
use native.Mathlib.Numerals.{add-one, add-two, add-three}
use native.Mathlib.Omega.{arith}
use lib.ListN.{length, take, drop, get_or}
use lib.Seq.{drop-cons}
use Rattle.numbers.specs.Bytes.{le4, number_at}

-- the bytes of a number that four bytes make are these bytes
le4_bytes : (a b d e : ℕ) → a < 256 → b < 256 → d < 256 → e < 256
    → le4 (a + b * 256 + d * 65536 + e * 16777216) ≡ a ∷ b ∷ d ∷ e ∷ []
le4_bytes a b d e ha hb hd he =
    let x : ℕ = a + b * 256 + d * 65536 + e * 16777216 in
    let q : x / 256 ≡ b + d * 256 + e * 65536 = omega arith in
    let r : x / 65536 ≡ d + e * 256 = omega arith in
    let ea : x % 256 ≡ a = omega arith in
    let eb : x / 256 % 256 ≡ b = rw q (omega arith) in
    let ed : x / 65536 % 256 ≡ d = rw r (omega arith) in
    let ee : x / 16777216 ≡ e = omega arith in
    cc

-- the four bytes from an index on
take_four : (xs : List ℕ) (at : ℕ) → at + 4 ≤ length xs
    → take 4 (drop at xs) ≡ get_or xs at 0 ∷ get_or xs (at + 1) 0 ∷ get_or xs (at + 2) 0 ∷ get_or xs (at + 3) 0 ∷ []
take_four xs at fits =
    let t = drop-cons xs in
    rw (add-one at, add-two at, add-three at)
    (rw (t at 0 (omega arith), t (suc at) 0 (omega arith), t (suc (suc at)) 0 (omega arith), t (suc (suc (suc at))) 0 (omega arith)))

pub le4_number : (xs : List ℕ) (at : ℕ) → ((i : ℕ) → get_or xs i 0 < 256) → at + 4 ≤ length xs
    → le4 (number_at xs at) ≡ take 4 (drop at xs)
le4_number xs at byte fits =
    rw (take_four xs at fits) (le4_bytes _ _ _ _ (byte at) (byte (at + 1)) (byte (at + 2)) (byte (at + 3)))
