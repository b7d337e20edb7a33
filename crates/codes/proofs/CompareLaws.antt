-- Two fields by their words: the first two that differ decide, and else the last two words as one number.
-- Assumes nothing.
use mathlib.Core.Path.{◌≡◌, refl, sym, ◌∙◌}
use mathlib.Core.Bool.{Bool, false, ◌&&◌}
use mathlib.Core.List.{List}
use Prim.Native.Nat.{ℕ, ◌+◌, ◌*◌, ◌<◌, ◌^◌, compare, Ordering}
use native.Mathlib.Omega.{arith}
use lib.Dec.{eqb, ltb}
use lib.IntN.{ℤ}
use lib.Signed.{mag}
use mir.Syntax.{w32}
use mir.Val.{to_z, of_z}
use Rattle.std.proofs.lemmas.Int.{to_z-of_z}
use lib.ListN.{length, drop, get_or}
use borrow.Author.Tests.{lt-ltb, le-ltb}
use Rattle.digits.specs.Order.{is_below, below_at, order_by}
use Rattle.codes.specs.Words.{word_at, last_two, sign_of}
use Rattle.codes.specs.Reading.{is_same}
use Rattle.digits.proofs.OrderLaws.{Compared, lt, eq, gt, compared}
use Rattle.codes.proofs.FieldLaws.{Bytes}
use Rattle.codes.proofs.WordLaws.{number_lt, part, part_bytes, part_length, part_number, is_below_word, drop_words, is_same_words, all_bytes}

-- 32 bytes
pub record IsField (x : List ℕ) : Type 0 where
  pub size : length x ≡ 32
  pub bytes : Bytes x

field : (x : List ℕ) → ((i : ℕ) → get_or x i 0 < 256) → length x ≡ 32 → IsField x
field x f l = record { size = l; bytes = all_bytes x f }

-- A comparison that is decided, or is left to what follows.

apart_decides : (a b : ℕ) (rest : Bool) → (a ≡ b → ⊥) → ltb a b ≡ below_at (compare a b) rest
apart_decides a b rest n = go (compare a b) (compared a b)
  where
    go : (o : Ordering) → Compared a b o → ltb a b ≡ below_at o rest
    go Ordering.lt (lt h) = lt-ltb a b h
    go Ordering.eq (eq h) = absurd (n h)
    go Ordering.gt (gt h) = le-ltb a b (omega arith)

same_follows : (a b : ℕ) (rest : Bool) → a ≡ b → rest ≡ below_at (compare a b) rest
same_follows a b rest e = go (compare a b) (compared a b)
  where
    go : (o : Ordering) → Compared a b o → rest ≡ below_at o rest
    go Ordering.lt (lt h) = absurd (omega arith)
    go Ordering.eq (eq h) = refl
    go Ordering.gt (gt h) = absurd (omega arith)

-- two words as one number of 128 bits
pair_decides : (a b c d : ℕ) → b < 2 ^ 64 → d < 2 ^ 64
    → ltb (a * 18446744073709551616 + b) (c * 18446744073709551616 + d) ≡ below_at (compare a c) (below_at (compare b d) false)
pair_decides a b c d hb hd = go (compare a c) (compare b d) (compared a c) (compared b d)
  where
    go : (o p : Ordering) → Compared a c o → Compared b d p
        → ltb (a * 18446744073709551616 + b) (c * 18446744073709551616 + d) ≡ below_at o (below_at p false)
    go Ordering.lt p (lt h) k = lt-ltb _ _ (omega arith)
    go Ordering.gt p (gt h) k = le-ltb _ _ (omega arith)
    go Ordering.eq Ordering.lt (eq h) (lt k) = lt-ltb _ _ (omega arith)
    go Ordering.eq Ordering.eq (eq h) (eq k) = le-ltb _ _ (omega arith)
    go Ordering.eq Ordering.gt (eq h) (gt k) = le-ltb _ _ (omega arith)

word_lt : (x : List ℕ) (k : ℕ) → IsField x → k < 4 → word_at x (8 * k) < 2 ^ 64
word_lt x k p h =
    let l = part_length x (8 * k) (omega (arith, p.size)) in
    rw (part_number x (8 * k) (omega (arith, p.size)), l) at (number_lt 256 (part x (8 * k)) (part_bytes x (8 * k) p.bytes))

-- Two fields.

module _ (x y : List ℕ) (p : IsField x) (q : IsField y) where
  rest_at : ℕ → Bool
  rest_at k = is_below (drop (8 * k) x) (drop (8 * k) y)

  words : is_below x y
      ≡ below_at (compare (word_at x 0) (word_at y 0))
      (below_at (compare (word_at x 8) (word_at y 8))
      (below_at (compare (word_at x 16) (word_at y 16)) (below_at (compare (word_at x 24) (word_at y 24)) false)))
  words =
      let turn = is_below_word x y p.size q.size p.bytes q.bytes in
      turn 0 (omega arith)
      ∙ rw (
        turn 1 (omega arith),
        turn 2 (omega arith),
        turn 3 (omega arith),
        drop_words x 4 p.size (omega arith),
        drop_words y 4 q.size (omega arith),
      ) refl

-- The same of values that a function has read, each with what it is.

module _ (x y : List ℕ)
    (fx : (i : ℕ) → get_or x i 0 < 256) (lx : length x ≡ 32) (fy : (i : ℕ) → get_or y i 0 < 256) (ly : length y ≡ 32)
  where
    here : is_below x y
        ≡ below_at (compare (word_at x 0) (word_at y 0))
        (below_at (compare (word_at x 8) (word_at y 8))
        (below_at (compare (word_at x 16) (word_at y 16)) (below_at (compare (word_at x 24) (word_at y 24)) false)))
    here = words x y (field x fx lx) (field y fy ly)

    pub first_apart : (a b : ℕ) → a ≡ word_at x 0 → b ≡ word_at y 0 → (a ≡ b → ⊥) → ltb a b ≡ is_below x y
    first_apart a b e f n = rw (e, f) (apart_decides (word_at x 0) (word_at y 0) _ (λ k. n (e ∙ k ∙ sym f)) ∙ sym here)

    pub second_apart : (a b c d : ℕ) → a ≡ word_at x 0 → b ≡ word_at y 0 → (a ≡ b) → c ≡ word_at x 8 → d ≡ word_at y 8 → (c ≡ d → ⊥)
        → ltb c d ≡ is_below x y
    second_apart a b c d e f s g h n =
        rw (g, h)
        (apart_decides (word_at x 8) (word_at y 8) _ (λ k. n (g ∙ k ∙ sym h))
        ∙ same_follows (word_at x 0) (word_at y 0) _ (sym e ∙ s ∙ f) ∙ sym here)

    pub last_apart : (a b c d t u : ℕ) → a ≡ word_at x 0 → b ≡ word_at y 0 → (a ≡ b) → c ≡ word_at x 8 → d ≡ word_at y 8 → (c ≡ d)
        → t ≡ last_two x → u ≡ last_two y → ltb t u ≡ is_below x y
    last_apart a b c d t u e f s g h r k l =
        rw (k, l)
        (pair_decides (word_at x 16) (word_at x 24) (word_at y 16) (word_at y 24)
        (word_lt x 3 (field x fx lx) (omega arith)) (word_lt y 3 (field y fy ly) (omega arith))
        ∙ same_follows (word_at x 8) (word_at y 8) _ (sym g ∙ r ∙ h)
        ∙ same_follows (word_at x 0) (word_at y 0) _ (sym e ∙ s ∙ f) ∙ sym here)

    pub same_words : is_same x y
        ≡ (eqb (word_at x 0) (word_at y 0)
        && (eqb (word_at x 8) (word_at y 8) && (eqb (word_at x 16) (word_at y 16) && eqb (word_at x 24) (word_at y 24))))
    same_words = is_same_words x y lx ly (all_bytes x fx) (all_bytes y fy)

-- a number of 32 bits that was made of the two tests
pub ordered : (x y : List ℕ) (r : ℤ) (s t : Bool) → mag r < 2147483648 → r ≡ sign_of s t → s ≡ is_below x y → t ≡ is_below y x
    → to_z w32 (of_z w32 r) ≡ order_by x y
ordered x y r s t f e g h = to_z-of_z w32 r (record { sfits = f }) ∙ rw (e, g, h) refl
