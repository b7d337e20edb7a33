-- Laws of lists of digits by the numbers that they make: order and equality, word by word. The digits inside a word are in DigitLaws.
-- Assumes nothing.
use mathlib.Core.Path.{◌≡◌, refl, sym, ap, ◌∙◌}
use mathlib.Core.Bool.{Bool, ◌&&◌, and-true, and_assoc}
use mathlib.Core.List.{List, [], ◌∷◌, ◌++◌}
use Prim.Native.Nat.{ℕ, zero, suc, ◌+◌, ◌*◌, ◌≤◌, ◌<◌, ◌^◌, compare, Ordering}
use native.Mathlib.Numerals.{add-one}
use native.Mathlib.Nat.{add_assoc, suc-mul, mul-le-mul_right, pow-zero, pow-succ'}
use native.Mathlib.Omega.{arith}
use lib.Dec.{eqb, compare_is_eq}
use lib.ListN.{length, get_or, take, drop, take-append-drop, length-drop, drop_of_length-le}
use lib.Seq.{drop-cons, drop-drop, length-take-le}
use Rattle.digits.specs.Lists.{All}
use Rattle.digits.specs.Order.{is_below, below_at}
use Rattle.digits.proofs.OrderLaws.{Compared, lt, eq, gt, compared, compare_is}
use Rattle.codes.specs.Code.{field_size}
use Rattle.codes.specs.Reading.{is_same}
use Rattle.codes.specs.Words.{word_at}
use Rattle.codes.proofs.FieldLaws.{Bytes}

-- the number of a list of digits to a base, the first the highest
unfoldable pub number : ℕ → List ℕ → ℕ
number base [] = 0
number base (a ∷ x) = a * base ^ length x + number base x

-- a smaller digit is a whole unit below
digit_under : (a b unit : ℕ) → a < b → a * unit + unit ≤ b * unit
digit_under a b unit h = rw suc-mul at (mul-le-mul_right {m = suc a} {n = b} unit h)

pub number_lt : (base : ℕ) (x : List ℕ) → All (λ a. a < base) x → number base x < base ^ length x
unfolding number
number_lt base [] h = rw pow-zero (omega arith)
number_lt base (a ∷ x) h =
    let u = digit_under a base (base ^ length x) h.0 in
    let r = number_lt base x h.1 in
    rw pow-succ' (omega arith)

-- the first comparison, and where it says equal the second
abbrev and_then : Ordering → Ordering → Ordering
and_then Ordering.lt p = Ordering.lt
and_then Ordering.eq p = p
and_then Ordering.gt p = Ordering.gt

-- the highest digit decides, or what comes after it
compare_digit : (a b v w unit : ℕ) → v < unit → w < unit
    → compare (a * unit + v) (b * unit + w) ≡ and_then (compare a b) (compare v w)
compare_digit a b v w unit hv hw =
    compare_is (a * unit + v) (b * unit + w) _ (go (compare a b) (compare v w) (compared a b) (compared v w))
  where
    go : (o p : Ordering) → Compared a b o → Compared v w p → Compared (a * unit + v) (b * unit + w) (and_then o p)
    go Ordering.lt p (lt h) k = lt (omega (arith, digit_under a b unit h))
    go Ordering.gt p (gt h) k = gt (omega (arith, digit_under b a unit h))
    go Ordering.eq Ordering.lt (eq e) (lt k) = lt (omega (arith, ap (λ (n : ℕ). n * unit) e))
    go Ordering.eq Ordering.eq (eq e) (eq k) = eq (omega (arith, ap (λ (n : ℕ). n * unit) e))
    go Ordering.eq Ordering.gt (eq e) (gt k) = gt (omega (arith, ap (λ (n : ℕ). n * unit) e))

below_then : (o p : Ordering) (rest : Bool) → below_at (and_then o p) rest ≡ below_at o (below_at p rest)
below_then Ordering.lt p rest = refl
below_then Ordering.eq p rest = refl
below_then Ordering.gt p rest = refl

equal_then : (o p : Ordering) → compare_is_eq (and_then o p) ≡ compare_is_eq o && compare_is_eq p
equal_then Ordering.lt p = refl
equal_then Ordering.eq p = refl
equal_then Ordering.gt p = refl

-- the digits of two lists of one length
module _ (base : ℕ) where
  compare_cons : (a b : ℕ) (x y : List ℕ) → length x ≡ length y → All (λ d. d < base) x → All (λ d. d < base) y
      → compare (number base (a ∷ x)) (number base (b ∷ y)) ≡ and_then (compare a b) (compare (number base x) (number base y))
  unfolding number
  compare_cons a b x y e p q =
      let hy : number base y < base ^ length x = rw e (number_lt base y q) in
      rw (← e) (compare_digit a b (number base x) (number base y) (base ^ length x) (number_lt base x p) hy)

  -- the numbers decide, or what comes after them
  is_below_number : (x y r s : List ℕ) → length x ≡ length y → All (λ d. d < base) x → All (λ d. d < base) y
      → is_below (x ++ r) (y ++ s) ≡ below_at (compare (number base x) (number base y)) (is_below r s)
  unfolding number
  is_below_number [] [] r s e p q = refl
  is_below_number [] (b ∷ y) r s e p q = absurd (omega arith)
  is_below_number (a ∷ x) [] r s e p q = absurd (omega arith)
  is_below_number (a ∷ x) (b ∷ y) r s e p q =
      rw (is_below_number x y r s (omega arith) p.1 q.1, compare_cons a b x y (omega arith) p.1 q.1)
      (sym (below_then (compare a b) (compare (number base x) (number base y)) (is_below r s)))

  is_same_number : (x y r s : List ℕ) → length x ≡ length y → All (λ d. d < base) x → All (λ d. d < base) y
      → is_same (x ++ r) (y ++ s) ≡ eqb (number base x) (number base y) && is_same r s
  unfolding number
  is_same_number [] [] r s e p q = refl
  is_same_number [] (b ∷ y) r s e p q = absurd (omega arith)
  is_same_number (a ∷ x) [] r s e p q = absurd (omega arith)
  is_same_number (a ∷ x) (b ∷ y) r s e p q =
      rw (
        is_same_number x y r s (omega arith) p.1 q.1,
        compare_cons a b x y (omega arith) p.1 q.1,
        equal_then (compare a b) (compare (number base x) (number base y)),
      )
      (sym (and_assoc (eqb a b) (eqb (number base x) (number base y)) (is_same r s)))

-- a part of a list
all_take : {A : Type 0} (P : A → Type 0) (n : ℕ) (x : List A) → All P x → All P (take n x)
all_take P zero x h = tt
all_take P (suc n) [] h = tt
all_take P (suc n) (a ∷ x) h = (h.0, all_take P n x h.1)

all_drop : {A : Type 0} (P : A → Type 0) (n : ℕ) (x : List A) → All P x → All P (drop n x)
all_drop P zero x h = h
all_drop P (suc n) [] h = tt
all_drop P (suc n) (a ∷ x) h = all_drop P n x h.1

pub all_bytes : (b : List ℕ) → ((i : ℕ) → get_or b i 0 < 256) → Bytes b
all_bytes [] h = tt
all_bytes (a ∷ b) h = (h 0, all_bytes b (λ i. h (suc i)))

-- the eight bytes of a word
abbrev pub part : List ℕ → ℕ → List ℕ
part b at = take 8 (drop at b)

pub part_bytes : (b : List ℕ) (at : ℕ) → Bytes b → Bytes (part b at)
part_bytes b at h = all_take (λ a. a < 256) 8 (drop at b) (all_drop (λ a. a < 256) at b h)

pub part_length : (b : List ℕ) (at : ℕ) → at + 8 ≤ length b → length (part b at) ≡ 8
part_length b at h = length-take-le 8 (drop at b) (simp length-drop (omega arith))

part_split : (b : List ℕ) (at : ℕ) → part b at ++ drop (at + 8) b ≡ drop at b
part_split b at = rw (← drop-drop 8 at b) (take-append-drop 8 (drop at b))

-- the number of the n bytes from index at on
sum_at : List ℕ → ℕ → ℕ → ℕ
sum_at b at zero = 0
sum_at b at (suc n) = get_or b at 0 * 256 ^ n + sum_at b (at + 1) n

number_sum : (b : List ℕ) (at n : ℕ) → at + n ≤ length b → number 256 (take n (drop at b)) ≡ sum_at b at n
unfolding number sum_at
number_sum b at zero h = refl
number_sum b at (suc n) h =
    let l : length (take n (drop (at + 1) b)) ≡ n = length-take-le n (drop (at + 1) b) (simp length-drop (omega arith)) in
    rw (drop-cons b at 0 (omega arith), ← add-one at, l, number_sum b (at + 1) n (omega arith))

pub part_number : (b : List ℕ) (at : ℕ) → at + 8 ≤ length b → number 256 (part b at) ≡ word_at b at
unfolding sum_at
part_number b at h = number_sum b at 8 h ∙ simp add_assoc (omega arith)

-- behind its four words a field has nothing
pub drop_words : (x : List ℕ) (k : ℕ) → length x ≡ field_size → 4 ≤ k → drop (8 * k) x ≡ []
drop_words x k e h = drop_of_length-le x {i = 8 * k} (omega arith)

-- two fields, word by word
module _ (x y : List ℕ) (ex : length x ≡ field_size) (ey : length y ≡ field_size) (p : Bytes x) (q : Bytes y) (k : ℕ) (h : k < 4) where
  next : 8 * k + 8 ≡ 8 * (k + 1)
  next = omega arith

  pub is_below_word : is_below (drop (8 * k) x) (drop (8 * k) y)
      ≡ below_at (compare (word_at x (8 * k)) (word_at y (8 * k))) (is_below (drop (8 * (k + 1)) x) (drop (8 * (k + 1)) y))
  is_below_word =
      let l = part_length x (8 * k) (omega arith) ∙ sym (part_length y (8 * k) (omega arith)) in
      rw (part_split x (8 * k), part_split y (8 * k), part_number x (8 * k) (omega arith), part_number y (8 * k) (omega arith), next) at
      (is_below_number 256 (part x (8 * k)) (part y (8 * k)) (drop (8 * k + 8) x) (drop (8 * k + 8) y) l
      (part_bytes x (8 * k) p) (part_bytes y (8 * k) q))

  -- what the k-th words, by how they compare, say of the fields
  pub is_below_turn : (a b : ℕ) (o : Ordering) → a ≡ word_at x (8 * k) → b ≡ word_at y (8 * k) → Compared a b o
      → is_below x y ≡ is_below (drop (8 * k) x) (drop (8 * k) y)
      → is_below x y ≡ below_at o (is_below (drop (8 * (k + 1)) x) (drop (8 * (k + 1)) y))
  is_below_turn a b o e f h g = g ∙ is_below_word ∙ rw (← e, ← f, compare_is a b o h) refl

  pub is_same_word : is_same (drop (8 * k) x) (drop (8 * k) y)
      ≡ eqb (word_at x (8 * k)) (word_at y (8 * k)) && is_same (drop (8 * (k + 1)) x) (drop (8 * (k + 1)) y)
  is_same_word =
      let l = part_length x (8 * k) (omega arith) ∙ sym (part_length y (8 * k) (omega arith)) in
      rw (part_split x (8 * k), part_split y (8 * k), part_number x (8 * k) (omega arith), part_number y (8 * k) (omega arith), next) at
      (is_same_number 256 (part x (8 * k)) (part y (8 * k)) (drop (8 * k + 8) x) (drop (8 * k + 8) y) l
      (part_bytes x (8 * k) p) (part_bytes y (8 * k) q))

pub is_same_words : (x y : List ℕ) → length x ≡ field_size → length y ≡ field_size → Bytes x → Bytes y
    → is_same x y
    ≡ eqb (word_at x 0) (word_at y 0)
    && (eqb (word_at x 8) (word_at y 8) && (eqb (word_at x 16) (word_at y 16) && eqb (word_at x 24) (word_at y 24)))
is_same_words x y ex ey p q =
    let turn = is_same_word x y ex ey p q in
    turn 0 (omega arith)
    ∙ rw (
      turn 1 (omega arith),
      turn 2 (omega arith),
      turn 3 (omega arith),
      drop_words x 4 ex (omega arith),
      drop_words y 4 ey (omega arith),
      and-true (eqb (word_at x 24) (word_at y 24)),
    ) refl
