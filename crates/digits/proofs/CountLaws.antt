-- The counting bound, over any alphabet: different codes of at most h digits are fewer than symbols ^ h.
-- Assumes nothing.
use mathlib.Core.Path.{◌≡◌}
use mathlib.Core.Logic.{inl, inr, ◌≢◌}
use mathlib.Core.List.{List, [], ◌∷◌, map}
use Prim.Native.Nat.{ℕ, zero, suc, ◌+◌, ◌-◌, ◌*◌, ◌^◌, ◌≤◌, ◌<◌, compare, Ordering}
use native.Mathlib.Omega.{arith}
use native.Mathlib.Nat.{one-le-pow, mul-le-mul_right, pow-le-pow_right, pow-succ'}
use lib.Arith.{digits_lt}
use lib.ListN.{length, length-map}
use Rattle.digits.specs.Lists.{All, Distinct}
use Rattle.digits.specs.Order.{Digits, Below}
use Rattle.digits.specs.Code.{Formed, Side, Within, Enough}
use Rattle.digits.proofs.ListLaws.{pigeons}
use Rattle.digits.proofs.OrderLaws.{Compared, lt, eq, gt, compared, below_nil, below_three, Three, lower, equal, upper}
use Rattle.digits.proofs.CodeLaws.{formed_first, formed_rest, formed_side}

module _ (least symbols : ℕ) (some : 0 < symbols) where
  -- a code as a fraction of h digits: each digit less the least, filled up with zeros
  abbrev pub value : ℕ → Digits → ℕ
  value zero x = 0
  value (suc h) [] = 0
  value (suc h) (a ∷ x) = (a - least) * symbols ^ h + value h x

  value_lt : (h : ℕ) (x : Digits) → Side least symbols x → value h x < symbols ^ h
  value_lt zero x s = one-le-pow 0 symbols some
  value_lt (suc h) [] s = one-le-pow (suc h) symbols some
  value_lt (suc h) (a ∷ x) s =
      let f = formed_first least symbols a x s in
      rw (pow-succ' symbols h)
      (digits_lt {q = a - least} {m = symbols} {r = value h x} {c = symbols ^ h} (omega arith)
      (value_lt h x (formed_rest least symbols a x s)))

  value_pos : (h : ℕ) (x : Digits) → Formed least symbols x → length x ≤ h → 0 < value h x
  value_pos h [] s k = absurd s
  value_pos zero (a ∷ x) s k = absurd (omega arith)
  value_pos (suc h) (a ∷ []) s k =
      omega (arith, mul-le-mul_right {m = 1} {n = a - least} (symbols ^ h) (omega arith), one-le-pow h symbols some)
  value_pos (suc h) (a ∷ b ∷ x) s k = omega (arith, value_pos h (b ∷ x) s.2 (omega arith))

  -- the order of codes is the order of their values
  value_mono : (h : ℕ) (x y : Digits) → Side least symbols x → Formed least symbols y → length y ≤ h → Below x y
      → value h x < value h y
  value_mono h x [] s t k b = absurd t
  value_mono zero x (c ∷ y) s t k b = absurd (omega arith)
  value_mono (suc h) [] (c ∷ y) s t k b = value_pos (suc h) (c ∷ y) t k
  value_mono (suc h) (a ∷ x) (c ∷ y) s t k (inl b) =
      let f = formed_first least symbols a x s in
      let v = value_lt h x (formed_rest least symbols a x s) in
      let d = digits_lt {q = a - least} {m = c - least} {r = value h x} {c = symbols ^ h} (omega arith) v in
      omega arith
  value_mono (suc h) (a ∷ x) (c ∷ []) s t k (inr b) = absurd (below_nil x b.1)
  value_mono (suc h) (a ∷ x) (c ∷ e ∷ y) s t k (inr b) =
      rw b.0 (omega (arith, value_mono h x (e ∷ y) (formed_rest least symbols a x s) t.2 (omega arith) b.1))

  one_value : (h : ℕ) (x y : Digits) → Within least symbols h x → Within least symbols h y → value h x ≡ value h y → x ≡ y
  one_value h x y s t e = go (below_three x y)
    where
      go : Three (Below x y) (x ≡ y) (Below y x) → x ≡ y
      go (lower b) = absurd (omega (arith, value_mono h x y (formed_side least symbols x s.formed) t.formed t.fits b))
      go (equal p) = p
      go (upper b) = absurd (omega (arith, value_mono h y x (formed_side least symbols y t.formed) s.formed s.fits b))

  all_values : (h : ℕ) (xs : List Digits) → All (Within least symbols h) xs
      → All (λ n. n < symbols ^ h - 1) (map (λ x. value h x - 1) xs)
  all_values h [] a = tt
  all_values h (x ∷ xs) a = (
    omega (arith, value_pos h x a.0.formed a.0.fits, value_lt h x (formed_side least symbols x a.0.formed)),
    all_values h xs a.1,
  )

  fresh_values : (h : ℕ) (x : Digits) (xs : List Digits) → Within least symbols h x → All (Within least symbols h) xs
      → All (λ y. x ≢ y) xs → All (λ n. value h x - 1 ≢ n) (map (λ y. value h y - 1) xs)
  fresh_values h x [] s a d = tt
  fresh_values h x (y ∷ xs) s a d =
      let p = value_pos h x s.formed s.fits in
      let q = value_pos h y a.0.formed a.0.fits in
      (λ e. d.0 (one_value h x y s a.0 (omega arith)), fresh_values h x xs s a.1 d.1)

  distinct_values : (h : ℕ) (xs : List Digits) → All (Within least symbols h) xs → Distinct xs → Distinct (map (λ x. value h x - 1) xs)
  distinct_values h [] a d = tt
  distinct_values h (x ∷ xs) a d = (fresh_values h x xs a.0 a.1 d.0, distinct_values h xs a.1 d.1)

  -- demand 3: codes that are all different and have at most h digits each are fewer than symbols ^ h
  codes_bound : (h : ℕ) (xs : List Digits) → All (Within least symbols h) xs → Distinct xs → length xs < symbols ^ h
  codes_bound h xs a d =
      let p = pigeons (symbols ^ h - 1) (map (λ x. value h x - 1) xs) (all_values h xs a) (distinct_values h xs a d) in
      omega (arith, p, length-map xs (λ x. value h x - 1), one-le-pow h symbols some)

  -- demand 3: so many different codes cannot all have fewer digits than the least that leaves room for them
  pub no_better : (m h : ℕ) (xs : List Digits) → Enough symbols (length xs) m → All (Within least symbols h) xs → Distinct xs → m ≤ h
  no_better m h xs e a d = e.least h (codes_bound h xs a d)

-- there is such a least number of digits, for two symbols and more
module _ (symbols : ℕ) (two : 2 ≤ symbols) where
  -- one number more: the same digits, or one more where the power is just reached
  next : (n m : ℕ) → Enough symbols n m → (o : Ordering) → Compared (suc n) (symbols ^ m) o → (k : ℕ) × Enough symbols (suc n) k
  next n m e Ordering.lt (lt h) = (m, record { above = h; least = λ k g. e.least k (omega arith) })
  next n m e Ordering.gt (gt h) = absurd (omega (arith, e.above))
  next n m e Ordering.eq (eq h) =
      let p : 2 * symbols ^ m ≤ symbols * symbols ^ m = mul-le-mul_right {m = 2} {n = symbols} (symbols ^ m) two in
      let q : 1 ≤ symbols ^ m = one-le-pow m symbols (omega arith) in (
        suc m,
        record {
          above = rw (pow-succ' symbols m) (omega arith);
          least = λ k g. past m k (λ l. omega (arith, pow-le-pow_right {n = symbols} (omega arith) {i = k} {j = m} l));
        },
      )
    where
      past : (m k : ℕ) → (k ≤ m → ⊥) → suc m ≤ k
      past m k f = omega arith

  pub enough : (n : ℕ) → (m : ℕ) × Enough symbols n m
  enough zero = (0, record { above = one-le-pow 0 symbols (omega arith); least = λ k g. omega arith })
  enough (suc n) = let e = enough n in next n e.0 e.1 (compare (suc n) (symbols ^ e.0)) (compared (suc n) (symbols ^ e.0))
