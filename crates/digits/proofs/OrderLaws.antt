-- Laws of the order: a comparison of two numbers, a strict total order on digit lists, the test and the relation, prefixes.
-- Assumes nothing.
use mathlib.Core.Path.{◌≡◌, refl, sym, ap, ◌∙◌}
use mathlib.Core.Logic.{◌⊎◌, inl, inr, ◌≢◌}
use mathlib.Core.Bool.{Bool, true, false}
use mathlib.Core.List.{[], ◌∷◌, ◌++◌, append-nil, append_assoc}
use Prim.Native.Nat.compare
use Prim.Native.Nat.{ℕ, zero, suc, ◌<◌, compare, Ordering}
use native.Mathlib.Omega.{arith}
use lib.Dec.{T}
use lib.IntN.{pos, negsuc}
use lib.ListN.{length}
use Rattle.digits.specs.Order.{Digits, Below, Prefix, below_at, is_below, order_by}

-- what a comparison of two numbers says of them
pub data Compared (a b : ℕ) : Ordering → Type 0 where
  lt : a < b → Compared a b Ordering.lt
  eq : a ≡ b → Compared a b Ordering.eq
  gt : b < a → Compared a b Ordering.gt

up : {a b : ℕ} {o : Ordering} → Compared a b o → Compared (suc a) (suc b) o
up (lt h) = lt (omega arith)
up (eq h) = eq (omega arith)
up (gt h) = gt (omega arith)

pub compared : (a b : ℕ) → Compared a b (compare a b)
compared zero zero = rw compare.zero-zero (eq refl)
compared zero (suc b) = rw compare.zero-suc (lt (omega arith))
compared (suc a) zero = rw compare.suc-zero (gt (omega arith))
compared (suc a) (suc b) = rw compare.suc-suc (up (compared a b))

-- only one comparison is right
one_comparison : (a b : ℕ) (o p : Ordering) → Compared a b o → Compared a b p → o ≡ p
one_comparison a b Ordering.lt Ordering.lt h k = refl
one_comparison a b Ordering.lt Ordering.eq (lt h) (eq k) = absurd (omega arith)
one_comparison a b Ordering.lt Ordering.gt (lt h) (gt k) = absurd (omega arith)
one_comparison a b Ordering.eq Ordering.lt (eq h) (lt k) = absurd (omega arith)
one_comparison a b Ordering.eq Ordering.eq h k = refl
one_comparison a b Ordering.eq Ordering.gt (eq h) (gt k) = absurd (omega arith)
one_comparison a b Ordering.gt Ordering.lt (gt h) (lt k) = absurd (omega arith)
one_comparison a b Ordering.gt Ordering.eq (gt h) (eq k) = absurd (omega arith)
one_comparison a b Ordering.gt Ordering.gt h k = refl

pub compare_is : (a b : ℕ) (o : Ordering) → Compared a b o → compare a b ≡ o
compare_is a b o h = one_comparison a b (compare a b) o (compared a b) h

pub below_irrefl : (x : Digits) → Below x x → ⊥
below_irrefl [] h = h
below_irrefl (a ∷ x) (inl h) = omega arith
below_irrefl (a ∷ x) (inr h) = below_irrefl x h.1

pub below_nil : (x : Digits) → Below x [] → ⊥
below_nil [] h = h
below_nil (a ∷ x) h = h

pub below_some : (z x : Digits) → Below z x → 0 < length x
below_some z [] b = absurd (below_nil z b)
below_some z (a ∷ x) b = omega arith

pub below_trans : (x y z : Digits) → Below x y → Below y z → Below x z
below_trans [] y [] p q = absurd (below_nil y q)
below_trans [] y (c ∷ z) p q = tt
below_trans (a ∷ x) [] z p q = absurd p
below_trans (a ∷ x) (b ∷ y) [] p q = absurd q
below_trans (a ∷ x) (b ∷ y) (c ∷ z) (inl p) (inl q) = inl (omega arith)
below_trans (a ∷ x) (b ∷ y) (c ∷ z) (inl p) (inr q) = inl (omega arith)
below_trans (a ∷ x) (b ∷ y) (c ∷ z) (inr p) (inl q) = inl (omega arith)
below_trans (a ∷ x) (b ∷ y) (c ∷ z) (inr p) (inr q) = inr (omega arith, below_trans x y z p.1 q.1)

pub below_asym : (x y : Digits) → Below x y → Below y x → ⊥
below_asym x y p q = below_irrefl x (below_trans x y x p q)

-- of three facts one
pub data Three (P Q R : Type 0) : Type 0 where
  lower : P → Three P Q R
  equal : Q → Three P Q R
  upper : R → Three P Q R

pub below_three : (x y : Digits) → Three (Below x y) (x ≡ y) (Below y x)
below_three [] [] = equal refl
below_three [] (b ∷ y) = lower tt
below_three (a ∷ x) [] = upper tt
below_three (a ∷ x) (b ∷ y) = go (compare a b) (compared a b) (below_three x y)
  where
    go : (o : Ordering) → Compared a b o → Three (Below x y) (x ≡ y) (Below y x)
        → Three (Below (a ∷ x) (b ∷ y)) (a ∷ x ≡ b ∷ y) (Below (b ∷ y) (a ∷ x))
    go Ordering.lt (lt h) t = lower (inl h)
    go Ordering.gt (gt h) t = upper (inl h)
    go Ordering.eq (eq e) (lower h) = lower (inr (e, h))
    go Ordering.eq (eq e) (equal h) = equal cc
    go Ordering.eq (eq e) (upper h) = upper (inr (sym e, h))

pub is_below_gives : (x y : Digits) → T (is_below x y) → Below x y
is_below_gives [] [] t = t
is_below_gives [] (b ∷ y) t = tt
is_below_gives (a ∷ x) [] t = t
is_below_gives (a ∷ x) (b ∷ y) t = go (compare a b) (compared a b) (is_below_gives x y) t
  where
    go : (o : Ordering) → Compared a b o → (T (is_below x y) → Below x y) → T (below_at o (is_below x y)) → Below (a ∷ x) (b ∷ y)
    go Ordering.lt (lt h) r t = inl h
    go Ordering.eq (eq h) r t = inr (h, r t)
    go Ordering.gt (gt h) r t = absurd t

gives_is_below : (x y : Digits) → Below x y → T (is_below x y)
gives_is_below [] [] t = t
gives_is_below [] (b ∷ y) t = tt
gives_is_below (a ∷ x) [] t = t
gives_is_below (a ∷ x) (b ∷ y) t = go (compare a b) (compared a b) (gives_is_below x y) t
  where
    go : (o : Ordering) → Compared a b o → (Below x y → T (is_below x y)) → Below (a ∷ x) (b ∷ y) → T (below_at o (is_below x y))
    go Ordering.lt (lt h) r t = tt
    go Ordering.eq (eq h) r (inl t) = absurd (omega arith)
    go Ordering.eq (eq h) r (inr t) = r t.1
    go Ordering.gt (gt h) r (inl t) = omega arith
    go Ordering.gt (gt h) r (inr t) = omega arith

-- the two tests of one pair, and of a list with itself
pub is_below_true : (x y : Digits) → Below x y → is_below x y ≡ true
is_below_true x y h = go (is_below x y) (gives_is_below x y h)
  where
    go : (b : Bool) → T b → b ≡ true
    go true t = refl
    go false t = absurd t

pub is_below_false : (x y : Digits) → (Below x y → ⊥) → is_below x y ≡ false
is_below_false x y h = go (is_below x y) (is_below_gives x y)
  where
    go : (b : Bool) → (T b → Below x y) → b ≡ false
    go true f = absurd (h (f tt))
    go false f = refl

pub prefix_refl : (x : Digits) → Prefix x x
prefix_refl x = ([], append-nil x)

pub prefix_trans : (x y z : Digits) → Prefix x y → Prefix y z → Prefix x z
prefix_trans x y z (s, p) (t, q) = (s ++ t, sym (append_assoc x s t) ∙ ap (λ (l : Digits). l ++ t) p ∙ q)

-- what follows a list makes it larger, and only nothing leaves it as it is
pub below_append : (x z : Digits) → 0 < length z → Below x (x ++ z)
below_append [] [] h = absurd (omega arith)
below_append [] (c ∷ z) h = tt
below_append (a ∷ x) z h = inr (refl, below_append x z h)

-- 01, Order, second half: a proper prefix is smaller
pub prefix_below : (x y : Digits) → Prefix x y → x ≢ y → Below x y
prefix_below x y ([], e) n = absurd (n (sym (append-nil x) ∙ e))
prefix_below x y (c ∷ z, e) n = rw (sym e) (below_append x (c ∷ z) (omega arith))

-- 01, Order, first half: after a common beginning the first differing digit decides, whatever follows
pub digit_below : (p s t : Digits) (a b : ℕ) → a < b → Below (p ++ (a ∷ s)) (p ++ (b ∷ t))
digit_below [] s t a b h = inl h
digit_below (c ∷ p) s t a b h = inr (refl, digit_below p s t a b h)

-- there is no third way to be below
pub record Parted (x y : Digits) : Type 0 where
  pub common : Digits
  pub low : ℕ
  pub high : ℕ
  pub left : Digits
  pub right : Digits
  pub left_is : common ++ (low ∷ left) ≡ x
  pub right_is : common ++ (high ∷ right) ≡ y
  pub less : low < high

pub below_cases : (x y : Digits) → Below x y → Prefix x y ⊎ Parted x y
below_cases [] [] h = absurd h
below_cases [] (b ∷ y) h = inl (b ∷ y, refl)
below_cases (a ∷ x) [] h = absurd h
below_cases (a ∷ x) (b ∷ y) (inl h) =
    inr record { common = []; low = a; high = b; left = x; right = y; left_is = refl; right_is = refl; less = h }
below_cases (a ∷ x) (b ∷ y) (inr (e, h)) = go (below_cases x y h)
  where
    go : Prefix x y ⊎ Parted x y → Prefix (a ∷ x) (b ∷ y) ⊎ Parted (a ∷ x) (b ∷ y)
    go (inl (z, p)) = inl (z, cc)
    go (inr d) = inr record {
      common = a ∷ d.common;
      low = d.low;
      high = d.high;
      left = d.left;
      right = d.right;
      left_is = ap {B = Digits} (λ l. a ∷ l) d.left_is;
      right_is = cc d.right_is;
      less = d.less;
    }

-- a small signed number by the two tests
module _ (x y : Digits) where
  pub order_below : is_below x y ≡ true → negsuc 0 ≡ order_by x y
  order_below e = sym (rw e refl)

  pub order_above : is_below x y ≡ false → is_below y x ≡ true → pos 1 ≡ order_by x y
  order_above e f = sym (rw (e, f) refl)

  pub order_same : is_below x y ≡ false → is_below y x ≡ false → pos 0 ≡ order_by x y
  order_same e f = sym (rw (e, f) refl)
