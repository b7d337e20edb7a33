-- Laws of the step between: a remade last digit, strictly inside the gap, lengths, and the pair of a new entry.
-- Assumes nothing.
use mathlib.Core.Path.{◌≡◌, refl, ap}
use mathlib.Core.Logic.{◌⊎◌, inl, inr}
use mathlib.Core.List.{[], ◌∷◌, ◌++◌}
use Prim.Native.Nat.{ℕ, suc, ◌+◌, ◌≤◌, ◌<◌, max, compare, Ordering}
use native.Mathlib.Omega.{arith}
use native.Mathlib.Decide.{ℕ_discrete}
use lib.ListN.{length, length-append}
use Rattle.digits.specs.Order.{Digits, Below}
use Rattle.digits.specs.Code.{Under}
use Rattle.digits.specs.Between.{Shape, Gap, Inside, remade, lower, raise, between_at, between, start_of, end_of, Pair}
use Rattle.digits.proofs.OrderLaws.{Compared, compared, lt, eq, gt, below_append}
use Rattle.digits.proofs.CodeLaws.{formed_side, side_formed, formed_cons, formed_append, under_below, below_under}

-- a code's last digit is 2 or 3
pub last_digit : (P : ℕ → Type 0) → P 2 → P 3 → (d : ℕ) → Shape (d ∷ []) → P d
last_digit P p q d s = go (ℕ_discrete d 2)
  where
    go : Dec (d ≡ 2) → P d
    go (yes e) = rw e p
    go (no n) = let e : d ≡ 3 = omega arith in rw e q

module _ (f : ℕ → Digits) where
  pub remade_shape : ((d : ℕ) → Shape (d ∷ []) → Shape (f d)) → (x : Digits) → Shape x → Shape (remade f x)
  remade_shape h [] s = s
  remade_shape h (d ∷ []) s = h d s
  remade_shape h (d ∷ e ∷ x) s = formed_cons 1 3 d (remade f (e ∷ x)) s.0 s.1 (remade_shape h (e ∷ x) s.2)

  pub remade_length : (k : ℕ) → ((d : ℕ) → Shape (d ∷ []) → length (f d) ≤ k) → (x : Digits) → Shape x
      → length (remade f x) + 1 ≤ length x + k
  remade_length k h [] s = absurd s
  remade_length k h (d ∷ []) s = omega (arith, h d s)
  remade_length k h (d ∷ e ∷ x) s = omega (arith, remade_length k h (e ∷ x) s.2)

  -- what is shorter stays below, or above
  below_remade : ((d : ℕ) → Shape (d ∷ []) → 0 < length (f d)) → (l x : Digits) → Shape x → length l < length x
      → Below l x → Below l (remade f x)
  below_remade h l [] s k b = absurd s
  below_remade h [] (d ∷ []) s k b = below_append [] (f d) (h d s)
  below_remade h (a ∷ l) (d ∷ []) s k b = absurd (omega arith)
  below_remade h [] (d ∷ e ∷ x) s k b = tt
  below_remade h (a ∷ l) (d ∷ e ∷ x) s k (inl b) = inl b
  below_remade h (a ∷ l) (d ∷ e ∷ x) s k (inr b) = inr (b.0, below_remade h l (e ∷ x) s.2 (omega arith) b.1)

  remade_below : (x r : Digits) → length r < length x → Below x r → Below (remade f x) r
  remade_below [] r k b = absurd (omega arith)
  remade_below (d ∷ []) [] k b = absurd b
  remade_below (d ∷ []) (c ∷ r) k b = absurd (omega arith)
  remade_below (d ∷ e ∷ x) [] k b = absurd b
  remade_below (d ∷ e ∷ x) (c ∷ r) k (inl b) = inl b
  remade_below (d ∷ e ∷ x) (c ∷ r) k (inr b) = inr (b.0, remade_below (e ∷ x) r (omega arith) b.1)

-- two ways to remake one code
pub remade_order : (f g : ℕ → Digits) → ((d : ℕ) → Shape (d ∷ []) → Below (f d) (g d)) → (x : Digits) → Shape x
    → Below (remade f x) (remade g x)
remade_order f g h [] s = absurd s
remade_order f g h (d ∷ []) s = h d s
remade_order f g h (d ∷ e ∷ x) s = inr (refl, remade_order f g h (e ∷ x) s.2)

-- a last digit that stands by itself
pub remade_append : (f : ℕ → Digits) (x : Digits) (d : ℕ) → remade f (x ++ (d ∷ [])) ≡ x ++ f d
remade_append f [] d = refl
remade_append f (a ∷ []) d = refl
remade_append f (a ∷ b ∷ x) d = ap {B = Digits} (λ l. a ∷ l) (remade_append f (b ∷ x) d)

abbrev pub kept : ℕ → Digits
kept d = d ∷ []

pub remade_kept : (x : Digits) → remade kept x ≡ x
remade_kept [] = refl
remade_kept (d ∷ []) = refl
remade_kept (d ∷ e ∷ x) = ap {B = Digits} (λ l. d ∷ l) (remade_kept (e ∷ x))

-- L shorter: R lowered
pub lowered_shape : (r : Digits) → Shape r → Shape (remade lower r)
lowered_shape = remade_shape lower (last_digit (λ d. Shape (lower d)) (omega arith) (omega arith))

lowered_below : (r : Digits) → Shape r → Below (remade lower r) r
lowered_below r s =
    rw (remade_kept r) at (remade_order lower kept (last_digit (λ d. Below (lower d) (kept d)) (inl (omega arith)) (inl (omega arith)))
    r s)

pub below_lowered : (l r : Digits) → Shape r → length l < length r → Below l r → Below l (remade lower r)
below_lowered = below_remade lower (last_digit (λ d. 0 < length (lower d)) (omega arith) (omega arith))

-- L longer: L raised
raised_shape : (l : Digits) → Shape l → Shape (remade raise l)
raised_shape = remade_shape raise (last_digit (λ d. Shape (raise d)) (omega arith) (omega arith))

below_raised : (l : Digits) → Shape l → Below l (remade raise l)
below_raised l s =
    rw (remade_kept l) at (remade_order kept raise (last_digit (λ d. Below (kept d) (raise d)) (inl (omega arith)) (inr (refl, tt))) l s)

-- L not shorter: L followed by anything
append_below : (l r c : Digits) → length r ≤ length l → Below l r → Below (l ++ c) r
append_below [] [] c h b = absurd b
append_below [] (y ∷ r) c h b = absurd (omega arith)
append_below (a ∷ l) [] c h b = absurd b
append_below (a ∷ l) (y ∷ r) c h (inl b) = inl b
append_below (a ∷ l) (y ∷ r) c h (inr b) = inr (b.0, append_below l r c (omega arith) b.1)

pub under_append : (l r c : Digits) → length r ≤ length l → Under l r → Under (l ++ c) r
under_append l [] c h u = tt
under_append l (y ∷ r) c h u = append_below l (y ∷ r) c h u

under_raised : (l r : Digits) → length r < length l → Under l r → Under (remade raise l) r
under_raised l [] h u = tt
under_raised l (y ∷ r) h u = remade_below raise l (y ∷ r) h u

inside_at : (l r : Digits) (o : Ordering) → Compared (length l) (length r) o → Gap l r → Inside l r (between_at o l r)
inside_at l r Ordering.lt (lt h) g =
    let s = side_formed 1 3 r (omega arith) g.right in
    record {
      shape = lowered_shape r s;
      above = below_lowered l r s h (under_below 1 3 l r s g.order);
      under = below_under (remade lower r) r (lowered_below r s);
    }
inside_at l r Ordering.eq (eq h) g = record {
  shape = formed_append 1 3 l (2 ∷ []) g.left (omega arith);
  above = below_append l (2 ∷ []) (omega arith);
  under = under_append l r (2 ∷ []) (omega arith) g.order;
}
inside_at l r Ordering.gt (gt h) g =
    let s = side_formed 1 3 l (omega arith) g.left in
    record { shape = raised_shape l s; above = below_raised l s; under = under_raised l r h g.order }

-- the code between is a code, strictly inside the gap
pub between_inside : (l r : Digits) → Gap l r → Inside l r (between l r)
between_inside l r g = inside_at l r (compare (length l) (length r)) (compared (length l) (length r)) g

gap_after : (l r x : Digits) → Gap l r → Inside l r x → Gap x r
gap_after l r x g i = record { left = formed_side 1 3 x i.shape; right = g.right; order = i.under }

abbrev pub EndsTwo : Digits → Type 0
EndsTwo [] = ⊥
EndsTwo (d ∷ []) = d ≡ 2
EndsTwo (d ∷ e ∷ x) = EndsTwo (e ∷ x)

-- at most m digits, or one more where the last is 2: the key to the length of the second code of a pair
abbrev pub Short : ℕ → Digits → Type 0
Short m x = (length x ≤ m) ⊎ (EndsTwo x × (length x ≤ suc m))

short_cons : (m a : ℕ) (x : Digits) → Short m x → Short (suc m) (a ∷ x)
short_cons m a x (inl h) = inl (omega arith)
short_cons m a [] (inr h) = absurd h.0
short_cons m a (b ∷ x) (inr h) = inr (h.0, omega arith)

short_mono : (m n : ℕ) (x : Digits) → m ≤ n → Short m x → Short n x
short_mono m n x k (inl h) = inl (omega arith)
short_mono m n x k (inr h) = inr (h.0, omega arith)

short_length : (m : ℕ) (x : Digits) → Short m x → length x ≤ suc m
short_length m x (inl h) = omega arith
short_length m x (inr h) = h.1

remade_short : (f : ℕ → Digits) → ((d : ℕ) → Shape (d ∷ []) → Short 1 (f d)) → (x : Digits) → Shape x → Short (length x) (remade f x)
remade_short f h [] s = absurd s
remade_short f h (d ∷ []) s = h d s
remade_short f h (d ∷ e ∷ x) s = short_cons (length (e ∷ x)) d (remade f (e ∷ x)) (remade_short f h (e ∷ x) s.2)

lowered_short : (r : Digits) → Shape r → Short (length r) (remade lower r)
lowered_short = remade_short lower (last_digit (λ d. Short 1 (lower d)) (inr (refl, omega arith)) (inl (omega arith)))

raised_short : (l : Digits) → Shape l → Short (length l) (remade raise l)
raised_short = remade_short raise (last_digit (λ d. Short 1 (raise d)) (inl (omega arith)) (inr (refl, omega arith)))

pub ends_two_append : (x : Digits) → EndsTwo (x ++ (2 ∷ []))
ends_two_append [] = refl
ends_two_append (a ∷ []) = refl
ends_two_append (a ∷ b ∷ x) = ends_two_append (b ∷ x)

raised_two : (l : Digits) → EndsTwo l → length (remade raise l) ≡ length l
raised_two [] e = absurd e
raised_two (d ∷ []) e = rw e
raised_two (d ∷ c ∷ x) e = omega (arith, raised_two (c ∷ x) e)

short_at : (l r : Digits) (o : Ordering) → Compared (length l) (length r) o → Gap l r
    → Short (max (length l) (length r)) (between_at o l r)
short_at l r Ordering.lt (lt h) g =
    short_mono (length r) _ (remade lower r) (omega arith) (lowered_short r (side_formed 1 3 r (omega arith) g.right))
short_at l r Ordering.eq (eq h) g = inr (ends_two_append l, simp length-append (omega arith))
short_at l r Ordering.gt (gt h) g =
    short_mono (length l) _ (remade raise l) (omega arith) (raised_short l (side_formed 1 3 l (omega arith) g.left))

between_short : (l r : Digits) → Gap l r → Short (max (length l) (length r)) (between l r)
between_short l r g = short_at l r (compare (length l) (length r)) (compared (length l) (length r)) g

-- the code between has at most one digit more than the longer neighbour
pub between_length : (l r : Digits) → Gap l r → length (between l r) ≤ suc (max (length l) (length r))
between_length l r g = short_length _ (between l r) (between_short l r g)

again_at : (m : ℕ) (x r : Digits) (o : Ordering) → Compared (length x) (length r) o → Gap x r → length r ≤ m → Short m x
    → length (between_at o x r) ≤ suc m
again_at m x r Ordering.lt (lt h) g k s =
    omega (arith, short_length (length r) (remade lower r) (lowered_short r (side_formed 1 3 r (omega arith) g.right)))
again_at m x r Ordering.eq (eq h) g k s = simp length-append (omega arith)
again_at m x r Ordering.gt (gt h) g k (inl s) =
    omega (arith, short_length (length x) (remade raise x) (raised_short x (side_formed 1 3 x (omega arith) g.left)))
again_at m x r Ordering.gt (gt h) g k (inr s) = omega (arith, raised_two x s.0)

-- the start and the end of a new entry: both inside, in order, and both at most one digit longer than the longer neighbour
pub between_pair : (l r : Digits) → Gap l r → Pair l r (start_of l r) (end_of l r)
between_pair l r g =
    let i = between_inside l r g in
    let h = gap_after l r (between l r) g i in
    record {
      first = i;
      second = between_inside (between l r) r h;
      first_length = between_length l r g;
      second_length =
          again_at (max (length l) (length r)) (between l r) r _ (compared (length (between l r)) (length r)) h (omega arith)
          (between_short l r g);
    }
