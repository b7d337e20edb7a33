-- Laws of the first labelling, for any pair of end codes: what a cut gives, rising, lengths, how many codes, the depth that is enough.
-- Assumes nothing.
use mathlib.Core.Path.{◌≡◌, refl, ap}
use mathlib.Core.Logic.{inl, inr}
use mathlib.Core.List.{List, [], ◌∷◌, ◌++◌}
use Prim.Native.Nat.{ℕ, zero, suc, ◌+◌, ◌^◌, ◌≤◌, ◌<◌, max, compare, Ordering}
use native.Mathlib.Nat.{zero-add}
use native.Mathlib.Omega.{arith}
use lib.ListN.{length, length-append}
use Rattle.digits.specs.Lists.{All}
use Rattle.digits.specs.Order.{Digits, Below}
use Rattle.digits.specs.Code.{Side, Within, Rising, Enough}
use Rattle.digits.specs.Between.{Shape, Gap, remade, lower, between}
use Rattle.digits.specs.Thirds.{lower_less, first_at, second_at, first, second, left_part, middle_part, right_part, thirds_deep, thirds}
use Rattle.digits.proofs.ListLaws.{all_map, all_join}
use Rattle.digits.proofs.OrderLaws.{Compared, compared, lt, eq, gt, below_append}
use Rattle.digits.proofs.CodeLaws.{formed_length, formed_side, side_formed, formed_append, under_below, below_under, rising_join}
use Rattle.digits.proofs.BetweenLaws.{last_digit, remade_shape, remade_length, remade_order, kept, remade_kept, lowered_shape, below_lowered, between_inside, between_length, under_append, EndsTwo, ends_two_append}

-- what a cut of a gap by two codes gives
pub record Cut (l r a b : Digits) : Type 0 where
  pub lower_shape : Shape a
  pub upper_shape : Shape b
  pub lower_length : length a ≤ suc (max (length l) (length r))
  pub upper_length : length b ≤ suc (max (length l) (length r))
  pub left : Gap l a
  pub middle : Gap a b
  pub right : Gap b r

-- a gap whose right side is a code
gap_to : (l r : Digits) → Side 1 3 l → Shape r → Below l r → Gap l r
gap_to l r s t b = record { left = s; right = formed_side 1 3 r t; order = below_under l r b }

pub open_gap : Gap [] []
open_gap = record { left = tt; right = tt; order = tt }

append_order : (x c e : Digits) → Below c e → Below (x ++ c) (x ++ e)
append_order [] c e t = t
append_order (a ∷ x) c e t = inr (refl, append_order x c e t)

module _ (l r : Digits) (g : Gap l r) where
  cut_right : length l < length r → Cut l r (remade lower r) (remade lower_less r)
  cut_right h =
      let s = side_formed 1 3 r (omega arith) g.right in
      let a = lowered_shape r s in
      let b = remade_shape lower_less (last_digit (λ d. Shape (lower_less d)) (omega arith) (omega arith)) r s in
      let p = last_digit (λ d. length (lower d) ≤ 2) (omega arith) (omega arith) in
      let q = last_digit (λ d. length (lower_less d) ≤ 2) (omega arith) (omega arith) in
      let m = last_digit (λ d. Below (lower d) (lower_less d)) (inr (refl, inl (omega arith))) (inr (refl, tt)) in
      let n = last_digit (λ d. Below (lower_less d) (kept d)) (inl (omega arith)) (inl (omega arith)) in
      record {
        lower_shape = a;
        upper_shape = b;
        lower_length = omega (arith, remade_length lower 2 p r s);
        upper_length = omega (arith, remade_length lower_less 2 q r s);
        left = gap_to l _ g.left a (below_lowered l r s h (under_below 1 3 l r s g.order));
        middle = gap_to _ _ (formed_side 1 3 (remade lower r) a) b (remade_order lower lower_less m r s);
        right = gap_to _ r (formed_side 1 3 (remade lower_less r) b) s (rw (remade_kept r) at (remade_order lower_less kept n r s));
      }

  cut_left : length r ≤ length l → Cut l r (l ++ (2 ∷ [])) (l ++ (3 ∷ []))
  cut_left h =
      let a = formed_append 1 3 l (2 ∷ []) g.left (omega arith) in
      let b = formed_append 1 3 l (3 ∷ []) g.left (omega arith) in
      record {
        lower_shape = a;
        upper_shape = b;
        lower_length = simp length-append (omega arith);
        upper_length = simp length-append (omega arith);
        left = gap_to l _ g.left a (below_append l (2 ∷ []) (omega arith));
        middle = gap_to _ _ (formed_side 1 3 (l ++ (2 ∷ [])) a) b (append_order l (2 ∷ []) (3 ∷ []) (inl (omega arith)));
        right = record { left = formed_side 1 3 (l ++ (3 ∷ [])) b; right = g.right; order = under_append l r (3 ∷ []) h g.order };
      }

  cut_at : (o : Ordering) → Compared (length l) (length r) o → Cut l r (first_at o l r) (second_at o l r)
  cut_at Ordering.lt (lt h) = cut_right h
  cut_at Ordering.eq (eq h) = cut_left (omega arith)
  cut_at Ordering.gt (gt h) = cut_left (omega arith)

  cut_cuts : Cut l r (first l r) (second l r)
  cut_cuts = cut_at (compare (length l) (length r)) (compared (length l) (length r))

-- the three parts of a width: each at least 1, each narrower, together the whole
pub record Parts (d a b c : ℕ) : Type 0 where
  pub whole : a + b + c ≡ d
  pub left : 1 ≤ a
  pub middle : 1 ≤ b
  pub right : 1 ≤ c

pub parts : (d : ℕ) → 3 ≤ d → Parts d (left_part d) (middle_part d) (right_part d)
parts d h = record { whole = omega arith; left = omega arith; middle = omega arith; right = omega arith }

-- the codes rise strictly from the left side to the right side
thirds_deep_rising : (n : ℕ) (l r : Digits) (d : ℕ) → Gap l r → Rising l (thirds_deep n l r d) r
unfolding thirds_deep
thirds_deep_rising zero l r d g = g.order
thirds_deep_rising (suc n) l r zero g = g.order
thirds_deep_rising (suc n) l r (suc zero) g = g.order
thirds_deep_rising (suc n) l r (suc (suc zero)) g =
    let i = between_inside l r g in
    (i.above, i.under)
thirds_deep_rising (suc n) l r (suc (suc (suc k))) g =
    let c = cut_cuts l r g in
    let a = first l r in
    let b = second l r in
    rising_join l a r (thirds_deep n l a _) _ (formed_length 1 3 a c.lower_shape) (thirds_deep_rising n l a _ c.left)
    (rising_join a b r (thirds_deep n a b _) _ (formed_length 1 3 b c.upper_shape) (thirds_deep_rising n a b _ c.middle)
    (thirds_deep_rising n b r _ c.right))

-- demand 3 for any gap: a width of at most 3 ^ t gives codes of at most t digits more than the longer side
thirds_deep_within : (n t : ℕ) (l r : Digits) (d : ℕ) → Gap l r → d ≤ 3 ^ t
    → All (Within 1 3 (max (length l) (length r) + t)) (thirds_deep n l r d)
unfolding thirds_deep
thirds_deep_within zero t l r d g h = tt
thirds_deep_within (suc n) t l r zero g h = tt
thirds_deep_within (suc n) t l r (suc zero) g h = tt
thirds_deep_within (suc n) zero l r (suc (suc zero)) g h = absurd (omega arith)
thirds_deep_within (suc n) (suc t) l r (suc (suc zero)) g h =
    (record { formed = (between_inside l r g).shape; fits = omega (arith, between_length l r g) }, tt)
thirds_deep_within (suc n) zero l r (suc (suc (suc k))) g h = absurd (omega arith)
thirds_deep_within (suc n) (suc t) l r (suc (suc (suc k))) g h =
    let d = suc (suc (suc k)) in
    let c = cut_cuts l r g in
    let a = first l r in
    let b = second l r in
    let M = max (length l) (length r) + suc t in
    let p = c.lower_length in
    let q = c.upper_length in
    all_join (Within 1 3 M) (thirds_deep n l a (left_part d)) _ a
    (widen M (thirds_deep n l a (left_part d)) _ (omega arith) (thirds_deep_within n t l a (left_part d) c.left (omega arith)))
    (record { formed = c.lower_shape; fits = omega arith })
    (all_join (Within 1 3 M) (thirds_deep n a b (middle_part d)) _ b
    (widen M (thirds_deep n a b (middle_part d)) _ (omega arith) (thirds_deep_within n t a b (middle_part d) c.middle (omega arith)))
    (record { formed = c.upper_shape; fits = omega arith })
    (widen M (thirds_deep n b r (right_part d)) _ (omega arith) (thirds_deep_within n t b r (right_part d) c.right (omega arith))))
  where
    widen : (M : ℕ) (xs : List Digits) (m : ℕ) → m ≤ M → All (Within 1 3 m) xs → All (Within 1 3 M) xs
    widen M xs m k =
        all_map (Within 1 3 m) (Within 1 3 M) (λ x w. record { formed = w.formed; fits = omega (arith, w.fits) }) xs

-- as many codes as numbers lie strictly inside
thirds_deep_length : (n : ℕ) (l r : Digits) (d : ℕ) → 1 ≤ d → d ≤ n → length (thirds_deep n l r d) + 1 ≡ d
unfolding thirds_deep
thirds_deep_length zero l r d h k = absurd (omega arith)
thirds_deep_length (suc n) l r zero h k = absurd (omega arith)
thirds_deep_length (suc n) l r (suc zero) h k = refl
thirds_deep_length (suc n) l r (suc (suc zero)) h k = refl
thirds_deep_length (suc n) l r (suc (suc (suc i))) h k =
    let d = suc (suc (suc i)) in
    let p = parts d (omega arith) in
    let a = thirds_deep_length n l (first l r) (left_part d) p.left (omega arith) in
    let b = thirds_deep_length n (first l r) (second l r) (middle_part d) p.middle (omega arith) in
    let c = thirds_deep_length n (second l r) r (right_part d) p.right (omega arith) in
    simp length-append (omega arith)

-- any two depths of at least the width give the same codes
thirds_deep_enough : (n m : ℕ) (l r : Digits) (d : ℕ) → d ≤ n → d ≤ m → thirds_deep n l r d ≡ thirds_deep m l r d
unfolding thirds_deep
thirds_deep_enough zero zero l r d h k = refl
thirds_deep_enough zero (suc m) l r zero h k = refl
thirds_deep_enough zero (suc m) l r (suc d) h k = absurd (omega arith)
thirds_deep_enough (suc n) zero l r zero h k = refl
thirds_deep_enough (suc n) zero l r (suc d) h k = absurd (omega arith)
thirds_deep_enough (suc n) (suc m) l r zero h k = refl
thirds_deep_enough (suc n) (suc m) l r (suc zero) h k = refl
thirds_deep_enough (suc n) (suc m) l r (suc (suc zero)) h k = refl
thirds_deep_enough (suc n) (suc m) l r (suc (suc (suc i))) h k =
    let d = suc (suc (suc i)) in
    let a = thirds_deep_enough n m l (first l r) (left_part d) (omega arith) (omega arith) in
    let b = thirds_deep_enough n m (first l r) (second l r) (middle_part d) (omega arith) (omega arith) in
    let c = thirds_deep_enough n m (second l r) r (right_part d) (omega arith) (omega arith) in
    cc (a, b, c)

-- the same laws without a depth
pub thirds_rising : (l r : Digits) (d : ℕ) → Gap l r → Rising l (thirds l r d) r
thirds_rising l r d = thirds_deep_rising d l r d

pub thirds_within : (t : ℕ) (l r : Digits) (d : ℕ) → Gap l r → d ≤ 3 ^ t → All (Within 1 3 (max (length l) (length r) + t)) (thirds l r d)
thirds_within t l r d = thirds_deep_within d t l r d

pub thirds_length : (l r : Digits) (d : ℕ) → 1 ≤ d → length (thirds l r d) + 1 ≡ d
thirds_length l r d h = thirds_deep_length d l r d h (omega arith)

-- 01, first labelling, d = 1 and d = 2
pub thirds_none : (l r : Digits) → thirds l r 1 ≡ []
unfolding thirds_deep
thirds_none l r = refl

pub thirds_one : (l r : Digits) → thirds l r 2 ≡ between l r ∷ []
unfolding thirds_deep
thirds_one l r = refl

-- 01, first labelling, d of 3 or more
pub thirds_step : (l r : Digits) (d : ℕ) → 3 ≤ d
    → thirds l r d
    ≡ thirds l (first l r) (left_part d)
    ++ (first l r ∷ (thirds (first l r) (second l r) (middle_part d) ++ (second l r ∷ thirds (second l r) r (right_part d))))
unfolding thirds_deep
thirds_step l r zero h = absurd (omega arith)
thirds_step l r (suc zero) h = absurd (omega arith)
thirds_step l r (suc (suc zero)) h = absurd (omega arith)
thirds_step l r (suc (suc (suc k))) h =
    let d = suc (suc (suc k)) in
    let a = thirds_deep_enough (suc (suc k)) (left_part d) l (first l r) (left_part d) (omega arith) (omega arith) in
    let b = thirds_deep_enough (suc (suc k)) (middle_part d) (first l r) (second l r) (middle_part d) (omega arith) (omega arith) in
    let c = thirds_deep_enough (suc (suc k)) (right_part d) (second l r) r (right_part d) (omega arith) (omega arith) in
    cc (a, b, c)

-- demand 3: the first codes of n numbers have at most m digits, with m the least whose power of 3 is above n
pub first_within : (n m : ℕ) → Enough 3 n m → All (Within 1 3 m) (thirds [] [] (suc n))
first_within n m e = rw zero-add at (thirds_within m [] [] (suc n) open_gap e.above)

-- 01, first labelling, "the right one then ends in 2": from open sides on, a longer right code always does
pub record Room (l r : Digits) : Type 0 where
  pub gap : Gap l r
  pub two : length l < length r → EndsTwo r

pub record Rooms (l r a b : Digits) : Type 0 where
  pub left : Room l a
  pub middle : Room a b
  pub right : Room b r

lowered_two : (r : Digits) → EndsTwo r → EndsTwo (remade lower r)
lowered_two [] e = e
lowered_two (d ∷ []) e = rw e refl
lowered_two (d ∷ c ∷ []) e = rw e refl
lowered_two (d ∷ c ∷ b ∷ x) e = lowered_two (c ∷ b ∷ x) e

lowered_longer : (r : Digits) → EndsTwo r → (length (remade lower r) ≡ suc (length r)) × (length (remade lower_less r) ≡ suc (length r))
lowered_longer [] e = absurd e
lowered_longer (d ∷ []) e = rw e (refl, refl)
lowered_longer (d ∷ c ∷ x) e = let p = lowered_longer (c ∷ x) e in (ap suc p.0, ap suc p.1)

rooms_left : (l r : Digits) → length r ≤ length l → Cut l r (l ++ (2 ∷ [])) (l ++ (3 ∷ [])) → Rooms l r (l ++ (2 ∷ [])) (l ++ (3 ∷ []))
rooms_left l r h c =
    let n = length-append l (2 ∷ []) in
    let m = length-append l (3 ∷ []) in
    record {
      left = record { gap = c.left; two = λ _. ends_two_append l };
      middle = record { gap = c.middle; two = λ k. absurd (omega arith) };
      right = record { gap = c.right; two = λ k. absurd (omega arith) };
    }

rooms_at : (l r : Digits) (o : Ordering) → Compared (length l) (length r) o → Room l r → Cut l r (first_at o l r) (second_at o l r)
    → Rooms l r (first_at o l r) (second_at o l r)
rooms_at l r Ordering.lt (lt h) g c =
    let e = g.two h in
    let n = lowered_longer r e in
    record {
      left = record { gap = c.left; two = λ _. lowered_two r e };
      middle = record { gap = c.middle; two = λ k. absurd (omega arith) };
      right = record { gap = c.right; two = λ k. absurd (omega arith) };
    }
rooms_at l r Ordering.eq (eq h) g c = rooms_left l r (omega arith) c
rooms_at l r Ordering.gt (gt h) g c = rooms_left l r (omega arith) c

pub cut_rooms : (l r : Digits) → Room l r → Rooms l r (first l r) (second l r)
cut_rooms l r g = rooms_at l r (compare (length l) (length r)) (compared (length l) (length r)) g (cut_cuts l r g.gap)
