-- Laws of a gap that is cut in three: the codes of its parts, and the walk along them. Assumes nothing.
use mathlib.Core.Path.{◌≡◌, refl, sym, ap, ◌∙◌, subst}
use mathlib.Core.List.{List, [], ◌∷◌, ◌++◌}
use Prim.Native.Nat.{ℕ, zero, suc, ◌+◌, ◌-◌, ◌*◌, ◌/◌, ◌≤◌, ◌<◌}
use native.Mathlib.Omega.{arith}
use lib.ListN.{length}
use Rattle.digits.specs.Lists.{All}
use Rattle.digits.specs.Order.{Digits}
use Rattle.digits.specs.Between.{between}
use Rattle.digits.specs.Thirds.{first, second, left_part, middle_part, right_part, thirds_deep, thirds}
use Rattle.digits.proofs.ListLaws.{all_part}
use Rattle.digits.proofs.ThirdsLaws.{thirds_one, thirds_step}
use Rattle.codes.specs.Code.{IsCode}
use Rattle.codes.specs.Spread.{digits_of, Held, Short}
use Rattle.codes.specs.declared.spread.Code.{Code}
use Rattle.tables.specs.Walk.{Walk, stepped, walked}
use Rattle.tables.proofs.WalkLaws.{walked_cut}

-- a code that was made has no more digits than a code has
pub held_short : (c : Code) (x : Digits) → Held c x → IsCode (digits_of c) → Short c
held_short c x h k = omega (arith, k.fits, h.count, ap length h.digits)

-- a gap with no number inside, and with one
pub walked_none : (t : List ℕ) (l r : Digits) (d : ℕ) (w : Walk) → d < 2 → w ≡ walked t (thirds l r d) w
unfolding thirds_deep
walked_none t l r zero w h = refl
walked_none t l r (suc zero) w h = refl
walked_none t l r (suc (suc d)) w h = absurd (omega arith)

pub thirds_two : (l r : Digits) (d : ℕ) → d ≡ 2 → thirds l r d ≡ between l r ∷ []
thirds_two l r d e = ap (thirds l r) e ∙ thirds_one l r

module _ (l r a b : Digits) (d : ℕ) (h : 3 ≤ d) (ea : a ≡ first l r) (eb : b ≡ second l r) where
  -- the codes of a gap are those of its parts and the two between
  pub parts_of : thirds l r d
      ≡ thirds l a (left_part d) ++ (a ∷ (thirds a b (middle_part d) ++ (b ∷ thirds b r (right_part d))))
  parts_of = rw (ea, eb) (thirds_step l r d h)

  pub record Coded : Type 0 where
    pub lower : All IsCode (thirds l a (left_part d))
    pub first_code : IsCode a
    pub middle : All IsCode (thirds a b (middle_part d))
    pub second_code : IsCode b
    pub upper : All IsCode (thirds b r (right_part d))

  pub coded : All IsCode (thirds l r d) → Coded
  coded k =
      let p = all_part IsCode (thirds l a (left_part d)) _ a (subst (All IsCode) parts_of k) in
      let q = all_part IsCode (thirds a b (middle_part d)) _ b p.2 in
      record { lower = p.0; first_code = p.1; middle = q.0; second_code = q.1; upper = q.2 }

  -- the walk along the gap is the walk along its parts
  pub walked_parts : (t : List ℕ) (w : Walk) → walked t (thirds l r d) w
      ≡ walked t (thirds b r (right_part d)) (stepped t b (walked t (thirds a b (middle_part d)) (stepped t a (walked t
      (thirds l a (left_part d)) w))))
  walked_parts t w =
      ap (λ xs. walked t xs w) parts_of ∙ walked_cut t (thirds l a (left_part d)) a _ w
      ∙ walked_cut t (thirds a b (middle_part d)) b (thirds b r (right_part d)) (stepped t a (walked t (thirds l a (left_part d)) w))

-- the same of codes that were made: what the calls in a gap ask for
module _ (l r a : Code) (d : ℕ) (ea : Held a (first (digits_of l) (digits_of r))) (k : All IsCode (thirds (digits_of l) (digits_of r) d))
    (h : 2 < d) where
  pub first_coded : IsCode (digits_of a)
  first_coded = (coded (digits_of l) (digits_of r) (digits_of a) (second (digits_of l) (digits_of r)) d h ea.digits refl k).first_code

  pub first_short : Short a
  first_short = held_short a _ ea first_coded

  pub lower_coded : All IsCode (thirds (digits_of l) (digits_of a) ((d + 1) / 3))
  lower_coded = (coded (digits_of l) (digits_of r) (digits_of a) (second (digits_of l) (digits_of r)) d h ea.digits refl k).lower

module _ (l r b : Code) (d : ℕ) (eb : Held b (second (digits_of l) (digits_of r))) (k : All IsCode (thirds (digits_of l) (digits_of r) d))
    (h : 2 < d) where
  pub second_coded : IsCode (digits_of b)
  second_coded = (coded (digits_of l) (digits_of r) (first (digits_of l) (digits_of r)) (digits_of b) d h refl eb.digits k).second_code

  pub second_short : Short b
  second_short = held_short b _ eb second_coded

  pub upper_coded : All IsCode (thirds (digits_of b) (digits_of r) (d - (2 * d + 1) / 3))
  upper_coded = (coded (digits_of l) (digits_of r) (first (digits_of l) (digits_of r)) (digits_of b) d h refl eb.digits k).upper

module _ (l r a b : Code) (d : ℕ) (ea : Held a (first (digits_of l) (digits_of r))) (eb : Held b (second (digits_of l) (digits_of r)))
    (h : 2 < d) where
  pub middle_coded : All IsCode (thirds (digits_of l) (digits_of r) d)
      → All IsCode (thirds (digits_of a) (digits_of b) ((2 * d + 1) / 3 - (d + 1) / 3))
  middle_coded k = (coded (digits_of l) (digits_of r) (digits_of a) (digits_of b) d h ea.digits eb.digits k).middle

  pub walked_thirds : (t : List ℕ) (w : Walk) → walked t (thirds (digits_of l) (digits_of r) d) w
      ≡ walked t (thirds (digits_of b) (digits_of r) (d - (2 * d + 1) / 3)) (stepped t (digits_of b)
      (walked t (thirds (digits_of a) (digits_of b) ((2 * d + 1) / 3 - (d + 1) / 3)) (stepped t (digits_of a)
      (walked t (thirds (digits_of l) (digits_of a) ((d + 1) / 3)) w))))
  walked_thirds t w = walked_parts (digits_of l) (digits_of r) (digits_of a) (digits_of b) d h ea.digits eb.digits t w

-- a gap with one number inside
module _ (l r c : Code) (d : ℕ) (e : Held c (between (digits_of l) (digits_of r))) (two : d ≡ 2) where
  pub middle_is_code : All IsCode (thirds (digits_of l) (digits_of r) d) → IsCode (digits_of c)
  middle_is_code k = subst IsCode (sym e.digits) (subst (All IsCode) (thirds_two _ _ d two) k).0

  pub walked_two : (t : List ℕ) (w : Walk) → walked t (thirds (digits_of l) (digits_of r) d) w ≡ stepped t (digits_of c) w
  walked_two t w = rw (thirds_two (digits_of l) (digits_of r) d two, e.digits) refl

pub ruleset gaps = (
  walked_none,
  middle_is_code,
  walked_two,
  first_short,
  second_short,
  first_coded,
  second_coded,
  lower_coded,
  middle_coded,
  upper_coded,
  walked_thirds,
)
