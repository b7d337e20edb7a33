-- The first labelling: a gap is cut in three by two codes, and each part is then coded in the same way.
-- Assumes nothing.
use Rattle.std.specs.Prelude.{cond, List, [], ◌∷◌, ◌++◌, eqb, length}
use Prim.Native.Nat.{ℕ, zero, suc, ◌+◌, ◌-◌, ◌*◌, ◌/◌, compare, Ordering}
use Rattle.digits.specs.Order.{Digits}
use Rattle.digits.specs.Between.{remade, lower, between}

-- the upper of the two codes made of a longer right code: 01, its 2 made 13; 02, L5, its 3 made 23. The lower one is `lower`'s
abbrev pub lower_less : ℕ → Digits
lower_less d = cond (eqb d 2) (1 ∷ 3 ∷ []) (2 ∷ 3 ∷ [])

-- 01, first labelling: the left code shorter, the right one remade; else the left one followed by 2 and by 3
abbrev pub first_at : Ordering → Digits → Digits → Digits
first_at Ordering.lt l r = remade lower r
first_at Ordering.eq l r = l ++ (2 ∷ [])
first_at Ordering.gt l r = l ++ (2 ∷ [])

abbrev pub second_at : Ordering → Digits → Digits → Digits
second_at Ordering.lt l r = remade lower_less r
second_at Ordering.eq l r = l ++ (3 ∷ [])
second_at Ordering.gt l r = l ++ (3 ∷ [])

-- the two codes of a cut
abbrev pub first : Digits → Digits → Digits
first l r = first_at (compare (length l) (length r)) l r

abbrev pub second : Digits → Digits → Digits
second l r = second_at (compare (length l) (length r)) l r

-- 01, first labelling: the two codes stand at (d + 1) div 3 and (2d + 1) div 3; the widths of the three parts
abbrev pub left_part : ℕ → ℕ
left_part d = (d + 1) / 3

abbrev pub middle_part : ℕ → ℕ
middle_part d = (2 * d + 1) / 3 - (d + 1) / 3

abbrev pub right_part : ℕ → ℕ
right_part d = d - (2 * d + 1) / 3

-- the codes inside a gap of width d, cut at most n deep
unfoldable pub thirds_deep : ℕ → Digits → Digits → ℕ → List Digits
thirds_deep zero l r d = []
thirds_deep (suc n) l r zero = []
thirds_deep (suc n) l r (suc zero) = []
thirds_deep (suc n) l r (suc (suc zero)) = between l r ∷ []
thirds_deep (suc n) l r (suc (suc (suc k))) =
    let d = suc (suc (suc k)) in
    let a = first l r in
    let b = second l r in
    thirds_deep n l a (left_part d) ++ (a ∷ (thirds_deep n a b (middle_part d) ++ (b ∷ thirds_deep n b r (right_part d))))

-- 01, first labelling: the codes of the numbers strictly inside a gap of width d. Each part is narrower than its gap, so d cuts are enough
abbrev pub thirds : Digits → Digits → ℕ → List Digits
thirds l r d = thirds_deep d l r d
