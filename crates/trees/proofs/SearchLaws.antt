-- Laws of the search for a neighbour: along a rising tour it finds the other neighbour, the starts below the right one are those
-- before the place, and a leaf is the last to start below its end.
-- Assumes nothing.
use mathlib.Core.Path.{◌≡◌, refl, sym, ap, ◌∙◌, subst}
use mathlib.Core.Logic.{◌⊎◌, inl, inr}
use mathlib.Core.Bool.{Bool, true, false, cond, ◌&&◌, and-false}
use mathlib.Core.List.{List, [], ◌∷◌, ◌++◌}
use Prim.Native.Nat.{ℕ, suc, ◌+◌, ◌<◌}
use native.Mathlib.Omega.{arith}
use lib.Dec.{eqb}
use lib.ListN.{length, get_or, length-append}
use borrow.Author.Tests.{eqb-true, eqb-false, eq-eqb, ne_eqb}
use Rattle.digits.specs.Lists.{All}
use Rattle.digits.specs.Order.{Digits, Below}
use Rattle.digits.specs.Code.{Rising}
use Rattle.digits.proofs.ListLaws.{all_map, all_part}
use Rattle.digits.proofs.OrderLaws.{below_irrefl, below_asym, is_below_true, is_below_false}
use Rattle.trees.specs.Lists.{Member, Pairs}
use Rattle.trees.specs.Forest.{Forest, nil, node, size, preorder, Rooted}
use Rattle.trees.specs.Labelled.{Entry, starts, ends, codes}
use Rattle.trees.specs.Edit.{last_child, Spot, ahead, behind, level_at, end_spot, spot_of, is_nothing, is_leaf}
use Rattle.trees.specs.Neighbours.{last_or, head_or, codes_ahead, codes_behind, left_of, right_of}
use Rattle.trees.specs.Search.{is_toward, closer, outermost, nearest, leading}
use Rattle.trees.proofs.ListLaws.{all_append, all_gives, pairs_left, pairs_right, pairs_cross, member_left, member_right, member_append}
use Rattle.trees.proofs.ForestLaws.{length_preorder}
use Rattle.trees.proofs.TourLaws.{rising_pairs}
use Rattle.trees.proofs.EditLaws.{number_cases, spot_down, spot_on, leaf_down, leaf_on, order_spot}
use Rattle.trees.proofs.NeighbourLaws.{last_append, tour_spot}
use Rattle.trees.proofs.PlaceLaws.{Own}

-- the neighbour that lies upward, or downward
abbrev pub other : Bool → Digits → Digits → Digits
other up l r = cond up r l

-- x is before y, going upward or downward
abbrev Toward : Bool → Digits → Digits → Type 0
Toward true x y = Below x y
Toward false x y = Below y x

toward_asym : (up : Bool) (x y : Digits) → Toward up x y → Toward up y x → ⊥
toward_asym true x y h k = below_asym x y h k
toward_asym false x y h k = below_asym y x h k

toward_true : (up : Bool) (x y : Digits) → Toward up x y → is_toward up x y ≡ true
toward_true true x y h = is_below_true x y h
toward_true false x y h = is_below_true y x h

toward_false : (up : Bool) (x y : Digits) → (Toward up x y → ⊥) → is_toward up x y ≡ false
toward_false true x y h = is_below_false x y h
toward_false false x y h = is_below_false y x h

-- z is the nearest to x of all that are as y is
abbrev Nearest : Bool → Digits → Digits → Digits → Type 0
Nearest up x z y = (z ≡ y) ⊎ ((Toward up z y) ⊎ (Toward up x y → ⊥))

-- no nearer than z
abbrev Far : Bool → Digits → Digits → Type 0
Far up z y = (z ≡ y) ⊎ Toward up z y

-- z is a code of one of the entries
abbrev Among : {A : Type 0} → Digits → List (Entry A) → Type 0
Among z [] = ⊥
Among z (u ∷ us) = (z ≡ u.start) ⊎ ((z ≡ u.end) ⊎ Among z us)

module _ (up : Bool) (x z : Digits) (near : Toward up x z) where
  kept : (best y : Digits) → is_toward up x y && is_toward up y best ≡ false → closer up x best y ≡ best
  kept best y e = rw e refl

  -- one step keeps what is no nearer than z, and finds z
  closer_far : (best y : Digits) → Far up z best → Nearest up x z y → Far up z (closer up x best y)
  closer_far best y h (inl e) = go (is_toward up x y && is_toward up y best)
    where
      go : (t : Bool) → Far up z (cond t y best)
      go true = inl e
      go false = h
  closer_far best y h (inr (inl k)) = go (is_toward up x y && is_toward up y best)
    where
      go : (t : Bool) → Far up z (cond t y best)
      go true = inr k
      go false = h
  closer_far best y h (inr (inr k)) = subst (Far up z) (sym (kept best y (rw (toward_false up x y k) refl))) h

  closer_stays : (y : Digits) → Nearest up x z y → closer up x z y ≡ z
  closer_stays y (inl e) = rw (sym e) (same (is_toward up x z && is_toward up z z))
    where
      same : (t : Bool) → cond t z z ≡ z
      same true = refl
      same false = refl
  closer_stays y (inr (inl k)) =
      kept z y (rw (toward_false up y z (λ h. toward_asym up z y k h)) (and-false (is_toward up x y)))
  closer_stays y (inr (inr k)) = kept z y (rw (toward_false up x y k) refl)

  closer_finds : (best : Digits) → Far up z best → closer up x best z ≡ z
  closer_finds best (inl e) = rw (sym e) (closer_stays z (inl refl))
  closer_finds best (inr k) = rw (toward_true up x z near, toward_true up z best k) refl

  module _ {A : Type 0} where
    nearest_stays : (us : List (Entry A)) → All (λ u. Nearest up x z u.start × Nearest up x z u.end) us → nearest up x z us ≡ z
    nearest_stays [] h = refl
    nearest_stays (u ∷ us) h =
        rw (closer_stays u.start h.0.0, closer_stays u.end h.0.1) (nearest_stays us h.1)

    nearest_is : (best : Digits) (us : List (Entry A)) → Far up z best
        → All (λ u. Nearest up x z u.start × Nearest up x z u.end) us → Among z us → nearest up x best us ≡ z
    nearest_is best [] b h m = absurd m
    nearest_is best (u ∷ us) b h (inl e) =
        rw (sym e, closer_finds best b, closer_stays u.end h.0.1) (nearest_stays us h.1)
    nearest_is best (u ∷ us) b h (inr (inl e)) =
        rw (sym e, closer_finds (closer up x best u.start) (closer_far best u.start b h.0.0)) (nearest_stays us h.1)
    nearest_is best (u ∷ us) b h (inr (inr m)) =
        nearest_is (closer up x (closer up x best u.start) u.end) us
        (closer_far (closer up x best u.start) u.end (closer_far best u.start b h.0.0) h.0.1) h.1 m

-- what is not below, and not above
not_below : (x y : Digits) → (x ≡ y) ⊎ Below x y → Below y x → ⊥
not_below x y (inl e) b = below_irrefl y (subst (Below y) e b)
not_below x y (inr a) b = below_asym x y a b

not_above : (x y : Digits) → (y ≡ x) ⊎ Below y x → Below x y → ⊥
not_above x y (inl e) b = below_irrefl x (subst (Below x) e b)
not_above x y (inr a) b = below_asym y x a b

-- the first and the last of a rising list
last_member : (l x : Digits) (xs : List Digits) → Member (last_or l (x ∷ xs)) (x ∷ xs)
last_member l x [] = inl refl
last_member l x (y ∷ xs) = inr (last_member x y xs)

head_member : (r y : Digits) (xs ys : List Digits) → Member (head_or r (xs ++ (y ∷ ys))) (xs ++ (y ∷ ys))
head_member r y [] ys = inl refl
head_member r y (x ∷ xs) ys = inl refl

last_most : (l : Digits) (xs : List Digits) → Pairs Below xs → All (λ y. (y ≡ last_or l xs) ⊎ Below y (last_or l xs)) xs
last_most l [] h = tt
last_most l (x ∷ []) h = (inl refl, tt)
last_most l (x ∷ y ∷ xs) h = (inr (all_gives (Below x) (y ∷ xs) h.0 (last_or y xs) (last_member x y xs)), last_most x (y ∷ xs) h.1)

head_least : (r : Digits) (xs : List Digits) → Pairs Below xs → All (λ y. (head_or r xs ≡ y) ⊎ Below (head_or r xs) y) xs
head_least r [] h = tt
head_least r (x ∷ xs) h = (inl refl, all_map (Below x) (λ y. (x ≡ y) ⊎ Below x y) (λ y b. inr b) xs h.0)

module _ {A : Type 0} where
  -- what holds of the codes along the tour holds of each entry's
  pub both_all : (P : Digits → Type 0) (f : Forest (Entry A)) → All P (codes f) → All (λ u. P u.start × P u.end) (preorder f)
  both_all P nil h = tt
  both_all P (node u c s) h =
      let q = all_part P (codes c) (codes s) u.end h.1 in (
        (h.0, q.1),
        all_append (λ (v : Entry A). P v.start × P v.end) (preorder c) (preorder s) (both_all P c q.0)
            (both_all P s q.2),
      )

  pub starts_all : (P : Digits → Type 0) (f : Forest (Entry A)) → All P (codes f) → All (λ u. P u.start) (preorder f)
  starts_all P f h =
      all_map (λ (u : Entry A). P u.start × P u.end) (λ u. P u.start) (λ u b. b.0) (preorder f) (both_all P f h)

  among_left : (z : Digits) (us vs : List (Entry A)) → Among z us → Among z (us ++ vs)
  among_left z (u ∷ us) vs (inl e) = inl e
  among_left z (u ∷ us) vs (inr (inl e)) = inr (inl e)
  among_left z (u ∷ us) vs (inr (inr m)) = inr (inr (among_left z us vs m))
  among_left z [] vs m = absurd m

  among_right : (z : Digits) (us vs : List (Entry A)) → Among z vs → Among z (us ++ vs)
  among_right z [] vs m = m
  among_right z (u ∷ us) vs m = inr (inr (among_right z us vs m))

  tour_among : (z : Digits) (f : Forest (Entry A)) → Member z (codes f) → Among z (preorder f)
  tour_among z nil m = m
  tour_among z (node u c s) (inl e) = inl e
  tour_among z (node u c s) (inr m) = go (tour_among z c) (tour_among z s) (member_append (codes c) (u.end ∷ codes s) z m)
    where
      go : (Member z (codes c) → Among z (preorder c)) → (Member z (codes s) → Among z (preorder s))
          → Member z (codes c) ⊎ Member z (u.end ∷ codes s) → Among z (preorder (node u c s))
      go p q (inl k) = inr (inr (among_left z (preorder c) (preorder s) (p k)))
      go p q (inr (inl e)) = inr (inl e)
      go p q (inr (inr k)) = inr (inr (among_right z (preorder c) (preorder s) (q k)))

  -- a gap that lies under an entry has a code on each side
  inner_left : (l : Digits) (f : Forest (Entry A)) (q : Spot f) → 0 < level_at f q
      → Member (last_or l (codes_ahead starts ends f q)) (codes_ahead starts ends f q)
  inner_left l nil q h = absurd (omega arith)
  inner_left l (node u c s) (inl q) h = absurd (omega arith)
  inner_left l (node u c s) (inr (inl q)) h = last_member l u.start (codes_ahead starts ends c q)
  inner_left l (node u c s) (inr (inr q)) h = last_member l u.start (codes c ++ (u.end ∷ codes_ahead starts ends s q))

  inner_right : (r : Digits) (f : Forest (Entry A)) (q : Spot f) → 0 < level_at f q
      → Member (head_or r (codes_behind starts ends f q)) (codes_behind starts ends f q)
  inner_right r nil q h = absurd (omega arith)
  inner_right r (node u c s) (inl q) h = absurd (omega arith)
  inner_right r (node u c s) (inr (inl q)) h = head_member r u.end (codes_behind starts ends c q) (codes s)
  inner_right r (node u c s) (inr (inr q)) h = inner_right r s q h

  -- the starts of the entries before a gap, and behind it
  ahead_all : (P : Digits → Type 0) (g : Forest (Entry A)) (p : Spot g) → All P (codes_ahead starts ends g p)
      → All (λ (u : Entry A). P u.start) (ahead g p)
  ahead_all P nil p a = tt
  ahead_all P (node u c s) (inl p) a = tt
  ahead_all P (node u c s) (inr (inl p)) a = (a.0, ahead_all P c p a.1)
  ahead_all P (node u c s) (inr (inr p)) a =
      let b = all_part P (codes c) (codes_ahead starts ends s p) u.end a.1 in
      (a.0, all_append (λ (v : Entry A). P v.start) (preorder c) (ahead s p) (starts_all P c b.0) (ahead_all P s p b.2))

  behind_all : (P : Digits → Type 0) (g : Forest (Entry A)) (p : Spot g) → All P (codes_behind starts ends g p)
      → All (λ (u : Entry A). P u.start) (behind g p)
  behind_all P nil p a = tt
  behind_all P (node u c s) (inl p) a = starts_all P (node u c s) a
  behind_all P (node u c s) (inr (inl p)) a =
      let b = all_part P (codes_behind starts ends c p) (codes s) u.end a in
      all_append (λ (v : Entry A). P v.start) (behind c p) (preorder s) (behind_all P c p b.0) (starts_all P s b.2)
  behind_all P (node u c s) (inr (inr p)) a = behind_all P s p a

  -- how many start below r, of those that do and those that do not
  leading_none : (r : Digits) (us : List (Entry A)) → All (λ u. Below u.start r → ⊥) us → leading r us ≡ 0
  leading_none r [] a = refl
  leading_none r (u ∷ us) a = rw (is_below_false u.start r a.0) refl

  leading_parts : (r : Digits) (us vs : List (Entry A)) → All (λ u. Below u.start r) us → All (λ u. Below u.start r → ⊥) vs
      → leading r (us ++ vs) ≡ length us
  leading_parts r [] vs a b = leading_none r vs b
  leading_parts r (u ∷ us) vs a b = rw (is_below_true u.start r a.0) (ap suc (leading_parts r us vs a.1 b))

  -- the two sides of a gap under an entry of a forest whose codes rise
  module _ (f : Forest (Entry A)) (q : Spot f) (h : Rising [] (codes f) []) (k : 0 < level_at f q) where
    abbrev front : List Digits
    front = codes_ahead starts ends f q

    abbrev back : List Digits
    back = codes_behind starts ends f q

    abbrev L : Digits
    L = left_of starts ends f q

    abbrev R : Digits
    R = right_of starts ends f q

    pairs_spot : Pairs Below (front ++ back)
    pairs_spot = subst (Pairs Below) (tour_spot starts ends f q) (rising_pairs [] (codes f) [] h)

    in_front : Member L front
    in_front = inner_left [] f q k

    in_back : Member R back
    in_back = inner_right [] f q k

    before_back : All (λ y. Below y R) front
    before_back = all_map (λ y. All (Below y) back) (λ y. Below y R) (λ y a. all_gives (Below y) back a R in_back) front
        (pairs_cross Below front back pairs_spot)

    left_below_right : Below L R
    left_below_right = all_gives (λ y. Below y R) front before_back L in_front

    front_most : All (λ y. (y ≡ L) ⊎ Below y L) front
    front_most = last_most [] front (pairs_left Below front back pairs_spot)

    back_least : All (λ y. (R ≡ y) ⊎ Below R y) back
    back_least = head_least [] back (pairs_right Below front back pairs_spot)

    -- upward from the left neighbour the right one is the nearest code, and downward from the right one the left one
    upward : All (Nearest true L R) (front ++ back)
    upward =
        all_append (Nearest true L R) front back
        (all_map (λ y. (y ≡ L) ⊎ Below y L) (Nearest true L R) (λ y a. inr (inr (not_above L y a))) front front_most)
        (all_map (λ y. (R ≡ y) ⊎ Below R y) (Nearest true L R) (λ y a. at y a) back back_least)
      where
        at : (y : Digits) → (R ≡ y) ⊎ Below R y → Nearest true L R y
        at y (inl e) = inl e
        at y (inr b) = inr (inl b)

    downward : All (Nearest false R L) (front ++ back)
    downward =
        all_append (Nearest false R L) front back
        (all_map (λ y. (y ≡ L) ⊎ Below y L) (Nearest false R L) (λ y a. at y a) front front_most)
        (all_map (λ y. (R ≡ y) ⊎ Below R y) (Nearest false R L) (λ y a. inr (inr (not_below R y a))) back back_least)
      where
        at : (y : Digits) → (y ≡ L) ⊎ Below y L → Nearest false R L y
        at y (inl e) = inl (sym e)
        at y (inr b) = inr (inl b)

    -- 01, Edit: the entries before the place are those that start below the right neighbour
    pub leading_ahead : leading R (preorder f) ≡ length (ahead f q)
    leading_ahead =
        ap (leading R) (order_spot f q)
        ∙ leading_parts R (ahead f q) (behind f q) (ahead_all (λ y. Below y R) f q before_back)
        (behind_all (λ y. Below y R → ⊥) f q
        (all_map (λ y. (R ≡ y) ⊎ Below R y) (λ y. Below y R → ⊥) (λ y a. not_below R y a) back back_least))

    far_up : (e : Digits) → last_or [] (codes f) ≡ e → Far true R e
    far_up e i =
        all_gives (λ y. (y ≡ e) ⊎ Below y e) (front ++ back)
        (subst (λ (xs : List Digits). All (λ y. (y ≡ e) ⊎ Below y e) xs) (tour_spot starts ends f q)
        (subst (λ (z : Digits). All (λ y. (y ≡ z) ⊎ Below y z) (codes f)) i (last_most [] (codes f) (rising_pairs [] (codes f) [] h))))
        R (member_right front back R in_back)

    far_down : (e : Digits) → head_or [] (codes f) ≡ e → Far false L e
    far_down e i =
        turn (all_gives (λ y. (e ≡ y) ⊎ Below e y) (front ++ back)
        (subst (λ (xs : List Digits). All (λ y. (e ≡ y) ⊎ Below e y) xs) (tour_spot starts ends f q)
        (subst (λ (z : Digits). All (λ y. (z ≡ y) ⊎ Below z y) (codes f)) i (head_least [] (codes f) (rising_pairs [] (codes f) [] h))))
        L (member_left front back L in_front))
      where
        turn : (e ≡ L) ⊎ Below e L → Far false L e
        turn (inl j) = inl (sym j)
        turn (inr b) = inr b

    entries_near : (up : Bool) (x z : Digits) → All (Nearest up x z) (front ++ back)
        → All (λ (u : Entry A). Nearest up x z u.start × Nearest up x z u.end) (preorder f)
    entries_near up x z a = both_all (Nearest up x z) f (subst (All (Nearest up x z)) (sym (tour_spot starts ends f q)) a)

    among : (z : Digits) → Member z (front ++ back) → Among z (preorder f)
    among z m = tour_among z f (subst (Member z) (sym (tour_spot starts ends f q)) m)

    -- 01, Edit: the search from the target's own code finds the other neighbour
    found_up : (e : Digits) → last_or [] (codes f) ≡ e → nearest true L e (preorder f) ≡ R
    found_up e i =
        nearest_is true L R left_below_right e (preorder f) (far_up e i) (entries_near true L R upward)
        (among R (member_right front back R in_back))

    found_down : (e : Digits) → head_or [] (codes f) ≡ e → nearest false R e (preorder f) ≡ L
    found_down e i =
        nearest_is false R L left_below_right e (preorder f) (far_down e i) (entries_near false R L downward)
        (among L (member_left front back L in_front))

  last_root : (u : Entry A) (c : Forest (Entry A)) → last_or [] (codes (node u c nil)) ≡ u.end
  last_root u c = last_append u.start u.end (codes c) []

  pub neighbour_found : (up : Bool) (x : Digits) (f : Forest (Entry A)) (q : Spot f) (z : Entry A) → Rooted f → Rising [] (codes f) []
      → 0 < level_at f q → Own up x (left_of starts ends f q) (right_of starts ends f q)
      → nearest up x (outermost up (get_or (preorder f) 0 z)) (preorder f) ≡ other up (left_of starts ends f q) (right_of starts ends f q)
  neighbour_found up x nil q z r h k o = absurd r
  neighbour_found up x (node u c (node v d s)) q z r h k o = absurd r
  neighbour_found true x (node u c nil) q z r h k o = rw (sym o) (found_up (node u c nil) q h k u.end (last_root u c))
  neighbour_found false x (node u c nil) q z r h k o = rw (sym o) (found_down (node u c nil) q h k u.start refl)

eqb_same : (m n a b : ℕ) → (m ≡ n → a ≡ b) → (a ≡ b → m ≡ n) → eqb m n ≡ eqb a b
eqb_same m n a b f g = go (eqb a b) refl
  where
    go : (t : Bool) → eqb a b ≡ t → eqb m n ≡ t
    go true e = eq-eqb m n (g (eqb-true a b e))
    go false e = ne_eqb m n (λ z. eqb-false a b e (f z))

-- a leaf: of the entries that start below its end it is the last
module _ {A : Type 0} where
  end_ahead : (f : Forest A) → ahead f (end_spot f) ≡ preorder f
  end_ahead nil = refl
  end_ahead (node a c s) = rw (end_ahead s) refl

  leaf_here : (c : Forest A) → eqb (suc (length (preorder c))) 1 ≡ is_nothing c
  leaf_here nil = refl
  leaf_here (node a c s) = ne_eqb (suc (length (preorder (node a c s)))) 1 (λ e. omega arith)

  pub leaf_ahead : (f : Forest A) (i : ℕ) → i < size f → eqb (length (ahead f (spot_of last_child i f))) (suc i) ≡ is_leaf i f
  leaf_ahead =
      number_cases (λ f i. eqb (length (ahead f (spot_of last_child i f))) (suc i) ≡ is_leaf i f)
      (λ a c s. rw (end_ahead c) (leaf_here c))
      (λ a c s i h t. let n = length (ahead c (spot_of last_child i c)) in
      rw (spot_down a c s i h last_child, leaf_down a c s i h)
      (eqb_same (suc n) (suc (suc i)) n (suc i) (λ e. omega arith) (λ e. omega arith) ∙ t))
      (λ a c s i h t. let n = length (ahead s (spot_of last_child i s)) in
      let m = length (preorder c ++ ahead s (spot_of last_child i s)) in
      let k : m ≡ size c + n = length-append (preorder c) (ahead s (spot_of last_child i s)) ∙ ap (λ (j : ℕ). j + n) (length_preorder c) in
      rw (spot_on a c s i last_child, leaf_on a c s i)
      (eqb_same (suc m) (suc (suc (size c + i))) n (suc i) (λ e. omega arith) (λ e. omega arith) ∙ t))
