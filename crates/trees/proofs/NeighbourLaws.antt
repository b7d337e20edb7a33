-- Laws of gaps along the tour: what is put in between its neighbours keeps a labelled forest sound, what is taken out too.
-- Assumes nothing.
use mathlib.Core.Path.{◌≡◌, refl, sym, ap, ◌∙◌, subst}
use mathlib.Core.Logic.{◌⊎◌, inl, inr}
use mathlib.Core.List.{List, [], ◌∷◌, ◌++◌, append-nil, append_assoc}
use Prim.Native.Nat.{ℕ, suc, ◌-◌, ◌≤◌, ◌<◌}
use native.Mathlib.Omega.{arith}
use lib.ListN.{length}
use Rattle.digits.specs.Lists.{All}
use Rattle.digits.specs.Order.{Digits, Below}
use Rattle.digits.specs.Code.{Formed, Within, Side, Under, Rising}
use Rattle.digits.specs.Between.{Gap, Pair, start_of, end_of}
use Rattle.digits.proofs.ListLaws.{all_map, all_part}
use Rattle.digits.proofs.OrderLaws.{below_trans, below_some}
use Rattle.digits.proofs.CodeLaws.{formed_side, below_under, under_trans, rising_join}
use Rattle.digits.proofs.BetweenLaws.{between_pair}
use Rattle.trees.specs.Forest.{Forest, nil, node}
use Rattle.trees.specs.Tour.{tour, Parents}
use Rattle.trees.specs.Labelled.{Entry, starts, ends, parents, codes, Sound}
use Rattle.trees.specs.Edit.{Spot, leaf, join, put, level_at}
use Rattle.trees.specs.Neighbours.{last_or, head_or, codes_ahead, codes_behind, left_of, right_of, parent_at, new_entry}
use Rattle.trees.proofs.ListLaws.{all_left, all_right, all_append}
use Rattle.trees.proofs.EditLaws.{Taken, height_put, height_cut}

-- the last of two lists, and the first
pub last_append : (l y : Digits) (xs ys : List Digits) → last_or l (xs ++ (y ∷ ys)) ≡ last_or y ys
last_append l y [] ys = refl
last_append l y (x ∷ xs) ys = last_append x y xs ys

pub head_append : (r y : Digits) (xs ys : List Digits) → head_or r (xs ++ (y ∷ ys)) ≡ head_or y xs
head_append r y [] ys = refl
head_append r y (x ∷ xs) ys = refl

module _ {A : Type 0} (st en : A → Digits) where
  tour_join : (f g : Forest A) → tour st en (join f g) ≡ tour st en f ++ tour st en g
  tour_join nil g = refl
  tour_join (node a c s) g =
      rw (tour_join s g) (ap (λ (l : List Digits). st a ∷ l) (sym (append_assoc (tour st en c) (en a ∷ tour st en s) (tour st en g))))

  -- the tour is cut at a gap, and the tour of what is put in stands there
  pub tour_spot : (f : Forest A) (q : Spot f) → tour st en f ≡ codes_ahead st en f q ++ codes_behind st en f q
  tour_spot nil q = refl
  tour_spot (node a c s) (inl q) = refl
  tour_spot (node a c s) (inr (inl q)) =
      rw (tour_spot c q)
      (ap (λ (l : List Digits). st a ∷ l) (append_assoc (codes_ahead st en c q) (codes_behind st en c q) (en a ∷ tour st en s)))
  tour_spot (node a c s) (inr (inr q)) =
      rw (tour_spot s q)
      (ap (λ (l : List Digits). st a ∷ l) (sym (append_assoc (tour st en c) (en a ∷ codes_ahead st en s q) (codes_behind st en s q))))

  pub tour_put : (g f : Forest A) (q : Spot f)
      → tour st en (put g f q) ≡ codes_ahead st en f q ++ (tour st en g ++ codes_behind st en f q)
  tour_put g nil q = sym (append-nil (tour st en g))
  tour_put g (node a c s) (inl q) = tour_join g (node a c s)
  tour_put g (node a c s) (inr (inl q)) =
      rw (tour_put g c q)
      (ap (λ (l : List Digits). st a ∷ l)
      (append_assoc (codes_ahead st en c q) (tour st en g ++ codes_behind st en c q) (en a ∷ tour st en s)
      ∙ ap (λ (l : List Digits). codes_ahead st en c q ++ l) (append_assoc (tour st en g) (codes_behind st en c q) (en a ∷ tour st en s))))
  tour_put g (node a c s) (inr (inr q)) =
      rw (tour_put g s q)
      (ap (λ (l : List Digits). st a ∷ l)
      (sym (append_assoc (tour st en c) (en a ∷ codes_ahead st en s q) (tour st en g ++ codes_behind st en s q))))

-- a rising list put into a rising list, between two that stand next to each other, and taken out again
rising_front : (l r : Digits) (ys zs : List Digits) → Rising l zs r → Rising l ys (head_or r zs) → Rising l (ys ++ zs) r
rising_front l r ys [] h k = rw (append-nil ys) k
rising_front l r ys (z ∷ zs) h k = rising_join l z r ys zs (below_some l z h.0) k h.1

rising_put : (l r : Digits) (xs ys zs : List Digits) → Rising l (xs ++ zs) r → Rising (last_or l xs) ys (head_or r zs)
    → Rising l (xs ++ (ys ++ zs)) r
rising_put l r [] ys zs h k = rising_front l r ys zs h k
rising_put l r (x ∷ xs) ys zs h k = (h.0, rising_put x r xs ys zs h.1 k)

rising_lower : (l m r : Digits) (zs : List Digits) → Below l m → Rising m zs r → Rising l zs r
rising_lower l m r [] b h = under_trans l m r b h
rising_lower l m r (z ∷ zs) b h = (below_trans l m z b h.0, h.1)

rising_cut : (l r : Digits) (xs ys zs : List Digits) → Rising l (xs ++ (ys ++ zs)) r → Rising l (xs ++ zs) r
rising_cut l r [] [] zs h = h
rising_cut l r [] (y ∷ ys) zs h = rising_lower l y r zs h.0 (rising_cut y r [] ys zs h.1)
rising_cut l r (x ∷ xs) ys zs h = (h.0, rising_cut x r xs ys zs h.1)

-- the codes of a gap: its neighbours are in order
rising_gap : (l r : Digits) (xs zs : List Digits) → Rising l (xs ++ zs) r → Under (last_or l xs) (head_or r zs)
rising_gap l r [] [] h = h
rising_gap l r [] (z ∷ zs) h = below_under l z h.0
rising_gap l r (x ∷ xs) zs h = rising_gap x r xs zs h.1

module _ (P : Digits → Type 0) where
  last_all : (l : Digits) (xs : List Digits) → P l → All P xs → P (last_or l xs)
  last_all l [] p h = p
  last_all l (x ∷ xs) p h = last_all x xs h.0 h.1

  head_all : (r : Digits) (xs : List Digits) → P r → All P xs → P (head_or r xs)
  head_all r [] p h = p
  head_all r (x ∷ xs) p h = h.0

module _ {A : Type 0} where
  -- parent starts
  parents_join : (p : Digits) (g f : Forest (Entry A)) → Parents starts parents p g → Parents starts parents p f
      → Parents starts parents p (join g f)
  parents_join p nil f h i = i
  parents_join p (node u c s) f h i = (h.0, h.1, parents_join p s f h.2 i)

  join_parents : (p : Digits) (g f : Forest (Entry A)) → Parents starts parents p (join g f) → Parents starts parents p f
  join_parents p nil f h = h
  join_parents p (node u c s) f h = join_parents p s f h.2

  parents_put : (p : Digits) (g f : Forest (Entry A)) (q : Spot f) → Parents starts parents (parent_at p f q) g → Parents starts parents p f
      → Parents starts parents p (put g f q)
  parents_put p g nil q h i = h
  parents_put p g (node u c s) (inl q) h i = parents_join p g (node u c s) h i
  parents_put p g (node u c s) (inr (inl q)) h i = (i.0, parents_put u.start g c q h i.1, i.2)
  parents_put p g (node u c s) (inr (inr q)) h i = (i.0, i.1, parents_put p g s q h i.2)

  parents_cut : (p : Digits) (g f : Forest (Entry A)) (q : Spot f) → Parents starts parents p (put g f q) → Parents starts parents p f
  parents_cut p g nil q h = tt
  parents_cut p g (node u c s) (inl q) h = join_parents p g (node u c s) h
  parents_cut p g (node u c s) (inr (inl q)) h = (h.0, parents_cut u.start g c q h.1, h.2)
  parents_cut p g (node u c s) (inr (inr q)) h = (h.0, h.1, parents_cut p g s q h.2)

  -- the parent start of what is put in is one of the codes, or the forest's own
  module _ (P : Digits → Type 0) where
    pub parent_in : (p : Digits) (f : Forest (Entry A)) (q : Spot f) → (level_at f q ≡ 0 → P p) → All P (codes f) → P (parent_at p f q)
    parent_in p nil q i a = i refl
    parent_in p (node u c s) (inl q) i a = i refl
    parent_in p (node u c s) (inr (inl q)) i a =
        parent_in u.start c q (λ _. a.0) (all_part P (codes c) (codes s) u.end a.1).0
    parent_in p (node u c s) (inr (inr q)) i a = parent_in p s q i (all_part P (codes c) (codes s) u.end a.1).2

  module _ (Code : Digits → Type 0) (k : ℕ) (g f : Forest (Entry A)) (q : Spot f) where
    abbrev front : List Digits
    front = codes_ahead starts ends f q

    abbrev back : List Digits
    back = codes_behind starts ends f q

    -- a sound row put in between the neighbours of a gap keeps the forest sound
    pub sound_put : Sound Code (k - level_at f q) (parent_at [] f q) (left_of starts ends f q) (right_of starts ends f q) g
        → Sound Code k [] [] [] f → Sound Code k [] [] [] (put g f q)
    sound_put n h =
        let c = subst (All Code) (tour_spot starts ends f q) h.coded in
        record {
          rising = rw (tour_put starts ends g f q)
              (rising_put [] [] front (codes g) back (subst (λ (xs : List Digits). Rising [] xs []) (tour_spot starts ends f q) h.rising)
              n.rising);
          coded = rw (tour_put starts ends g f q)
              (all_append Code front (codes g ++ back) (all_left Code front back c)
              (all_append Code (codes g) back n.coded (all_right Code front back c)));
          parented = parents_put [] g f q n.parented h.parented;
          height = height_put k g f q n.height h.height;
        }

    -- a row taken out leaves it sound
    pub sound_cut : Sound Code k [] [] [] (put g f q) → Sound Code k [] [] [] f
    sound_cut h =
        let c = subst (All Code) (tour_put starts ends g f q) h.coded in
        record {
          rising = rw (tour_spot starts ends f q)
              (rising_cut [] [] front (codes g) back
              (subst (λ (xs : List Digits). Rising [] xs []) (tour_put starts ends g f q) h.rising));
          coded = rw (tour_spot starts ends f q)
              (all_append Code front back (all_left Code front (codes g ++ back) c)
              (all_right Code (codes g) back (all_right Code front (codes g ++ back) c)));
          parented = parents_cut [] g f q h.parented;
          height = height_cut k g f q h.height;
        }

  -- what is left when a leaf is taken out of a sound forest
  pub sound_rest : (Code : Digits → Type 0) (k i : ℕ) (f : Forest (Entry A)) (t : Taken i f) → Sound Code k [] [] [] f
      → Sound Code k [] [] [] t.rest
  sound_rest Code k i f t h =
      sound_cut Code k (leaf t.entry) t.rest t.spot (subst (Sound Code k [] [] []) (sym t.put_back) h)

  -- the neighbours of a gap of a sound forest
  module _ (m k : ℕ) (f : Forest (Entry A)) (q : Spot f) (h : Sound (Within 1 3 m) k [] [] [] f) where
    abbrev L : Digits
    L = left_of starts ends f q

    abbrev R : Digits
    R = right_of starts ends f q

    coded_spot : All (Within 1 3 m) (codes_ahead starts ends f q ++ codes_behind starts ends f q)
    coded_spot = subst (All (Within 1 3 m)) (tour_spot starts ends f q) h.coded

    side_within : (x : Digits) → (x ≡ []) ⊎ Within 1 3 m x → Side 1 3 x × (length x ≤ m)
    side_within x (inl e) = rw e (tt, omega arith)
    side_within x (inr w) = (formed_side 1 3 x w.formed, w.fits)

    left_side : Side 1 3 L × (length L ≤ m)
    left_side =
        let xs = codes_ahead starts ends f q in
        side_within L (last_all (λ x. (x ≡ []) ⊎ Within 1 3 m x) [] xs (inl refl)
        (all_map (Within 1 3 m) (λ x. (x ≡ []) ⊎ Within 1 3 m x) (λ x w. inr w) xs
        (all_left (Within 1 3 m) xs (codes_behind starts ends f q) coded_spot)))

    right_side : Side 1 3 R × (length R ≤ m)
    right_side =
        let xs = codes_behind starts ends f q in
        side_within R (head_all (λ x. (x ≡ []) ⊎ Within 1 3 m x) [] xs (inl refl)
        (all_map (Within 1 3 m) (λ x. (x ≡ []) ⊎ Within 1 3 m x) (λ x w. inr w) xs
        (all_right (Within 1 3 m) (codes_ahead starts ends f q) xs coded_spot)))

    spot_gap : Gap L R
    spot_gap = record {
      left = left_side.0;
      right = right_side.0;
      order = rising_gap [] [] (codes_ahead starts ends f q) (codes_behind starts ends f q)
          (subst (λ (xs : List Digits). Rising [] xs []) (tour_spot starts ends f q) h.rising);
    }

    spot_pair : Pair L R (start_of L R) (end_of L R)
    spot_pair = between_pair L R spot_gap

    -- the new codes have the form of codes
    pub new_formed : (a : A) → Formed 1 3 (new_entry a f q).start × Formed 1 3 (new_entry a f q).end
    new_formed a = let p = spot_pair in (p.first.shape, p.second.shape)

    -- demand 3: the longest code grows by at most one digit
    pub new_length : (a : A) → (length (new_entry a f q).start ≤ suc m) × (length (new_entry a f q).end ≤ suc m)
    new_length a =
        let p = spot_pair in
        let x = left_side.1 in
        let y = right_side.1 in
        (omega (arith, p.first_length), omega (arith, p.second_length))

    -- 01, Edit: the new entry keeps the tree sound, where its codes are no longer than a code may be
    pub inserted_sound : (a : A) (t : ℕ) → m ≤ t → level_at f q < k → length (new_entry a f q).start ≤ t → length (new_entry a f q).end ≤ t
        → Sound (Within 1 3 t) k [] [] [] (put (leaf (new_entry a f q)) f q)
    inserted_sound a t n d i j =
        let p = spot_pair in
        let z : 0 < k - level_at f q = omega arith in
        sound_put (Within 1 3 t) k (leaf (new_entry a f q)) f q
        (record {
          rising = (p.first.above, (p.second.above, p.second.under));
          coded = (record { formed = p.first.shape; fits = i }, (record { formed = p.second.shape; fits = j }, tt));
          parented = (refl, tt, tt);
          height = (z, tt, tt);
        })
        (record {
          rising = h.rising;
          coded = all_map (Within 1 3 m) (Within 1 3 t) (λ x w. record { formed = w.formed; fits = omega (arith, w.fits) }) (codes f)
              h.coded;
          parented = h.parented;
          height = h.height;
        })
