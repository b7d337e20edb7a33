-- Laws of lists that digits lacks: all and pairs of two lists joined, members, what stands earlier, distinct lists, seams.
-- Assumes nothing.
use mathlib.Core.Path.{◌≡◌, refl, sym, ap}
use mathlib.Core.Logic.{◌⊎◌, inl, inr, ◌≢◌}
use mathlib.Core.List.{List, [], ◌∷◌, ◌++◌, map, head-eq_of_cons-eq, tail-eq_of_cons-eq, nil≢cons, cons≢nil}
use Prim.Native.Nat.{ℕ, zero, suc, ◌<◌}
use native.Mathlib.Omega.{arith}
use lib.ListN.{length, get_or}
use Rattle.digits.specs.Lists.{All, Distinct}
use Rattle.digits.proofs.ListLaws.{all_map, all_part, all_join}
use Rattle.trees.specs.Lists.{Member, Earlier, Pairs}

module _ {A : Type 0} (P : A → Type 0) where
  pub all_left : (xs ys : List A) → All P (xs ++ ys) → All P xs
  all_left [] ys h = tt
  all_left (x ∷ xs) ys h = (h.0, all_left xs ys h.1)

  pub all_right : (xs ys : List A) → All P (xs ++ ys) → All P ys
  all_right [] ys h = h
  all_right (x ∷ xs) ys h = all_right xs ys h.1

  pub all_append : (xs ys : List A) → All P xs → All P ys → All P (xs ++ ys)
  all_append [] ys h k = k
  all_append (x ∷ xs) ys h k = (h.0, all_append xs ys h.1 k)

  pub all_gives : (xs : List A) → All P xs → (v : A) → Member v xs → P v
  all_gives [] h v m = absurd m
  all_gives (x ∷ xs) h v (inl e) = rw e h.0
  all_gives (x ∷ xs) h v (inr m) = all_gives xs h.1 v m

  pub gives_all : (xs : List A) → ((v : A) → Member v xs → P v) → All P xs
  gives_all [] h = tt
  gives_all (x ∷ xs) h = (h x (inl refl), gives_all xs (λ v m. h v (inr m)))

module _ {A : Type 0} (R : A → A → Type 0) where
  pub pairs_left : (xs ys : List A) → Pairs R (xs ++ ys) → Pairs R xs
  pairs_left [] ys h = tt
  pairs_left (x ∷ xs) ys h = (all_left (R x) xs ys h.0, pairs_left xs ys h.1)

  pub pairs_right : (xs ys : List A) → Pairs R (xs ++ ys) → Pairs R ys
  pairs_right [] ys h = h
  pairs_right (x ∷ xs) ys h = pairs_right xs ys h.1

  pub pairs_cross : (xs ys : List A) → Pairs R (xs ++ ys) → All (λ x. All (R x) ys) xs
  pairs_cross [] ys h = tt
  pairs_cross (x ∷ xs) ys h = (all_right (R x) xs ys h.0, pairs_cross xs ys h.1)

  pairs_append : (xs ys : List A) → Pairs R xs → Pairs R ys → All (λ x. All (R x) ys) xs → Pairs R (xs ++ ys)
  pairs_append [] ys h k c = k
  pairs_append (x ∷ xs) ys h k c = (all_append (R x) xs ys h.0 c.0, pairs_append xs ys h.1 k c.1)

  pub gives_pairs : (xs : List A) → ((u v : A) → Earlier u v xs → R u v) → Pairs R xs
  gives_pairs [] h = tt
  gives_pairs (x ∷ xs) h = (gives_all (R x) xs (λ v m. h x v (inl (refl, m))), gives_pairs xs (λ u v m. h u v (inr m)))

  pairs_gives : (xs : List A) → Pairs R xs → (u v : A) → Earlier u v xs → R u v
  pairs_gives [] h u v m = absurd m
  pairs_gives (x ∷ xs) h u v (inl (e, m)) = rw e (all_gives (R x) xs h.0 v m)
  pairs_gives (x ∷ xs) h u v (inr m) = pairs_gives xs h.1 u v m

  pub pairs_distinct : ((x : A) → R x x → ⊥) → (xs : List A) → Pairs R xs → Distinct xs
  pairs_distinct n [] h = tt
  pairs_distinct n (x ∷ xs) h =
      (all_map (R x) (λ y. x ≢ y) (λ y k e. n y (rw e at k)) xs h.0, pairs_distinct n xs h.1)

module _ {A : Type 0} where
  pub member_left : (xs ys : List A) (v : A) → Member v xs → Member v (xs ++ ys)
  member_left [] ys v m = absurd m
  member_left (x ∷ xs) ys v (inl e) = inl e
  member_left (x ∷ xs) ys v (inr m) = inr (member_left xs ys v m)

  pub member_right : (xs ys : List A) (v : A) → Member v ys → Member v (xs ++ ys)
  member_right [] ys v m = m
  member_right (x ∷ xs) ys v m = inr (member_right xs ys v m)

  pub member_append : (xs ys : List A) (v : A) → Member v (xs ++ ys) → Member v xs ⊎ Member v ys
  member_append [] ys v m = inr m
  member_append (x ∷ xs) ys v (inl e) = inl (inl e)
  member_append (x ∷ xs) ys v (inr m) = go (member_append xs ys v m)
    where
      go : Member v xs ⊎ Member v ys → Member v (x ∷ xs) ⊎ Member v ys
      go (inl k) = inl (inr k)
      go (inr k) = inr k

  -- the three ways in which u can stand before v in two lists joined
  abbrev pub EarlierIn : A → A → List A → List A → Type 0
  EarlierIn u v xs ys = (Member u xs × Member v ys) ⊎ (Earlier u v xs ⊎ Earlier u v ys)

  pub earlier_append : (xs ys : List A) (u v : A) → Earlier u v (xs ++ ys) → EarlierIn u v xs ys
  earlier_append [] ys u v h = inr (inr h)
  earlier_append (x ∷ xs) ys u v (inl (e, m)) = go (member_append xs ys v m)
    where
      go : Member v xs ⊎ Member v ys → EarlierIn u v (x ∷ xs) ys
      go (inl k) = inr (inl (inl (e, k)))
      go (inr k) = inl (inl e, k)
  earlier_append (x ∷ xs) ys u v (inr h) = go (earlier_append xs ys u v h)
    where
      go : EarlierIn u v xs ys → EarlierIn u v (x ∷ xs) ys
      go (inl (k, m)) = inl (inr k, m)
      go (inr (inl k)) = inr (inl (inr k))
      go (inr (inr k)) = inr (inr k)

  pub append_earlier : (xs ys : List A) (u v : A) → EarlierIn u v xs ys → Earlier u v (xs ++ ys)
  append_earlier [] ys u v (inl h) = absurd h.0
  append_earlier [] ys u v (inr (inl h)) = absurd h
  append_earlier [] ys u v (inr (inr h)) = h
  append_earlier (x ∷ xs) ys u v (inl (inl e, m)) = inl (e, member_right xs ys v m)
  append_earlier (x ∷ xs) ys u v (inl (inr k, m)) = inr (append_earlier xs ys u v (inl (k, m)))
  append_earlier (x ∷ xs) ys u v (inr (inl (inl (e, m)))) = inl (e, member_left xs ys v m)
  append_earlier (x ∷ xs) ys u v (inr (inl (inr h))) = inr (append_earlier xs ys u v (inr (inl h)))
  append_earlier (x ∷ xs) ys u v (inr (inr h)) = inr (append_earlier xs ys u v (inr (inr h)))

  -- two lists that together are distinct share nothing
  pub distinct_append : (xs ys : List A) → Distinct (xs ++ ys) → Distinct xs × Distinct ys × ((v : A) → Member v xs → Member v ys → ⊥)
  distinct_append [] ys d = (tt, d, λ v h k. h)
  distinct_append (x ∷ xs) ys d =
      let r = distinct_append xs ys d.1 in
      ((all_left (λ y. x ≢ y) xs ys d.0, r.0), r.1, go r.2)
    where
      go : ((v : A) → Member v xs → Member v ys → ⊥) → (v : A) → Member v (x ∷ xs) → Member v ys → ⊥
      go r v (inl e) k = all_gives (λ y. x ≢ y) (xs ++ ys) d.0 v (member_right xs ys v k) (sym e)
      go r v (inr h) k = r v h k

  -- one more in the middle that differs from all, and one fewer
  pub distinct_put : (a : A) (xs ys : List A) → All (λ y. a ≢ y) (xs ++ ys) → Distinct (xs ++ ys) → Distinct (xs ++ (a ∷ ys))
  distinct_put a [] ys n d = (n, d)
  distinct_put a (x ∷ xs) ys n d = (
    all_join (λ y. x ≢ y) xs ys a (all_left (λ y. x ≢ y) xs ys d.0) (λ e. n.0 (sym e)) (all_right (λ y. x ≢ y) xs ys d.0),
    distinct_put a xs ys n.1 d.1,
  )

  pub distinct_cut : (a : A) (xs ys : List A) → Distinct (xs ++ (a ∷ ys)) → Distinct (xs ++ ys)
  distinct_cut a [] ys d = d.1
  distinct_cut a (x ∷ xs) ys d =
      let p = all_part (λ y. x ≢ y) xs ys a d.0 in
      (all_append (λ y. x ≢ y) xs ys p.0 p.2, distinct_cut a xs ys d.1)

  earlier_members : (xs : List A) (u v : A) → Earlier u v xs → Member u xs × Member v xs
  earlier_members [] u v h = absurd h
  earlier_members (x ∷ xs) u v (inl (e, m)) = (inl e, inr m)
  earlier_members (x ∷ xs) u v (inr h) = let m = earlier_members xs u v h in (inr m.0, inr m.1)

  -- in a distinct list no two stand before each other
  pub earlier_asym : (xs : List A) → Distinct xs → (u v : A) → Earlier u v xs → Earlier v u xs → ⊥
  earlier_asym [] d u v h k = h
  earlier_asym (x ∷ xs) d u v (inl (e, m)) (inl (i, n)) = all_gives (λ y. x ≢ y) xs d.0 v m (sym i)
  earlier_asym (x ∷ xs) d u v (inl (e, m)) (inr k) = all_gives (λ y. x ≢ y) xs d.0 u (earlier_members xs v u k).1 (sym e)
  earlier_asym (x ∷ xs) d u v (inr h) (inl (i, n)) = all_gives (λ y. x ≢ y) xs d.0 v (earlier_members xs u v h).1 (sym i)
  earlier_asym (x ∷ xs) d u v (inr h) (inr k) = earlier_asym xs d.1 u v h k

pub map_twice : {A B C : Type 0} (f : A → B) (g : B → C) (xs : List A) → map g (map f xs) ≡ map (λ x. g (f x)) xs
map_twice f g [] = refl
map_twice f g (x ∷ xs) = ap (λ l. g (f x) ∷ l) (map_twice f g xs)

pub member_at : {A : Type 0} (xs : List A) (i : ℕ) (d : A) → i < length xs → Member (get_or xs i d) xs
member_at [] i d h = absurd (omega arith)
member_at (x ∷ xs) zero d h = inl refl
member_at (x ∷ xs) (suc i) d h = inr (member_at xs i d (omega arith))

pub map_append : {A B : Type 0} (g : A → B) (xs ys : List A) → map g (xs ++ ys) ≡ map g xs ++ map g ys
map_append g [] ys = refl
map_append {B} g (x ∷ xs) ys = ap {B = List B} (λ zs. g x ∷ zs) (map_append g xs ys)

-- two lists cut where a property ends
module _ {A : Type 0} (P N : A → Type 0) (both : (x : A) → P x → N x → ⊥) where
  pub seam : (xs ys us vs : List A) → All P xs → All N ys → All P us → All N vs → xs ++ ys ≡ us ++ vs → (xs ≡ us) × (ys ≡ vs)
  seam [] ys [] vs a b c d e = (refl, e)
  seam [] [] (u ∷ us) vs a b c d e = absurd (nil≢cons e)
  seam [] (y ∷ ys) (u ∷ us) vs a b c d e = absurd (both u c.0 (rw (head-eq_of_cons-eq e) at b.0))
  seam (x ∷ xs) ys [] [] a b c d e = absurd (cons≢nil e)
  seam (x ∷ xs) ys [] (v ∷ vs) a b c d e = absurd (both x a.0 (rw (← (head-eq_of_cons-eq e)) at d.0))
  seam (x ∷ xs) ys (u ∷ us) vs a b c d e =
      let r = seam xs ys us vs a.1 b c.1 d (tail-eq_of_cons-eq e) in
      let h = head-eq_of_cons-eq e in
      (cc r.0, r.1)
