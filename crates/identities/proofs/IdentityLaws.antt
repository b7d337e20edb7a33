-- Laws of the identity table: what it finds, and what a store makes of it. Assumes nothing.
use mathlib.Core.Path.{◌≡◌, refl, sym, ap, ◌∙◌, subst}
use mathlib.Core.Bool.{Bool, true, false}
use mathlib.Core.List.{List, [], ◌∷◌}
use mathlib.Core.Logic.{◌⊎◌, inl, inr, ⊎_elim}
use Prim.Native.Nat.{ℕ, ◌+◌, ◌-◌, ◌≤◌, ◌<◌, ◌%◌}
use native.Mathlib.Omega.{arith}
use lib.Dec.{eqb, ltb}
use lib.ListN.{length, get_or, set, replicate, length-set, length-replicate, get_or-replicate}
use lib.Seq.{get_or-set_same, get_or-set_other}
use borrow.Author.Tests.{eqb-true, eqb-false, eq-eqb, ltb-true, ltb-false}
use Rattle.identities.specs.Identities.{is_among}
use Rattle.identities.specs.Identities.{place_count, hash_of, place, In, Passed, FreeAt, TakenAt, Crowded, Holds}

-- a number among others, and one more in front
among_here : (x : ℕ) (used : List ℕ) → is_among x (x ∷ used) ≡ true
among_here x used = simp (eq-eqb x x refl)

among_more : (x y : ℕ) (used : List ℕ) → is_among x used ≡ true → is_among x (y ∷ used) ≡ true
among_more x y used h = go (eqb x y) refl
  where
    go : (b : Bool) → eqb x y ≡ b → is_among x (y ∷ used) ≡ true
    go true e = rw e
    go false e = rw e h

-- two numbers are the same, or they are not
same_or_not : (i k : ℕ) → (i ≡ k) ⊎ (i ≡ k → ⊥)
same_or_not i k = go (eqb i k) refl
  where
    go : (b : Bool) → eqb i k ≡ b → (i ≡ k) ⊎ (i ≡ k → ⊥)
    go true h = inl (eqb-true i k h)
    go false h = inr (eqb-false i k h)

among_cases : (x y : ℕ) (used : List ℕ) → is_among x (y ∷ used) ≡ true → (x ≡ y) ⊎ (is_among x used ≡ true)
among_cases x y used h = go (eqb x y) refl
  where
    go : (b : Bool) → eqb x y ≡ b → (x ≡ y) ⊎ (is_among x used ≡ true)
    go true e = inl (eqb-true x y e)
    go false e = inr (rw e at h)

module _ (t : List ℕ) (x : ℕ) (some : x ≡ 0 → ⊥) where
  -- what has a free place is not in the table
  absent : (i : ℕ) → FreeAt t x i → In t x → ⊥
  absent i f m = go (ltb f.d m.d) (ltb m.d f.d) refl refl
    where
      free_here : get_or t (place x f.d) 0 ≡ 0
      free_here = ap (λ (k : ℕ). get_or t k 0) (sym f.at) ∙ f.free

      go : (a b : Bool) → ltb f.d m.d ≡ a → ltb m.d f.d ≡ b → ⊥
      go true b h k = m.before f.d (ltb-true f.d m.d h) free_here
      go false true h k = (f.passed m.d (ltb-true m.d f.d k)).1 m.here
      go false false h k =
          let e : m.d ≡ f.d = omega (arith, ltb-false f.d m.d h, ltb-false m.d f.d k) in
          some (sym m.here ∙ ap (λ (k : ℕ). get_or t (place x k) 0) e ∙ free_here)

  -- a store leaves no place free that was taken
  still_taken : (i : ℕ) → i < length t → (k : ℕ) → (get_or t k 0 ≡ 0 → ⊥) → get_or (set t i x) k 0 ≡ 0 → ⊥
  still_taken i h k taken z =
      ⊎_elim
      (λ p. some (sym (get_or-set_same t i x 0 h) ∙ ap (λ (k : ℕ). get_or (set t i x) k 0) (sym p) ∙ z))
      (λ p. taken (sym (get_or-set_other t i k x 0 p) ∙ z))
      (same_or_not k i)

  -- a store at a free place takes away nothing
  pub kept : (i y : ℕ) → get_or t i 0 ≡ 0 → (y ≡ 0 → ⊥) → i < length t → In t y → In (set t i x) y
  kept i y free ny h m = record {
    d = m.d;
    here = get_or-set_other t i (place y m.d) x 0 (λ e. ny (sym m.here ∙ ap (λ (k : ℕ). get_or t k 0) e ∙ free)) ∙ m.here;
    before = λ e l. still_taken i h (place y e) (m.before e l);
  }

  -- and what is stored is found
  pub stored : (i : ℕ) → FreeAt t x i → i < length t → In (set t i x) x
  stored i f h = record {
    d = f.d;
    here = ap (λ (k : ℕ). get_or (set t i x) k 0) (sym f.at) ∙ get_or-set_same t i x 0 h;
    before = λ e l. still_taken i h (place x e) (f.passed e l).0;
  }

-- nothing is held before the first identity
pub holds_none : Holds (replicate place_count 0) []
holds_none = record {
  size = length-replicate {A = ℕ} place_count 0;
  known = λ i h. inl (get_or-replicate {A = ℕ} place_count i 0 0 h);
  found = inl (λ x some h. absurd (let z : ◌≡◌ {A = ℕ} 0 1 = cc in omega arith));
}

module _ (t used : List ℕ) (x : ℕ) (held : Holds t used) (some : x ≡ 0 → ⊥) where
  -- what stands in the table was used
  pub taken_used : TakenAt t x → is_among x used ≡ true
  taken_used m =
      ⊎_elim
      (λ z. absurd (some (sym m.here ∙ z)))
      (λ h. ap (λ (y : ℕ). is_among y used) (sym m.here) ∙ h)
      (held.known m.i m.inside)

  -- what has a free place was not
  pub free_new : (i : ℕ) → FreeAt t x i → is_among x used ≡ false
  free_new i f = go (is_among x used) refl
    where
      go : (b : Bool) → is_among x used ≡ b → b ≡ false
      go false h = refl
      go true h = absurd (⊎_elim (λ m. absent t x some i f (m x some h)) (λ full. full i f.inside f.free) held.found)

  -- the table with the new identity at its free place
  pub holds_stored : (i : ℕ) → FreeAt t x i → Holds (set t i x) (x ∷ used)
  holds_stored i f = record { size = length-set t i x ∙ held.size; known = known; found = inl found }
    where
      room : i < length t
      room = omega (arith, f.inside, held.size)

      stored_here : (k : ℕ) → k ≡ i → get_or (set t i x) k 0 ≡ x
      stored_here k e = ap (λ (n : ℕ). get_or (set t i x) n 0) e ∙ get_or-set_same t i x 0 room

      known_other : (k : ℕ) → k < place_count → (get_or t k 0 ≡ 0) ⊎ (is_among (get_or t k 0) (x ∷ used) ≡ true)
      known_other k h = ⊎_elim (λ z. inl z) (λ m. inr (among_more (get_or t k 0) x used m)) (held.known k h)

      known : (k : ℕ) → k < place_count → (get_or (set t i x) k 0 ≡ 0) ⊎ (is_among (get_or (set t i x) k 0) (x ∷ used) ≡ true)
      known k h =
          ⊎_elim
          (λ e. inr (subst (λ (v : ℕ). is_among v (x ∷ used) ≡ true) (sym (stored_here k e)) (among_here x used)))
          (λ e. subst (λ (v : ℕ). (v ≡ 0) ⊎ (is_among v (x ∷ used) ≡ true)) (sym (get_or-set_other t i k x 0 e)) (known_other k h))
          (same_or_not k i)

      found_other : (y : ℕ) → (y ≡ 0 → ⊥) → is_among y used ≡ true → In (set t i x) y
      found_other y ny m =
          ⊎_elim
          (λ all. kept t x some i y f.free ny room (all y ny m))
          (λ full. absurd (full i f.inside f.free))
          held.found

      found : (y : ℕ) → (y ≡ 0 → ⊥) → is_among y (x ∷ used) ≡ true → In (set t i x) y
      found y ny h =
          ⊎_elim
          (λ e. subst (λ (z : ℕ). In (set t i x) z) (sym e) (stored t x some i f room))
          (λ m. found_other y ny m)
          (among_cases y x used h)

  -- a table without a free place stays one
  pub holds_full : Crowded t → Holds t (x ∷ used)
  holds_full full = record {
    size = held.size;
    known = λ i h. ⊎_elim (λ z. inl z) (λ m. inr (among_more (get_or t i 0) x used m)) (held.known i h);
    found = inr full;
  }

-- where each place looked at is taken no place is free
pub crowded : (t : List ℕ) (x n : ℕ) → hash_of x < place_count → place_count ≤ n → Passed t x n → Crowded t
crowded t x n h m p i l z =
    let d : ℕ = (place_count + i - hash_of x) % place_count in
    let e : (hash_of x + d) % place_count ≡ i = omega arith in
    (p d (omega arith)).0 (ap (λ (k : ℕ). get_or t k 0) e ∙ z)
