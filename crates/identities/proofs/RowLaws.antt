-- Laws of new identities: one row's, and all of a list's: what is new is not 0 and stands nowhere twice. Assumes nothing.
use mathlib.Core.Path.{◌≡◌, refl, sym, ap, ◌∙◌}
use mathlib.Core.Logic.{◌≢◌}
use mathlib.Core.Bool.{Bool, true, false, cond, not, ◌&&◌, ◌||◌, or-true, or-false, or_assoc, and-false, and-eq-true_iff, false≢true}
use mathlib.Core.List.{List, [], ◌∷◌}
use Prim.Native.Nat.{ℕ, zero, suc, ◌+◌, ◌-◌, ◌*◌, ◌≤◌, ◌<◌}
use native.Mathlib.Nat.{one-mul, add-zero}
use native.Mathlib.Omega.{arith}
use lib.Dec.{eqb}
use lib.ListN.{length, get_or, drop, drop_of_length-le}
use lib.Seq.{drop-cons}
use borrow.Author.Tests.{eqb-false, eq-eqb, ne_eqb, not-true}
use Rattle.std.specs.List.{list_any, range_with_len}
use Rattle.digits.specs.Lists.{All, Distinct}
use Rattle.digits.proofs.ListLaws.{all_map, all_both}
use Rattle.identities.specs.Identities.{is_among}
use Rattle.identities.specs.Rows.{is_fresh, earlier, fresh_from, is_all_new}

-- the identity rule: 0, used, or new
pub fresh_zero : (x : ℕ) (used : List ℕ) → x ≡ 0 → is_fresh x used ≡ false
fresh_zero x used e = simp (eq-eqb x 0 e)

pub fresh_used : (x : ℕ) (used : List ℕ) → is_among x used ≡ true → is_fresh x used ≡ false
fresh_used x used h = simp (h, and-false)

pub fresh_some : (x : ℕ) (used : List ℕ) → (x ≡ 0 → ⊥) → is_fresh x used ≡ not (is_among x used)
fresh_some x used some = simp (ne_eqb x 0 some)

-- what one number more adds to the search through a range
any_last : (p : ℕ → Bool) (a n j : ℕ) → a + n ≡ j → list_any p (range_with_len a (suc n)) ≡ list_any p (range_with_len a n) || p j
any_last p a zero j e = or-false (p a) ∙ ap p (sym (add-zero a) ∙ e)
any_last p a (suc n) j e =
    ap (λ b. p a || b) (any_last p (a + 1) n j (omega arith)) ∙ sym (or_assoc (p a) (list_any p (range_with_len (a + 1) n)) (p j))

-- the search through the rows above row i
pub any_above : (stride : ℕ) (t : List ℕ) (x i : ℕ)
    → list_any (λ k. eqb x (get_or t (stride * k) 0)) (range_with_len 0 i) ≡ is_among x (earlier stride t i)
any_above stride t x zero = refl
any_above stride t x (suc i) = any_last here 0 i i (omega arith) ∙ ap (λ b. b || here i) (any_above stride t x i) ∙ either (here i) (is_among x (earlier stride t i))
  where
    here : ℕ → Bool
    here k = eqb x (get_or t (stride * k) 0)

    either : (a b : Bool) → (b || a) ≡ cond a true b
    either true b = or-true b
    either false b = or-false b

-- a row above that has another identity is passed
pub above_passed : (stride : ℕ) (t : List ℕ) (x k : ℕ) → 0 < k → (x ≡ get_or t (stride * (k - 1)) 0 → ⊥)
    → is_among x (earlier stride t k) ≡ is_among x (earlier stride t (k - 1))
above_passed stride t x zero h e = absurd (omega arith)
above_passed stride t x (suc k) h e =
    let p : suc k - 1 ≡ k = omega arith in
    rw p (simp (ne_eqb x (get_or t (stride * k) 0) (λ q. e (q ∙ ap (λ (j : ℕ). get_or t (stride * j) 0) (sym p)))))

-- an identity that is not 0 and not among some others
abbrev pub New : List ℕ → ℕ → Type 0
New used x = (x ≢ 0) × (is_among x used ≡ false)

pub new : (x : ℕ) (used : List ℕ) → is_fresh x used ≡ true → New used x
new x used h =
    let a = (and-eq-true_iff (not (eqb x 0)) (not (is_among x used))).0 h in
    (eqb-false x 0 (not-true (eqb x 0) a.0), not-true (is_among x used) a.1)

pub fresh_right : (x : ℕ) (used : List ℕ) → New used x → is_fresh x used ≡ true
fresh_right x used k = rw (ne_eqb x 0 k.0, k.1) refl

-- among more, so among fewer, and different from the one that is more
unless_first : (x y : ℕ) (used : List ℕ) → is_among x (y ∷ used) ≡ false → (y ≢ x) × (is_among x used ≡ false)
unless_first x y used h = go (eqb x y) refl h
  where
    go : (t : Bool) → eqb x y ≡ t → cond t true (is_among x used) ≡ false → (y ≢ x) × (is_among x used ≡ false)
    go true e f = absurd (false≢true (sym f))
    go false e f = (λ i. eqb-false x y e (sym i), f)

-- not among others, so different from each
pub differs : (x : ℕ) (used : List ℕ) → is_among x used ≡ false → All (λ y. x ≢ y) used
differs x [] h = tt
differs x (y ∷ used) h = let k = unless_first x y used h in (λ e. k.0 (sym e), differs x used k.1)

-- what is new behind an identity, too, differs from it and is new without it
pub others : (y : ℕ) (used xs : List ℕ) → All (New (y ∷ used)) xs → All (λ x. y ≢ x) xs
others y used xs h = all_map (New (y ∷ used)) (λ x. y ≢ x) (λ x p. (unless_first x y used p.1).0) xs h

pub fewer : (y : ℕ) (used xs : List ℕ) → All (New (y ∷ used)) xs → All (New used) xs
fewer y used xs h = all_map (New (y ∷ used)) (New used) (λ x p. (p.0, (unless_first x y used p.1).1)) xs h

-- and the other way round
more : (y x : ℕ) (used : List ℕ) → New used x → y ≢ x → New (y ∷ used) x
more y x used k n = (k.0, rw (ne_eqb x y (λ e. n (sym e))) k.1)

pub behind : (y : ℕ) (used xs : List ℕ) → All (New used) xs → All (λ x. y ≢ x) xs → All (New (y ∷ used)) xs
behind y used xs h k = all_both (New used) (λ x. y ≢ x) (New (y ∷ used)) (λ x p q. more y x used p q) xs h k

-- new among none is not 0
pub some : (xs : List ℕ) → All (λ x. x ≢ 0) xs → All (New []) xs
some xs h = all_map (λ x. x ≢ 0) (New []) (λ x p. (p, refl)) xs h

pub real : (used xs : List ℕ) → All (New used) xs → All (λ x. x ≢ 0) xs
real used xs h = all_map (New used) (λ x. x ≢ 0) (λ x p. p.0) xs h

-- a list's identities, behind some used and behind none
fresh_from_gives : (used xs : List ℕ) → fresh_from used xs ≡ true → All (New used) xs × Distinct xs
fresh_from_gives used [] h = (tt, tt)
fresh_from_gives used (x ∷ xs) h =
    let a = (and-eq-true_iff (is_fresh x used) (fresh_from (x ∷ used) xs)).0 h in
    let r = fresh_from_gives (x ∷ used) xs a.1 in
    ((new x used a.0, fewer x used xs r.0), (others x used xs r.0, r.1))

gives_fresh_from : (used xs : List ℕ) → All (New used) xs → Distinct xs → fresh_from used xs ≡ true
gives_fresh_from used [] h d = refl
gives_fresh_from used (x ∷ xs) h d =
    (and-eq-true_iff (is_fresh x used) (fresh_from (x ∷ used) xs)).1
    (fresh_right x used h.0, gives_fresh_from (x ∷ used) xs (behind x used xs h.1 d.0) d.1)

pub all_new_gives : (xs : List ℕ) → is_all_new xs ≡ true → All (λ x. x ≢ 0) xs × Distinct xs
all_new_gives xs h =
    let r = fresh_from_gives [] xs h in
    (real [] xs r.0, r.1)

pub gives_all_new : (xs : List ℕ) → All (λ x. x ≢ 0) xs → Distinct xs → is_all_new xs ≡ true
gives_all_new xs h d = gives_fresh_from [] xs (some xs h) d

-- what the numbers of a list from number i on give
abbrev pub new_from : List ℕ → ℕ → Bool
new_from xs i = fresh_from (earlier 1 xs i) (drop i xs)

module _ (xs : List ℕ) where
  new_next : (i : ℕ) → i < length xs → new_from xs i ≡ is_fresh (get_or xs (1 * i) 0) (earlier 1 xs i) && new_from xs (suc i)
  new_next i h = ap (fresh_from (earlier 1 xs i)) (drop-cons xs i 0 h ∙ ap (λ (k : ℕ). get_or xs k 0 ∷ drop (suc i) xs) (sym (one-mul i)))

  -- number i is used, or new; behind the last all were new
  pub next_used : (i : ℕ) → i < length xs → is_fresh (get_or xs (1 * i) 0) (earlier 1 xs i) ≡ false → new_from xs i ≡ false
  next_used i h f = new_next i h ∙ rw f refl

  pub next_new : (i : ℕ) → i < length xs → is_fresh (get_or xs (1 * i) 0) (earlier 1 xs i) ≡ true
      → new_from xs i ≡ new_from xs (suc i)
  next_new i h f = new_next i h ∙ rw f refl

  pub new_end : (i : ℕ) → length xs ≤ i → new_from xs i ≡ true
  new_end i h = ap (fresh_from (earlier 1 xs i)) (drop_of_length-le xs {i = i} h)
