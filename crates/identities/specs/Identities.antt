-- A table of 8,192 places for identities, 0 at a free one: what it holds, and what entering an identity makes of it.
-- Assumes nothing.
use Rattle.std.specs.Prelude.{◌≡◌, Bool, true, false, cond, not, Option, Some, None, List, [], ◌∷◌, ◌⊎◌, ℕ, ◌+◌, ◌*◌, ◌<◌, ◌/◌, ◌%◌, eqb, length, get_or}

-- 01, refusal 3: a number is among those used
abbrev pub is_among : ℕ → List ℕ → Bool
is_among x [] = false
is_among x (y ∷ ys) = cond (eqb x y) true (is_among x ys)

abbrev pub place_count : ℕ
place_count = 8192

-- where the search for x begins: the upper 13 of the 32 bits of a product
unfoldable pub hash_of : ℕ → ℕ
hash_of x = x * 2654435761 % 4294967296 / 524288

-- the d-th place that is looked at for x
abbrev pub place : ℕ → ℕ → ℕ
place x d = (hash_of x + d) % place_count

-- x is found in t
pub record In (t : List ℕ) (x : ℕ) : Type 0 where
  pub d : ℕ
  pub here : get_or t (place x d) 0 ≡ x
  pub before : (e : ℕ) → e < d → get_or t (place x e) 0 ≡ 0 → ⊥

-- the first d places looked at are taken, and not by x
abbrev pub Passed : List ℕ → ℕ → ℕ → Type 0
Passed t x d = (e : ℕ) → e < d → (get_or t (place x e) 0 ≡ 0 → ⊥) × (get_or t (place x e) 0 ≡ x → ⊥)

-- i is the free place where x goes
pub record FreeAt (t : List ℕ) (x i : ℕ) : Type 0 where
  pub d : ℕ
  pub at : i ≡ place x d
  pub inside : i < place_count
  pub free : get_or t i 0 ≡ 0
  pub passed : Passed t x d

-- x stands at some place
pub record TakenAt (t : List ℕ) (x : ℕ) : Type 0 where
  pub i : ℕ
  pub inside : i < place_count
  pub here : get_or t i 0 ≡ x

-- no place is free
abbrev pub Crowded : List ℕ → Type 0
Crowded t = (i : ℕ) → i < place_count → get_or t i 0 ≡ 0 → ⊥

-- only used identities stand in t, and all of them while a place is free
pub record Holds (t used : List ℕ) : Type 0 where
  pub size : length t ≡ place_count
  pub known : (i : ℕ) → i < place_count → (get_or t i 0 ≡ 0) ⊎ (is_among (get_or t i 0) used ≡ true)
  pub found : ((x : ℕ) → (x ≡ 0 → ⊥) → is_among x used ≡ true → In t x) ⊎ Crowded t

-- x is entered behind the identities used: whether it was new, or that it found no place
abbrev pub EnteredAs : ℕ → List ℕ → Option Bool → List ℕ → Type 0
EnteredAs x used (Some new) t = (new ≡ not (is_among x used)) × (new ≡ true → Holds t (x ∷ used))
EnteredAs x used None t = Holds t (x ∷ used)

-- so for whatever identities the table held
abbrev pub Entering : List ℕ → ℕ → Option Bool → List ℕ → Type 0
Entering t x r t' = (used : List ℕ) → Holds t used → EnteredAs x used r t'
