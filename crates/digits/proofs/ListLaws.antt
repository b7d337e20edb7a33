-- Laws of a property of all of a list, and the pigeonhole on numbers.
-- Assumes nothing.
use mathlib.Core.Path.{◌≡◌}
use mathlib.Core.Logic.{◌≢◌}
use mathlib.Core.List.{List, [], ◌∷◌, ◌++◌}
use Prim.Native.Nat.{ℕ, zero, suc, ◌≤◌, ◌<◌}
use native.Mathlib.Omega.{arith}
use native.Mathlib.Decide.{ℕ_discrete}
use lib.ListN.{length, get_or, set}
use Rattle.digits.specs.Lists.{All, Distinct}

pub all_map : {A : Type 0} (P Q : A → Type 0) → ((x : A) → P x → Q x) → (xs : List A) → All P xs → All Q xs
all_map P Q f [] h = tt
all_map P Q f (x ∷ xs) h = (f x h.0, all_map P Q f xs h.1)

pub all_both : {A : Type 0} (P Q R : A → Type 0) → ((x : A) → P x → Q x → R x) → (xs : List A) → All P xs → All Q xs → All R xs
all_both P Q R f [] h k = tt
all_both P Q R f (x ∷ xs) h k = (f x h.0 k.0, all_both P Q R f xs h.1 k.1)

-- two lists with one element between them
-- an element of a list with the property has it, and so has the list with another such element in a place
pub all_at : {A : Type 0} (P : A → Type 0) (xs : List A) (i : ℕ) (d : A) → All P xs → i < length xs → P (get_or xs i d)
all_at P [] i d h k = absurd (omega arith)
all_at P (x ∷ xs) zero d h k = h.0
all_at P (x ∷ xs) (suc i) d h k = all_at P xs i d h.1 (omega arith)

pub all_set : {A : Type 0} (P : A → Type 0) (xs : List A) (i : ℕ) (v : A) → All P xs → P v → All P (set xs i v)
all_set P [] i v h p = tt
all_set P (x ∷ xs) zero v h p = (p, h.1)
all_set P (x ∷ xs) (suc i) v h p = (h.0, all_set P xs i v h.1 p)

pub all_part : {A : Type 0} (P : A → Type 0) (xs ys : List A) (a : A) → All P (xs ++ (a ∷ ys)) → All P xs × P a × All P ys
all_part P [] ys a h = (tt, h.0, h.1)
all_part P (x ∷ xs) ys a h = let r = all_part P xs ys a h.1 in ((h.0, r.0), r.1, r.2)

pub all_join : {A : Type 0} (P : A → Type 0) (xs ys : List A) (a : A) → All P xs → P a → All P ys → All P (xs ++ (a ∷ ys))
all_join P [] ys a h p k = (p, k)
all_join P (x ∷ xs) ys a h p k = (h.0, all_join P xs ys a h.1 p k)

-- the numbers below n + 1, with n taken out
Taken : ℕ → List ℕ → Type 0
Taken n xs =
    (ys : List ℕ)
    × All (λ y. y < n) ys
    × Distinct ys
    × (length xs ≤ suc (length ys))
    × ((z : ℕ) → All (λ y. z ≢ y) xs → All (λ y. z ≢ y) ys)

take_out : (n : ℕ) (xs : List ℕ) → All (λ x. x < suc n) xs → Distinct xs → Taken n xs
unfolding Taken
take_out n [] a d = ([], tt, tt, omega arith, λ z h. h)
take_out n (x ∷ xs) a d = go (ℕ_discrete x n) (take_out n xs a.1 d.1)
  where
    go : Dec (x ≡ n) → Taken n xs → Taken n (x ∷ xs)
    go (yes e) t =
        (xs, all_both (λ y. y < suc n) (λ y. x ≢ y) (λ y. y < n) (λ y p q. omega arith) xs a.1 d.0, d.1, omega arith, λ z h. h.1)
    go (no e) t = (x ∷ t.0, (omega arith, t.1), (t.4 x d.0, t.2), omega arith, λ z h. (h.0, t.4 z h.1))

-- at most n different numbers are below n
pub pigeons : (n : ℕ) (xs : List ℕ) → All (λ x. x < n) xs → Distinct xs → length xs ≤ n
unfolding Taken
pigeons zero [] a d = omega arith
pigeons zero (x ∷ xs) a d = absurd (omega arith)
pigeons (suc n) xs a d =
    let t = take_out n xs a d in
    omega (arith, pigeons n t.0 t.1 t.2)
