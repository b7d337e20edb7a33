-- New identities in a list: not 0 and not used before. Rows of several numbers begin with their identity.
-- Assumes nothing.
use Rattle.std.specs.Prelude.{Bool, true, not, ◌&&◌, List, [], ◌∷◌, ℕ, zero, suc, ◌*◌, eqb, get_or}
use Rattle.identities.specs.Identities.{is_among}

-- 01, refusal 3: identity 0 or already used
abbrev pub is_fresh : ℕ → List ℕ → Bool
is_fresh identity used = not (eqb identity 0) && not (is_among identity used)

-- the identities above row i of a list with `stride` numbers a row, the latest first
abbrev pub earlier : ℕ → List ℕ → ℕ → List ℕ
earlier stride numbers zero = []
earlier stride numbers (suc i) = get_or numbers (stride * i) 0 ∷ earlier stride numbers i

-- each is new behind those used and those before it
abbrev pub fresh_from : List ℕ → List ℕ → Bool
fresh_from used [] = true
fresh_from used (x ∷ xs) = is_fresh x used && fresh_from (x ∷ used) xs

abbrev pub is_all_new : List ℕ → Bool
is_all_new xs = fresh_from [] xs
