-- Laws of a table's rows: how many there are, each by its number, and the rows from one on. Assumes nothing.
use mathlib.Core.Path.{◌≡◌, refl, ap, ◌∙◌}
use mathlib.Core.List.{List, [], ◌∷◌}
use Prim.Native.Nat.{ℕ, zero, suc, ◌+◌, ◌*◌, ◌-◌, ◌/◌, ◌≤◌}
use native.Mathlib.Nat.{add-zero}
use native.Mathlib.Omega.{arith}
use lib.ListN.{length, drop, get_or, length-drop, drop_of_length-le}
use lib.Seq.{drop-drop, get_or-drop}
use Rattle.tables.specs.Table.{row_size, rows_of}
use Rattle.tables.specs.Rows.{identity_of, tag_of, depth_of, row_at}

-- one row for each three numbers
pub rows_length : (t : List ℕ) → length (rows_of t) ≡ length t / row_size
unfolding rows_of
rows_length [] = refl
rows_length (a ∷ []) = refl
rows_length (a ∷ b ∷ []) = refl
rows_length (a ∷ b ∷ c ∷ t) = omega (arith, rows_length t)

-- the rows from row i on are those of the numbers from 3i on
next_start : (i : ℕ) → row_size * suc i ≡ suc (suc (suc (row_size * i)))
next_start i = omega arith

rows_drop : (i : ℕ) (t : List ℕ) → drop i (rows_of t) ≡ rows_of (drop (row_size * i) t)
unfolding rows_of
rows_drop zero t = refl
rows_drop (suc i) [] = rw (next_start i)
rows_drop (suc i) (a ∷ []) = rw (next_start i)
rows_drop (suc i) (a ∷ b ∷ []) = rw (next_start i)
rows_drop (suc i) (a ∷ b ∷ c ∷ t) = rw (next_start i) (rows_drop i t)

-- the first row of three numbers or more
rows_first : (t : List ℕ) → row_size ≤ length t → rows_of t ≡ row_at t 0 ∷ rows_of (drop row_size t)
unfolding rows_of
rows_first [] h = absurd (omega arith)
rows_first (a ∷ []) h = absurd (omega arith)
rows_first (a ∷ b ∷ []) h = absurd (omega arith)
rows_first (a ∷ b ∷ c ∷ t) h = refl

-- row i and the rows behind it
pub rows_next : (t : List ℕ) (i : ℕ) → row_size * i + row_size ≤ length t → drop i (rows_of t) ≡ row_at t i ∷ drop (suc i) (rows_of t)
rows_next t i h =
    let s : List ℕ = drop (row_size * i) t in
    let l : length s ≡ length t - row_size * i = length-drop (row_size * i) t in
    let first : rows_of s ≡ row_at s 0 ∷ rows_of (drop row_size s) = rows_first s (omega arith) in
    let a : get_or s 0 0 ≡ identity_of t i = get_or-drop (row_size * i) t 0 0 ∙ ap (λ (k : ℕ). get_or t k 0) (add-zero (row_size * i)) in
    let b : get_or s 1 0 ≡ tag_of t i = get_or-drop (row_size * i) t 1 0 in
    let d : get_or s 2 0 ≡ depth_of t i = get_or-drop (row_size * i) t 2 0 in
    let e : row_size * i + row_size ≡ row_size * suc i = omega arith in
    let r : drop row_size s ≡ drop (row_size * suc i) t = drop-drop row_size (row_size * i) t ∙ ap (λ (k : ℕ). drop k t) e in
    cc (rows_drop i t, rows_drop (suc i) t)

-- behind the last row there is none
pub rows_end : (t : List ℕ) (n : ℕ) → length t ≡ row_size * n → drop n (rows_of t) ≡ []
rows_end t n h =
    let l : length (rows_of t) ≡ length t / row_size = rows_length t in
    drop_of_length-le (rows_of t) {i = n} (omega arith)
