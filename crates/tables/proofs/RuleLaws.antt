-- Laws of the rules, row by row. Assumes nothing.
use Rattle.std.specs.Prelude.{Result, Ok, Err}
use mathlib.Core.Path.{◌≡◌, refl, sym, ap, ◌∙◌}
use mathlib.Core.Bool.{Bool, true, false, cond, and-false}
use mathlib.Core.List.{List}
use Prim.Native.Nat.{ℕ, zero, suc, ◌+◌, ◌*◌, ◌/◌, ◌%◌, ◌≤◌, ◌<◌}
use native.Mathlib.Numerals.{add-one}
use lib.Dec.{eqb}
use lib.ListN.{length, drop}
use borrow.Author.Tests.{eqb-true, eq-eqb, ne_eqb, le-leb, lt-leb}
use Rattle.answers.specs.declared.Refusal.{Refusal}
use Rattle.answers.specs.declared.Refusal.TheVariants.{TableSize, RowDepth, RowIdentity}
use Rattle.identities.specs.Identities.{Holds}
use Rattle.identities.proofs.IdentityLaws.{holds_none}
use Rattle.tables.specs.Table.{most_rows, row_size, rows_of}
use Rattle.tables.specs.Rules.{identity_at, rows_from, rows_checked, checked_of}
use Rattle.tables.specs.Rows.{depth_of, is_depth_at, is_fresh_at, above, checked_from}
use Rattle.tables.proofs.RowLaws.{rows_next, rows_end}

-- the size rule: a part of a row, no row, too many, or right
pub size_part : (t : List ℕ) → (length t % row_size ≡ 0 → ⊥) → checked_of t ≡ Err TableSize
unfolding checked_of
size_part t h = simp (ne_eqb (length t % row_size) 0 h)

pub size_none : (t : List ℕ) → length t / row_size < 1 → checked_of t ≡ Err TableSize
unfolding checked_of
size_none t h = simp (lt-leb 1 (length t / row_size) h, and-false)

pub size_most : (t : List ℕ) → most_rows < length t / row_size → checked_of t ≡ Err TableSize
unfolding checked_of
size_most t h = simp (lt-leb (length t / row_size) most_rows h, and-false)

pub size_right : (t : List ℕ) → length t % row_size ≡ 0 → 1 ≤ length t / row_size → length t / row_size ≤ most_rows
    → checked_of t ≡ rows_checked (rows_of t)
unfolding checked_of
size_right t h j k =
    simp (eq-eqb (length t % row_size) 0 h, le-leb 1 (length t / row_size) j, le-leb (length t / row_size) most_rows k)

pub ruleset sizes = (size_part, size_none, size_most, size_right)

-- a choice whose first side matters only where it is taken
then_same : (b : Bool) (x y z : Result ℕ Refusal) → (b ≡ true → x ≡ y) → cond b x z ≡ cond b y z
then_same true x y z e = e refl
then_same false x y z e = refl

-- one row: its depth first, then its identity, then the rows behind it
checked_next : (t : List ℕ) (i : ℕ) → row_size * i + row_size ≤ length t
    → checked_from t i
    ≡ cond (is_depth_at t i) (identity_at i (is_fresh_at t i) (checked_from t (suc i))) (Err (RowDepth i))
unfolding rows_from
checked_next t zero h =
    ap rows_checked (rows_next t 0 h)
    ∙ then_same (eqb (depth_of t 0) 0) _ _ _
    (λ e. ap (λ (p : ℕ). identity_at 0 (is_fresh_at t 0) (rows_from 1 p (above t 1) (drop 1 (rows_of t))))
    (sym (eqb-true (depth_of t 0) 0 e)))
checked_next t (suc i) h = ap (rows_from (suc i) (depth_of t i) (above t (suc i))) (rows_next t (suc i) h)

module _ (t : List ℕ) (i : ℕ) (h : row_size * i + row_size ≤ length t) where
  pub row_deep : is_depth_at t i ≡ false → checked_from t i ≡ Err (RowDepth i)
  row_deep d = checked_next t i h ∙ rw d

  pub row_used : is_depth_at t i ≡ true → is_fresh_at t i ≡ false → checked_from t i ≡ Err (RowIdentity i)
  row_used d f = checked_next t i h ∙ rw (d, f)

  pub row_right : is_depth_at t i ≡ true → is_fresh_at t i ≡ true → checked_from t i ≡ checked_from t (i + 1)
  row_right d f = checked_next t i h ∙ rw (d, f, add-one)

pub held_next : (p t : List ℕ) (i : ℕ) → Holds p (above t (suc i)) → Holds p (above t (i + 1))
held_next p t i h = rw add-one h

-- behind the last row
pub checked_end : (t : List ℕ) (n : ℕ) → length t ≡ row_size * n → checked_from t n ≡ Ok n
unfolding rows_from
checked_end t zero h = ap rows_checked (rows_end t 0 h)
checked_end t (suc n) h = ap (rows_from (suc n) (depth_of t n) (above t (suc n))) (rows_end t (suc n) h)

-- before the first row, a row that is refused, and the end
pub ruleset rows = (row_deep, row_used, holds_none, checked_end)
