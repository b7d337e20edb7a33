-- What labelling answers fits a signed number of 64 bits: the bytes of 4,096 entries, and a row below 4,096. Assumes nothing.
use Rattle.std.specs.Prelude.{Result, Ok, Err}
use mathlib.Core.Path.{◌≡◌, refl}
use mathlib.Core.Bool.{Bool, true, false, cond}
use mathlib.Core.List.{List, [], ◌∷◌}
use Prim.Native.Nat.{ℕ, suc, ◌+◌, ◌≤◌, ◌<◌}
use native.Mathlib.Omega.{arith}
use lib.Dec.{leb, eqb}
use lib.ListN.{length}
use Rattle.answers.specs.declared.Refusal.{Refusal}
use Rattle.answers.specs.declared.Refusal.TheVariants.{TableSize, RowDepth, RowIdentity, Room}
use Rattle.answers.specs.Number.{row_of}
use Rattle.answers.specs.Outcome.{accepted, unless}
use Rattle.answers.specs.Signed.{SignableRow}
use Rattle.numbers.specs.Bytes.{put}
use Rattle.trees.specs.Forest.{preorder}
use Rattle.registers.specs.Entries.{register_bytes}
use Rattle.identities.specs.Rows.{is_fresh}
use Rattle.registers.specs.Layout.{entry_place}
use Rattle.tables.specs.declared.Row.{Row}
use Rattle.tables.specs.Table.{most_rows, rows_of}
use Rattle.tables.specs.Rules.{is_size, is_depth, rows_from, rows_checked, checked_of}
use Rattle.tables.specs.Labelling.{labelled_tree, label_as, label_outcome}
use Rattle.tables.proofs.AcceptedLaws.{size_bounds}
use Rattle.tables.proofs.LabelLaws.{count_most}

-- a refusal's row is below k
abbrev Small : ℕ → Result ℕ Refusal → Type 0
Small k (Ok n) = Unit {0}
Small k (Err refusal) = row_of refusal < k

small_cond : (k : ℕ) (t : Bool) (a b : Result ℕ Refusal) → Small k a → Small k b → Small k (cond t a b)
small_cond k true a b p q = p
small_cond k false a b p q = q

small_from : (k row previous : ℕ) (used : List ℕ) (rs : List Row) → row + length rs ≤ k → Small k (rows_from row previous used rs)
unfolding rows_from
small_from k row previous used [] h = tt
small_from k row previous used (r ∷ rs) h =
    small_cond k (is_depth previous r.depth) _ (Err (RowDepth row))
    (small_cond k (is_fresh r.identity used) _ (Err (RowIdentity row))
    (small_from k (suc row) r.depth (r.identity ∷ used) rs (omega arith))
    (omega arith))
    (omega arith)

small_rows : (k : ℕ) (rs : List Row) → 0 < k → length rs ≤ k → Small k (rows_checked rs)
small_rows k [] p h = tt
small_rows k (r ∷ rs) p h =
    small_cond k (eqb r.depth 0) _ (Err (RowDepth 0))
    (small_cond k (is_fresh r.identity []) _ (Err (RowIdentity 0)) (small_from k 1 0 (r.identity ∷ []) rs (omega arith)) p) p

small_checked : (t : List ℕ) → Small most_rows (checked_of t)
unfolding checked_of
small_checked t = go (is_size t) refl
  where
    go : (z : Bool) → is_size t ≡ z → Small most_rows (cond z (rows_checked (rows_of t)) (Err TableSize))
    go true e = small_rows most_rows (rows_of t) (omega arith) (size_bounds t e).1
    go false e = omega arith

pub label_signable : (t lent : List ℕ) → SignableRow (label_outcome t lent).answer
unfolding label_outcome
label_signable t lent = go (checked_of t) refl (small_checked t)
  where
    go : (k : Result ℕ Refusal) → checked_of t ≡ k → Small most_rows k → SignableRow (label_as k t lent).answer
    go (Err refusal) e h = omega arith
    go (Ok n) e h = room (leb (entry_place n) (length lent)) (count_most t n e)
      where
        room : (z : Bool) → n ≤ most_rows
            → SignableRow (unless z Room lent (accepted (entry_place n) (put lent 0 (register_bytes (preorder (labelled_tree t)))))).answer
        room true m = omega arith
        room false m = omega arith
