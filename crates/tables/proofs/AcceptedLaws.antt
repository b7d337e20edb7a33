-- What the rules accept is what is asked of a table, no less and no more, and it has one tree. Assumes nothing.
use Rattle.std.specs.Prelude.{Result, Ok, Err}
use mathlib.Core.Path.{◌≡◌, refl, sym, ap, ◌∙◌}
use mathlib.Core.Bool.{Bool, true, false, cond, ◌&&◌, and-eq-true_iff}
use mathlib.Core.List.{List, [], ◌∷◌}
use Prim.Native.Nat.{ℕ, suc, ◌+◌, ◌/◌, ◌%◌, ◌≤◌}
use native.Mathlib.Omega.{arith}
use lib.Dec.{eqb, leb}
use lib.ListN.{length}
use borrow.Author.Tests.{eqb-true, leb-true, eq-eqb, le-leb}
use Rattle.digits.specs.Lists.{All, Distinct}
use Rattle.answers.specs.declared.Refusal.{Refusal}
use Rattle.answers.proofs.OutcomeLaws.{accepted_refused}
use Rattle.identities.specs.Rows.{is_fresh}
use Rattle.identities.proofs.RowLaws.{New, new, fresh_right, others, fewer, behind, some, real}
use Rattle.trees.specs.Table.{Later, Follow, rows}
use Rattle.trees.proofs.TableLaws.{ruled_rows}
use Rattle.registers.specs.Layout.{deepest}
use Rattle.tables.specs.declared.Row.{Row}
use Rattle.tables.specs.Table.{most_rows, row_size, rows_of}
use Rattle.tables.specs.Rules.{is_size, is_depth, rows_from, rows_checked, checked_of}
use Rattle.tables.specs.Accepted.{named, identities, Accepted, table_tree}
use Rattle.tables.proofs.RowLaws.{rows_length}
use Rattle.tables.proofs.RuleLaws.{size_right}

-- a test that was passed
passed : (t : Bool) (r : Refusal) (c : Result ℕ Refusal) (n : ℕ) → cond t c (Err r) ≡ Ok n → (t ≡ true) × (c ≡ Ok n)
passed true r c n e = (refl, e)
passed false r c n e = accepted_refused (sym e)

later : (previous depth : ℕ) → is_depth previous depth ≡ true → Later deepest previous depth
later previous depth h =
    let a = (and-eq-true_iff (leb 1 depth) (leb depth (previous + 1) && leb depth deepest)).0 h in
    let b = (and-eq-true_iff (leb depth (previous + 1)) (leb depth deepest)).0 a.1 in
    record { inner = leb-true 1 depth a.0; step = leb-true depth (previous + 1) b.0; bounded = leb-true depth deepest b.1 }

-- rows behind a row of some depth, with some identities used above
record Right (previous : ℕ) (used : List ℕ) (rs : List Row) : Type 0 where
  follow : Follow deepest previous (named rs)
  news : All (New used) (identities rs)
  distinct : Distinct (identities rs)

with_first : (previous : ℕ) (used : List ℕ) (r : Row) (rs : List Row) → Later deepest previous r.depth → New used r.identity
    → Right r.depth (r.identity ∷ used) rs → Right previous used (r ∷ rs)
with_first previous used r rs l k h =
    record {
      follow = (l, h.follow);
      news = (k, fewer r.identity used (identities rs) h.news);
      distinct = (others r.identity used (identities rs) h.news, h.distinct);
    }

right : (row previous : ℕ) (used : List ℕ) (rs : List Row) (n : ℕ) → rows_from row previous used rs ≡ Ok n → Right previous used rs
unfolding rows_from
right row previous used [] n e = record { follow = tt; news = tt; distinct = tt }
right row previous used (r ∷ rs) n e =
    let p = passed (is_depth previous r.depth) _ _ n e in
    let q = passed (is_fresh r.identity used) _ _ n p.1 in
    with_first previous used r rs (later previous r.depth p.0) (new r.identity used q.0)
    (right (suc row) r.depth (r.identity ∷ used) rs n q.1)

-- a size that is accepted: 1 to 4,096 rows
pub size_bounds : (t : List ℕ) → is_size t ≡ true → (1 ≤ length (rows_of t)) × (length (rows_of t) ≤ most_rows)
size_bounds t h =
    let a = (and-eq-true_iff (eqb (length t % row_size) 0) _).0 h in
    let b = (and-eq-true_iff (leb 1 (length t / row_size)) (leb (length t / row_size) most_rows)).0 a.1 in
    let s = leb-true 1 (length t / row_size) b.0 in
    let m = leb-true (length t / row_size) most_rows b.1 in
    let e = rows_length t in
    (omega arith, omega arith)

-- what the call accepts is a table by the rules
pub accepted : (t : List ℕ) (n : ℕ) → checked_of t ≡ Ok n → Accepted (rows_of t)
unfolding checked_of
accepted t n e =
    let p = passed (is_size t) _ _ n e in
    let b = size_bounds t p.0 in
    go (rows_of t) b.0 b.1 p.1
  where
    go : (rs : List Row) → 1 ≤ length rs → length rs ≤ most_rows → rows_checked rs ≡ Ok n → Accepted rs
    go [] s m e = absurd (omega arith)
    go (r ∷ rs) s m e =
        let p = passed (eqb r.depth 0) _ _ n e in
        let q = passed (is_fresh r.identity []) _ _ n p.1 in
        let z = eqb-true r.depth 0 p.0 in
        let k = new r.identity [] q.0 in
        let h = right 1 0 (r.identity ∷ []) rs n q.1 in
        record {
          some = s;
          most = m;
          ruled = (z, rw z h.follow);
          real = (k.0, real (r.identity ∷ []) (identities rs) h.news);
          distinct = (others r.identity [] (identities rs) h.news, h.distinct);
        }

-- the number that is answered is the number of rows
rows_count : (row previous : ℕ) (used : List ℕ) (rs : List Row) (n : ℕ) → rows_from row previous used rs ≡ Ok n → row + length rs ≡ n
unfolding rows_from
rows_count row previous used [] n e = let z : row ≡ n = cc in omega arith
rows_count row previous used (r ∷ rs) n e =
    let p = passed (is_depth previous r.depth) _ _ n e in
    let q = passed (is_fresh r.identity used) _ _ n p.1 in
    let h = rows_count (suc row) r.depth (r.identity ∷ used) rs n q.1 in
    omega arith

pub accepted_count : (t : List ℕ) (n : ℕ) → checked_of t ≡ Ok n → length (rows_of t) ≡ n
unfolding checked_of
accepted_count t n e = go (rows_of t) (passed (is_size t) _ _ n e).1
  where
    go : (rs : List Row) → rows_checked rs ≡ Ok n → length rs ≡ n
    go [] e = cc
    go (r ∷ rs) e =
        let p = passed (eqb r.depth 0) _ _ n e in
        let q = passed (is_fresh r.identity []) _ _ n p.1 in
        let h = rows_count 1 0 (r.identity ∷ []) rs n q.1 in
        omega arith

-- the other way round: no table by the rules is refused
depth_right : (previous depth : ℕ) → Later deepest previous depth → is_depth previous depth ≡ true
depth_right previous depth l =
    rw (le-leb 1 depth l.inner, le-leb depth (previous + 1) l.step, le-leb depth deepest l.bounded) refl

right_rows : (row previous : ℕ) (used : List ℕ) (rs : List Row) → Right previous used rs
    → rows_from row previous used rs ≡ Ok (row + length rs)
unfolding rows_from
right_rows row previous used [] h = ap Ok (omega arith)
right_rows row previous used (r ∷ rs) h =
    let rest : Right r.depth (r.identity ∷ used) rs =
    record {
      follow = h.follow.1;
      news = behind r.identity used (identities rs) h.news.1 h.distinct.0;
      distinct = h.distinct.1;
    } in
    rw (depth_right previous r.depth h.follow.0, fresh_right r.identity used h.news.0)
    (right_rows (suc row) r.depth (r.identity ∷ used) rs rest ∙ ap Ok (omega arith))

pub none_refused : (t : List ℕ) → length t % row_size ≡ 0 → Accepted (rows_of t) → checked_of t ≡ Ok (length (rows_of t))
none_refused t z a =
    let e = rows_length t in
    let s = a.some in
    let m = a.most in
    size_right t z (omega arith) (omega arith) ∙ go (rows_of t) a
  where
    go : (rs : List Row) → Accepted rs → rows_checked rs ≡ Ok (length rs)
    go [] a = refl
    go (r ∷ rs) a =
        let h : Right 0 (r.identity ∷ []) rs =
        record {
          follow = rw a.ruled.0 at a.ruled.1;
          news = behind r.identity [] (identities rs) (some (identities rs) a.real.1) a.distinct.0;
          distinct = a.distinct.1;
        } in
        rw (eq-eqb r.depth 0 a.ruled.0, fresh_right r.identity [] (a.real.0, refl))
        (right_rows 1 0 (r.identity ∷ []) rs h ∙ ap Ok (omega arith))

-- an accepted table has one tree, and its rows come back
pub accepted_tree : (t : List ℕ) (n : ℕ) → checked_of t ≡ Ok n → rows 0 (table_tree t) ≡ named (rows_of t)
accepted_tree t n e = ruled_rows deepest (named (rows_of t)) (accepted t n e).ruled
