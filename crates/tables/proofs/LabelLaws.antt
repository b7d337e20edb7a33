-- The first labelling of an accepted table: what the walk starts from, and that it leaves the register of the labelled tree.
-- Assumes nothing.
use Rattle.std.specs.Prelude.{Ok, Err}
use mathlib.Core.Path.{◌≡◌, refl, sym, ap, ◌∙◌, subst}
use mathlib.Core.List.{List, [], ◌++◌, append-nil}
use Prim.Native.Nat.{ℕ, zero, suc, ◌+◌, ◌*◌, ◌≤◌, ◌<◌}
use native.Mathlib.Nat.{add-zero}
use native.Mathlib.Omega.{arith}
use lib.ListN.{length, get_or, replicate}
use lib.Seq.{get_or-drop}
use borrow.Author.Tests.{le-leb, lt-leb}
use Rattle.digits.specs.Lists.{All}
use Rattle.digits.specs.Order.{Digits}
use Rattle.digits.specs.Code.{Within}
use Rattle.digits.specs.Thirds.{thirds}
use Rattle.digits.proofs.ListLaws.{all_map, all_at}
use Rattle.digits.proofs.ThirdsLaws.{open_gap, thirds_within}
use Rattle.answers.specs.declared.Refusal.{Refusal}
use Rattle.answers.specs.declared.Refusal.TheVariants.{Room}
use Rattle.answers.specs.Outcome.{accepted as taken, refused}
use Rattle.numbers.specs.Bytes.{put, le4}
use Rattle.numbers.proofs.PutLaws.{put_grows}
use Rattle.codes.specs.Code.{IsCode}
use Rattle.trees.specs.Forest.{size, preorder}
use Rattle.trees.specs.Table.{rows}
use Rattle.trees.specs.Labelled.{Name, plain, codes, labelled}
use Rattle.trees.proofs.TableLaws.{length_rows, ruled_bounded}
use Rattle.trees.proofs.ForestLaws.{length_preorder}
use Rattle.trees.proofs.LabelledLaws.{codes_labelled, plain_labelled, size_labelled, parents_fill}
use Rattle.registers.specs.Layout.{deepest, entry_place}
use Rattle.registers.specs.Entries.{entries_bytes, register_bytes}
use Rattle.tables.specs.Table.{most_rows, rows_of}
use Rattle.tables.specs.Rules.{checked_of}
use Rattle.tables.specs.Rows.{depth_of}
use Rattle.tables.specs.Accepted.{named, table_tree}
use Rattle.tables.specs.Walk.{row_count, at_start, walked, Ready}
use Rattle.tables.specs.Labelling.{labelled_tree, label_outcome}
use Rattle.tables.proofs.RowLaws.{rows_length}
use Rattle.tables.proofs.AcceptedLaws.{accepted, accepted_count, accepted_tree}
use Rattle.tables.proofs.TourLaws.{name_of, named_length, named_next, tour_at}

all_replicate : (P : ℕ → Type 0) (n x : ℕ) → P x → All P (replicate n x)
all_replicate P zero x p = tt
all_replicate P (suc n) x p = (p, all_replicate P n x p)

module _ (t : List ℕ) (n : ℕ) (e : checked_of t ≡ Ok n) where
  row_count_lem : row_count t ≡ n
  row_count_lem = sym (rows_length t) ∙ accepted_count t n e

  pub count_most : n ≤ most_rows
  count_most = let a = accepted t n e in let k = accepted_count t n e in omega (arith, a.most)

  shallow : (i : ℕ) → i < row_count t → depth_of t i ≤ deepest
  shallow i h =
      let z : Name × ℕ = (record { identity = 0; tag = 0 }, 0) in
      let r : List (Name × ℕ) = named (rows_of t) in
      let l : i < length r = rw (named_length t) h in
      let a = all_at (λ (row : Name × ℕ). row.1 < suc deepest) r i z (ruled_bounded deepest r (accepted t n e).ruled) l in
      let g : get_or r i z ≡ (name_of t i, depth_of t i) =
      ap (λ (k : ℕ). get_or r k z) (sym (add-zero i)) ∙ sym (get_or-drop i r 0 z) ∙ ap (λ (q : List (Name × ℕ)). get_or q 0 z)
      (named_next t i h) in
      omega (arith, a, ap (λ (row : Name × ℕ). row.1) g)

  pub start_ready : (bytes : List ℕ) → entry_place n ≤ length bytes → Ready t (at_start bytes)
  start_ready bytes room =
      let a = accepted t n e in
      let k = accepted_count t n e in
      let c = row_count_lem in
      record {
        most = omega (arith, a.most);
        some = omega (arith, a.some);
        shallow = shallow;
        room = omega arith;
        row = omega arith;
        level = omega arith;
        levels = refl;
        begun = all_replicate (λ j. (j ≤ 0) × (j < row_count t)) (suc deepest) 0 (omega arith, omega (arith, a.some));
      }

  -- no first code is longer than nine digits
  nine : All IsCode (thirds [] [] (2 * n + 1))
  nine =
      let k = count_most in
      all_map (Within 1 3 9) IsCode (λ x w. record { formed = w.formed; fits = omega (arith, w.fits) }) (thirds [] [] (2 * n + 1))
      (thirds_within 9 [] [] (2 * n + 1) open_gap (omega arith))

  pub start_codes : (x y : Digits) → x ≡ [] → y ≡ [] → All IsCode (thirds x y (2 * n + 1))
  start_codes x y f g = rw (f, g) nine

  pub tree_size : size (table_tree t) ≡ n
  tree_size = sym (length_rows 0 (table_tree t)) ∙ ap length (accepted_tree t n e) ∙ named_length t ∙ row_count_lem

  first_codes : codes (labelled_tree t) ≡ thirds [] [] (2 * n + 1)
  first_codes = codes_labelled (table_tree t) ∙ ap (λ (j : ℕ). thirds [] [] (2 * j + 1)) tree_size

  pub tree_codes : All IsCode (codes (labelled_tree t))
  tree_codes = subst (All IsCode) (sym first_codes) nine

  -- the walk along the first codes leaves the register of the labelled tree
  pub walk_bytes : (b : List ℕ) → entry_place n ≤ length b
      → (walked t (thirds [] [] (2 * n + 1)) (at_start (put b 0 (le4 n ++ le4 0)))).bytes ≡ put b 0
      (register_bytes (preorder (labelled_tree t)))
  walk_bytes b room =
      let f = table_tree t in
      let h : List ℕ = le4 n ++ le4 0 in
      let r : rows 0 f ≡ named (rows_of t) = accepted_tree t n e in
      let l : length (preorder (labelled f)) ≡ n = length_preorder (labelled f) ∙ size_labelled f ∙ tree_size in
      let c = row_count_lem in
      let a = tour_at t b h refl (omega arith) (labelled f) [] 0 [] [] (at_start (put b 0 h))
      (record {
        bytes = refl;
        row = refl;
        level = refl;
        rows_left = sym (append-nil (rows 0 (plain (labelled f))) ∙ ap (rows 0) (plain_labelled f) ∙ r);
        ready = start_ready (put b 0 h) (omega (arith, put_grows b 0 h (omega arith)));
      })
      tt refl (parents_fill [] f (thirds [] [] (2 * size f + 1))) in
      ap (λ (xs : List Digits). (walked t xs (at_start (put b 0 h))).bytes) (sym first_codes) ∙ a.at.bytes
      ∙ ap (λ (j : ℕ). put b 0 (le4 j ++ (le4 0 ++ entries_bytes (preorder (labelled f))))) (sym l)

  pub outcome_short : (lent : List ℕ) → length lent < entry_place n → label_outcome t lent ≡ refused Room lent
  unfolding label_outcome
  outcome_short lent h = rw (e, lt-leb (entry_place n) (length lent) h) refl

  pub outcome_written : (lent : List ℕ) → entry_place n ≤ length lent
      → label_outcome t lent ≡ taken (entry_place n) (put lent 0 (register_bytes (preorder (labelled_tree t))))
  unfolding label_outcome
  outcome_written lent h = rw (e, le-leb (entry_place n) (length lent) h) refl

pub outcome_bad : (t : List ℕ) (r : Refusal) (lent : List ℕ) → checked_of t ≡ Err r → label_outcome t lent ≡ refused r lent
unfolding label_outcome
outcome_bad t r lent e = rw e refl

pub ruleset starts = (count_most, start_ready, start_codes)

pub ruleset outcomes = (count_most, walk_bytes, outcome_short, outcome_written, outcome_bad)
