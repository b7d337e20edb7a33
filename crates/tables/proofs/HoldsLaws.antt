-- An accepted table gives a sound register whose plain tree is the table's, with first codes of at most m digits. Assumes nothing.
use Rattle.std.specs.Prelude.{Result, Ok, Err}
use mathlib.Core.Path.{◌≡◌, refl, sym, ap, ◌∙◌, subst}
use mathlib.Core.Logic.{◌≢◌}
use mathlib.Core.Bool.{true}
use mathlib.Core.List.{List, [], ◌∷◌, map}
use Prim.Native.Nat.{ℕ, suc, ◌*◌, ◌≤◌}
use native.Mathlib.Omega.{arith}
use lib.Dec.{leb}
use lib.ListN.{length, take}
use borrow.Author.Tests.{leb-true}
use Rattle.digits.specs.Lists.{All, Distinct}
use Rattle.digits.specs.Code.{Within, Enough}
use Rattle.answers.specs.declared.Refusal.{Refusal}
use Rattle.answers.specs.declared.Refusal.TheVariants.{Room}
use Rattle.answers.specs.Outcome.{Outcome, Unaltered}
use Rattle.answers.proofs.OutcomeLaws.{accepted_refused, unless_accepted, keeps_unless, keeps_accepted}
use Rattle.numbers.proofs.PutLaws.{put_run}
use Rattle.codes.specs.Code.{IsCode}
use Rattle.trees.specs.Forest.{preorder, Rooted}
use Rattle.trees.specs.Table.{Ruled, forest}
use Rattle.trees.specs.Labelled.{Name, plain, codes, labelled, names}
use Rattle.trees.proofs.ListLaws.{map_twice}
use Rattle.trees.proofs.ImageLaws.{preorder_image}
use Rattle.trees.proofs.TableLaws.{preorder_rows, ruled_height}
use Rattle.trees.proofs.LabelledLaws.{plain_labelled, size_labelled, within_labelled, labelled_sound, rooted_labelled}
use Rattle.registers.specs.Layout.{deepest, entry_place}
use Rattle.registers.specs.Entries.{register_bytes}
use Rattle.registers.specs.Holds.{identities as identities_of, Whole, Holds}
use Rattle.registers.specs.Questions.{is_register_sound}
use Rattle.registers.proofs.HoldsLaws.{holds_sound}
use Rattle.tables.specs.Table.{rows_of}
use Rattle.tables.specs.Rules.{checked_of}
use Rattle.tables.specs.Accepted.{named, identities, table_tree}
use Rattle.tables.specs.Labelling.{labelled_tree, label_as, label_outcome}
use Rattle.tables.proofs.RowLaws.{rows_length}
use Rattle.tables.proofs.AcceptedLaws.{accepted, accepted_tree}
use Rattle.tables.proofs.TourLaws.{naming, named_length}
use Rattle.tables.proofs.LabelLaws.{count_most, tree_size, tree_codes, outcome_written}

abbrev identity : Name → ℕ
identity n = n.identity

some_root : (t : List (Name × ℕ)) → 1 ≤ length t → Ruled deepest t → Rooted (labelled (forest t))
some_root [] s h = absurd (omega arith)
some_root (p ∷ t) s h = rooted_labelled deepest p t h

module _ (t : List ℕ) (n : ℕ) (e : checked_of t ≡ Ok n) where
  -- the identities of the register are those of the rows
  same_identities : identities_of (preorder (labelled_tree t)) ≡ identities (rows_of t)
  same_identities =
      let f = table_tree t in
      let us = preorder (labelled f) in
      let r : map (λ p. p.0) (named (rows_of t)) ≡ preorder f = ap (map (λ p. p.0)) (sym (accepted_tree t n e)) ∙ preorder_rows 0 f in
      let q : map names us ≡ preorder f = sym (preorder_image names (labelled f)) ∙ ap preorder (plain_labelled f) in
      sym (map_twice names identity us) ∙ ap (map identity) (q ∙ sym r)
      ∙ map_twice (λ p. p.0) identity (named (rows_of t)) ∙ map_twice naming (λ p. p.0.identity) (rows_of t)

  label_whole : Whole (labelled_tree t)
  label_whole =
      let a = accepted t n e in
      let s = tree_size t n e in
      let m = count_most t n e in
      record {
        rooted = some_root (named (rows_of t)) (rw (named_length t) (omega (arith, rows_length t, a.some))) a.ruled;
        most = omega (arith, size_labelled (table_tree t));
        real = subst (All (λ x. x ≢ 0)) (sym same_identities) a.real;
        distinct = subst Distinct (sym same_identities) a.distinct;
        sound = labelled_sound IsCode (suc deepest) (table_tree t) (ruled_height deepest (named (rows_of t)) a.ruled)
            (tree_codes t n e);
      }

  -- demand 2: the register of an accepted table is sound ..
  pub label_holds : (lent : List ℕ) → entry_place n ≤ length lent → Holds (label_outcome t lent).bytes (labelled_tree t)
  label_holds lent room = record {
    whole = label_whole;
    bytes =
        ap (λ (o : Outcome). take (length (register_bytes (preorder (labelled_tree t)))) o.bytes) (outcome_written t n e lent room)
        ∙ put_run lent 0 (register_bytes (preorder (labelled_tree t))) (omega arith);
  }

  -- .. as the test of a register says too ..
  pub label_sound : (lent : List ℕ) → entry_place n ≤ length lent → is_register_sound (label_outcome t lent).bytes ≡ true
  label_sound lent room = holds_sound (label_outcome t lent).bytes (labelled_tree t) (label_holds lent room)

  -- demand 3: .. and its codes have at most m digits, m least such that 3 ^ m > 2N
  pub label_within : (m : ℕ) → Enough 3 (2 * n) m → All (Within 1 3 m) (codes (labelled_tree t))
  label_within m k = within_labelled (table_tree t) m (subst (λ j. Enough 3 (2 * j) m) (sym (tree_size t n e)) k)

-- .. and its plain tree is the one whose rows are the table's
pub label_plain : (t : List ℕ) → plain (labelled_tree t) ≡ table_tree t
label_plain t = plain_labelled (table_tree t)

-- an accepted table: its rows keep the rules, and the buffer has room
pub record Labelled (table lent : List ℕ) : Type 0 where
  pub rows : ℕ
  pub checked : checked_of table ≡ Ok rows
  pub room : entry_place rows ≤ length lent

pub label_accepted : (table lent : List ℕ) (n : ℕ) → (label_outcome table lent).answer ≡ Ok n → Labelled table lent
unfolding label_outcome
label_accepted table lent n a = go (checked_of table) refl a
  where
    go : (k : Result ℕ Refusal) → checked_of table ≡ k → (label_as k table lent).answer ≡ Ok n → Labelled table lent
    go (Err refusal) e h = accepted_refused (sym h)
    go (Ok k) e h =
        let t = unless_accepted (leb (entry_place k) (length lent)) Room lent _ n h in
        record { rows = k; checked = e; room = leb-true (entry_place k) (length lent) t.0 }

-- a refused table keeps the lent bytes
pub label_keeps : (table lent : List ℕ) → Unaltered lent (label_outcome table lent)
unfolding label_outcome
label_keeps table lent = go (checked_of table)
  where
    go : (k : Result ℕ Refusal) → Unaltered lent (label_as k table lent)
    go (Err refusal) = λ r e. refl
    go (Ok n) = keeps_unless (leb (entry_place n) (length lent)) Room lent _ (keeps_accepted lent _ _)
