-- The three demands hold: for every accepted table, every lent buffer and every run of edits. Each statement is in specs/Demands.
-- Assumes nothing.
use Rattle.std.specs.Prelude.{Ok}
use mathlib.Core.Path.{◌≡◌, refl, sym, ap, ◌∙◌, subst}
use mathlib.Core.List.{List, []}
use Prim.Native.Nat.{ℕ, suc, ◌+◌, ◌*◌, ◌≤◌}
use native.Mathlib.Omega.{arith}
use lib.Dec.{leb}
use lib.ListN.{length, take}
use borrow.Author.Tests.{leb-true}
use Rattle.digits.specs.Lists.{All}
use Rattle.digits.specs.Order.{Digits}
use Rattle.digits.specs.Code.{Within, Enough}
use Rattle.digits.proofs.ListLaws.{all_map}
use Rattle.digits.proofs.CountLaws.{no_better, enough}
use Rattle.answers.specs.declared.Refusal.TheVariants.{Room, NoCode}
use Rattle.answers.specs.Outcome.{Outcome}
use Rattle.answers.proofs.OutcomeLaws.{unless_accepted}
use Rattle.numbers.specs.Bytes.{put}
use Rattle.numbers.proofs.PutLaws.{put_run}
use Rattle.codes.specs.Code.{longest, field_size, is_code}
use Rattle.codes.specs.Field.{field_of}
use Rattle.codes.specs.Calls.{pack_outcome, unpack_outcome}
use Rattle.codes.proofs.TestLaws.{is_code_true}
use Rattle.codes.proofs.FieldLaws.{field_length}
use Rattle.codes.proofs.ReadingLaws.{read_field}
use Rattle.codes.proofs.CallLaws.{pack_written, unpack_written, pack_keeps, unpack_keeps, between_keeps}
use Rattle.trees.specs.Forest.{Forest, size}
use Rattle.trees.specs.Labelled.{Name, Entry, plain, codes, Sound}
use Rattle.trees.proofs.LabelledLaws.{codes_labelled, plain_labelled, within_labelled}
use Rattle.trees.proofs.SearchLaws.{both_all}
use Rattle.registers.specs.Layout.{deepest}
use Rattle.registers.specs.Questions.{count_of, tree_in}
use Rattle.registers.proofs.HoldsLaws.{lines_held, sound_holds, holds_sound}
use Rattle.registers.proofs.AnswerLaws.{tree_held}
use Rattle.tables.specs.Accepted.{table_tree}
use Rattle.tables.specs.Labelling.{labelled_tree, label_outcome}
use Rattle.tables.proofs.HoldsLaws.{Labelled, label_accepted, label_keeps, label_holds}
use Rattle.edits.specs.declared.Edit.{Edit}
use Rattle.edits.proofs.HoldsLaws.{apply_keeps}
use Rattle.demands.specs.Run.{run, tree_after, insertions}
use Rattle.demands.specs.Answers.{AllRight}
use Rattle.demands.specs.Demands.{Demand1, Demand2, FromTable, FromRegister, EveryTable, ReadBack, Demand3, Lengths}
use Rattle.demands.proofs.RightLaws.{count_tree, all_right}
use Rattle.demands.proofs.RunLaws.{State, run_state, step_stay}
use Rattle.edits.proofs.LengthLaws.{never_long}

-- demand 1
-- not a program that writes before it refuses
pub demand_1 : Demand1
demand_1 = record {
  packing = pack_keeps;
  unpacking = unpack_keeps;
  between = between_keeps;
  labelling = label_keeps;
  editing = apply_keeps;
}

-- what a run starts from
start : (table lent : List ℕ) (m : ℕ) → Labelled table lent → All (Within 1 3 m) (codes (labelled_tree table))
    → State (label_outcome table lent).bytes (table_tree table) m
start table lent m l c =
    let h = label_holds table l.rows l.checked lent l.room in
    let s = h.whole.sound in
    record {
      tree = labelled_tree table;
      holds = h;
      named = plain_labelled (table_tree table);
      bounded = record { rising = s.rising; coded = c; parented = s.parented; height = s.height };
    }

-- demand 2
after_run : (b : List ℕ) (t : Forest Name) → State b t longest → (edits : List Edit) → Demand2 b t edits
after_run b t s edits =
    let r = run_state edits b t longest s in
    let c = run edits b in
    record {
      sound = holds_sound c r.tree r.holds;
      held = (r.tree, r.holds, r.named);
      count = subst (λ t. count_of c ≡ size t) r.named (count_tree c r.tree r.holds);
      right = subst (λ t. AllRight c t) r.named (all_right c r.tree r.holds);
      stay = λ edit. step_stay c (tree_after edits b t) _ r edit;
    }

-- not a program that answers of any other tree, loses an entry, a tag or a label, or counts a refused edit
pub demand_2 : FromTable
demand_2 table lent n a edits =
    let l = label_accepted table lent n a in
    let h = label_holds table l.rows l.checked lent l.room in
    after_run (label_outcome table lent).bytes (table_tree table) (start table lent longest l h.whole.sound.coded) edits

pub demand_2_on : FromRegister
demand_2_on b y e edits =
    let h = sound_holds b y e in
    let s : State b (plain h.tree) longest =
    record { tree = h.tree; holds = h.holds; named = refl; bounded = h.holds.whole.sound } in
    after_run b (plain (tree_in b)) (subst (λ f. State b (plain f) longest) (sym (tree_held b h.tree h.holds)) s) edits

-- not a program that labels by other thirds
pub first_codes : EveryTable
first_codes table lent n a =
    let l = label_accepted table lent n a in
    record {
      entries = lines_held (label_outcome table lent).bytes (labelled_tree table) (label_holds table l.rows l.checked lent l.room);
      same_tree = plain_labelled (table_tree table);
      codes_by_rule = codes_labelled (table_tree table);
    }

-- not a program that cuts a field at its separator
pub read_back : ReadBack
unfolding pack_outcome
read_back digits field lent n a room =
    let c = unless_accepted (is_code digits) NoCode field _ n a in
    let f = unless_accepted (leb field_size (length field)) Room field _ n c.1 in
    let k = leb-true field_size (length field) f.0 in
    let l = field_length digits in
    let e : take field_size (pack_outcome digits field).bytes ≡ field_of digits =
    ap (λ (o : Outcome). take field_size o.bytes) (pack_written digits field c.0 k)
    ∙ ap (λ (j : ℕ). take j (put field 0 (field_of digits))) (sym l) ∙ put_run field 0 (field_of digits) (omega arith) in
    ap (λ (z : List ℕ). unpack_outcome z lent) e
    ∙ unpack_written (field_of digits) lent digits (read_field digits (is_code_true digits c.0)) room

-- demand 3
pub lengths : (table lent : List ℕ) (n : ℕ) → (label_outcome table lent).answer ≡ Ok n → (m : ℕ)
    → Enough 3 (2 * size (table_tree table)) m → (edits : List Edit) → Demand3 table lent edits m
lengths table lent n a m e edits =
    let l = label_accepted table lent n a in
    let w = within_labelled (table_tree table) m e in
    let k = insertions edits (label_outcome table lent).bytes in
    let s = run_state edits (label_outcome table lent).bytes (table_tree table) m (start table lent m l w) in
    let b = run edits (label_outcome table lent).bytes in
    record {
      first = w;
      best = λ h xs q d c. no_better 1 3 (omega arith) m h xs (subst (λ (j : ℕ). Enough 3 j m) (sym q) e) c d;
      grown =
          subst (All (λ (u : Entry Name). (length u.start ≤ m + k) × (length u.end ≤ m + k)))
          (sym (lines_held b s.tree s.holds))
          (both_all (λ (x : Digits). length x ≤ m + k) s.tree
          (all_map (Within 1 3 (m + k)) (λ x. length x ≤ m + k) (λ x y. y.fits) (codes s.tree) s.bounded.coded));
      fits = λ h edit. never_long b (m + k) h
          (subst (Sound (Within 1 3 (m + k)) (suc deepest) [] [] []) (sym (tree_held b s.tree s.holds)) s.bounded) edit;
    }

-- not a program that cuts in halves, lengthens a code by two digits at a step, or gives 8 while there is room
pub demand_3 : Lengths
demand_3 table lent n a =
    let e = enough 3 (omega arith) (2 * size (table_tree table)) in
    (e.0, e.1, λ edits. lengths table lent n a e.0 e.1 edits)
