-- An edit of a register is the edit of the tree that it holds: accepted, the tree with the new leaf or without the old one; refused,
-- no byte changed. Assumes nothing.
use Rattle.answers.specs.declared.Refusal.{Refusal}
use Rattle.std.specs.Prelude.{Result, Ok}
use mathlib.Core.Path.{◌≡◌, refl, sym, ap, ◌∙◌, subst}
use mathlib.Core.Logic.{◌≢◌}
use mathlib.Core.Bool.{true, and-eq-true_iff}
use mathlib.Core.List.{List, ◌∷◌, ◌++◌}
use Prim.Native.Nat.{ℕ, suc, ◌≤◌, ◌<◌}
use native.Mathlib.Omega.{arith}
use lib.Dec.{leb}
use lib.ListN.{length, take}
use borrow.Author.Tests.{leb-true}
use Rattle.digits.specs.Lists.{All, Distinct}
use Rattle.digits.proofs.ListLaws.{all_part, all_join}
use Rattle.answers.specs.declared.Refusal.TheVariants.{CodeLength}
use Rattle.answers.specs.Outcome.{Outcome, accepted, Unaltered}
use Rattle.answers.proofs.OutcomeLaws.{accepted_refused, unless_accepted, keeps_unless, keeps_accepted}
use Rattle.codes.specs.Code.{longest, IsCode}
use Rattle.identities.specs.Rows.{is_fresh}
use Rattle.identities.proofs.RowLaws.{new, differs}
use Rattle.trees.specs.Forest.{Forest, size, preorder, Rooted}
use Rattle.trees.specs.Labelled.{Name, Entry}
use Rattle.trees.specs.Edit.{Where, Spot, leaf, put, ahead, behind, level_at, spot_of, is_leaf, without}
use Rattle.trees.specs.Neighbours.{new_entry, inserted_entry}
use Rattle.trees.proofs.ListLaws.{all_left, all_right, all_append, distinct_put, distinct_cut, map_append}
use Rattle.trees.proofs.EditLaws.{order_spot, order_put, size_put, Taken, taken, rooted_inserted, rooted_without}
use Rattle.trees.proofs.NeighbourLaws.{inserted_sound, sound_rest}
use Rattle.registers.specs.declared.Found.TheVariants.{At}
use Rattle.registers.specs.Layout.{deepest}
use Rattle.registers.specs.Entries.{register_bytes}
use Rattle.registers.specs.Holds.{identities, Whole, Holds}
use Rattle.registers.specs.Questions.{found_in, tree_in}
use Rattle.registers.proofs.QuestionLaws.{found_inside}
use Rattle.registers.proofs.HoldsLaws.{lines_held, whole_bytes, count_is, count_size}
use Rattle.registers.proofs.AnswerLaws.{tree_held}
use Rattle.edits.specs.Splice.{inserted_bytes, deleted_bytes}
use Rattle.edits.specs.declared.Edit.{Edit}
use Rattle.edits.specs.declared.Edit.TheVariants.{Insert, Delete}
use Rattle.edits.specs.Edits.{where_of, target_of, has_room, is_fitting, insert_outcome, delete_outcome, apply_outcome, spot_in, put_outcome}
use Rattle.edits.proofs.SpliceLaws.{inserted_holds, deleted_holds}
use Rattle.edits.proofs.PlaceLaws.{inner}
use Rattle.edits.proofs.OutcomeLaws.{Passed, room_for, put_done, insert_cases, delete_cases}

abbrev identity : Entry Name → ℕ
identity u = u.name.identity

-- the identities with one more in the middle
with_identity : (us vs : List (Entry Name)) (x : Entry Name)
    → identities (us ++ (x ∷ vs)) ≡ identities us ++ (identity x ∷ identities vs)
with_identity us vs x = map_append identity us (x ∷ vs)

-- what a register that holds a tree says of it
module _ (b : List ℕ) (f : Forest (Entry Name)) (h : Holds b f) where
  -- 01, Edit: an entry put in with the codes between its neighbours
  module _ (w : Where) (i : ℕ) (m : Name) (k : i < size f) (p : 0 < level_at f (spot_of w i f))
      (new? : is_fresh m.identity (identities (preorder f)) ≡ true) (deep : level_at f (spot_of w i f) ≤ deepest) (room : has_room b ≡ true)
      (start : length (new_entry m f (spot_of w i f)).start ≤ longest) (end : length (new_entry m f (spot_of w i f)).end ≤ longest) where
    abbrev q : Spot f
    q = spot_of w i f

    abbrev x : Entry Name
    x = new_entry m f q

    order : preorder (put (leaf x) f q) ≡ ahead f q ++ (x ∷ behind f q)
    order = order_put (leaf x) f q

    inserted_identities : identities (preorder (put (leaf x) f q)) ≡ identities (ahead f q) ++ (m.identity ∷ identities (behind f q))
    inserted_identities = ap identities order ∙ with_identity (ahead f q) (behind f q) x

    old_identities : identities (preorder f) ≡ identities (ahead f q) ++ identities (behind f q)
    old_identities = ap identities (order_spot f q) ∙ map_append identity (ahead f q) (behind f q)

    inserted_whole : Whole (inserted_entry w i m f)
    inserted_whole =
        let us = identities (ahead f q) in
        let vs = identities (behind f q) in
        let n = new m.identity (identities (preorder f)) new? in
        let r = subst (All (λ y. y ≢ 0)) old_identities h.whole.real in
        record {
          rooted = rooted_inserted w i (leaf x) f h.whole.rooted k p;
          most = omega (arith, size_put (leaf x) f q, count_size b f h, (room_for b room).0);
          real =
              subst (All (λ y. y ≢ 0)) (sym inserted_identities)
              (all_join (λ y. y ≢ 0) us vs m.identity (all_left (λ y. y ≢ 0) us vs r) n.0 (all_right (λ y. y ≢ 0) us vs r));
          distinct =
              subst Distinct (sym inserted_identities)
              (distinct_put m.identity us vs
              (subst (All (λ y. m.identity ≢ y)) old_identities (differs m.identity (identities (preorder f)) n.1))
              (subst Distinct old_identities h.whole.distinct));
          sound = inserted_sound longest (suc deepest) f q h.whole.sound m longest (omega arith) (omega arith) start end;
        }

    inserted_held : Holds (inserted_bytes b (length (ahead f q)) x) (inserted_entry w i m f)
    inserted_held = record {
      whole = inserted_whole;
      bytes =
          subst (λ us. take (length (register_bytes us)) (inserted_bytes b (length (ahead f q)) x) ≡ register_bytes us) (sym order)
          (inserted_holds b (preorder f) (ahead f q) (behind f q) x (count_is b f h) (whole_bytes b f h) (order_spot f q));
    }

  -- 01, Edit: a leaf that is not the root taken out
  deleted_held : (i : ℕ) → i < size f → 0 < i → Taken i f → Holds (deleted_bytes b i) (without i f)
  deleted_held i k p t =
      let g = t.rest in
      let q = t.spot in
      let u = t.entry in
      let us = ahead g q in
      let vs = behind g q in
      let o : preorder f ≡ us ++ (u ∷ vs) = ap preorder (sym t.put_back) ∙ order_put (leaf u) g q in
      let n : identities (preorder f) ≡ identities us ++ (identity u ∷ identities vs) = ap identities o ∙ with_identity us vs u in
      let m : identities (preorder g) ≡ identities us ++ identities vs = ap identities (order_spot g q) ∙ map_append identity us vs in
      let r = all_part (λ y. y ≢ 0) (identities us) (identities vs) (identity u) (subst (All (λ y. y ≢ 0)) n h.whole.real) in
      subst (Holds (deleted_bytes b i)) (sym t.taken_out)
      (record {
        whole = record {
          rooted = subst Rooted t.taken_out (rooted_without i f h.whole.rooted k p);
          most = omega (arith, size_put (leaf u) g q, ap size t.put_back, h.whole.most);
          real = subst (All (λ y. y ≢ 0)) (sym m) (all_append (λ y. y ≢ 0) (identities us) (identities vs) r.0 r.2);
          distinct = subst Distinct (sym m) (distinct_cut (identity u) (identities us) (identities vs)
              (subst Distinct n h.whole.distinct));
          sound = sound_rest IsCode (suc deepest) i f t h.whole.sound;
        };
        bytes =
            subst (λ ws. take (length (register_bytes ws)) (deleted_bytes b i) ≡ register_bytes ws) (sym (order_spot g q))
            (subst (λ (j : ℕ). take (length (register_bytes (us ++ vs))) (deleted_bytes b j) ≡ register_bytes (us ++ vs)) t.place
            (deleted_holds b (preorder f) us vs u (count_is b f h) (whole_bytes b f h) o));
      })

-- an accepted insertion: its target is found, and the buffer holds the tree with the new leaf, whose place is answered
pub record Inserted (b : List ℕ) (w : Where) (t : ℕ) (m : Name) (f : Forest (Entry Name)) (n : ℕ) (after : List ℕ) : Type 0 where
  pub number : ℕ
  pub target : found_in b t ≡ At number
  pub place : n ≡ length (ahead f (spot_of w number f))
  pub level : level_at f (spot_of w number f) < suc deepest
  pub holds : Holds after (inserted_entry w number m f)

-- an accepted deletion: its target's place is answered, and the buffer holds the tree without it
pub record Deleted (b : List ℕ) (t : ℕ) (f : Forest (Entry Name)) (n : ℕ) (after : List ℕ) : Type 0 where
  pub target : found_in b t ≡ At n
  pub taken : Taken n f
  pub holds : Holds after (without n f)

answered : (o : Outcome) (n k : ℕ) (c : List ℕ) → o ≡ accepted k c → o.answer ≡ Ok n → n ≡ k
answered o n k c e a = let z : ◌≡◌ {A = Result ℕ Refusal} (Ok n) (Ok k) = sym a ∙ ap (λ (p : Outcome). p.answer) e in cc

-- in terms of the tree that the lines stand for
module _ (b : List ℕ) (h : Holds b (tree_in b)) where
  abbrev g : Forest (Entry Name)
  g = tree_in b

  inside_tree : (t i : ℕ) → found_in b t ≡ At i → i < size g
  inside_tree t i e = omega (arith, found_inside b t i e, count_size b g h)

  -- the codes of the new entry fit
  put_held : (w : Where) (t : ℕ) (m : Name) (n i : ℕ) → Passed b w t m i → (put_outcome b m g (spot_in b w i)).answer ≡ Ok n
      → Inserted b w t m g n (put_outcome b m g (spot_in b w i)).bytes
  put_held w t m n i c a =
      let q = spot_in b w i in
      let x = new_entry m g q in
      let f = unless_accepted (is_fitting x) CodeLength b _ n a in
      let z = (and-eq-true_iff (leb (length x.start) longest) (leb (length x.end) longest)).0 f.0 in
      let s = leb-true (length x.start) longest z.0 in
      let e = leb-true (length x.end) longest z.1 in
      let y = put_done b m g q s e in
      record {
        number = i;
        target = c.target;
        place = answered (put_outcome b m g q) n (length (ahead g q)) (inserted_bytes b (length (ahead g q)) x) y a;
        level = omega (arith, c.level);
        holds =
            subst (λ (p : Outcome). Holds p.bytes (inserted_entry w i m g)) (sym y)
            (inserted_held b g h w i m (inside_tree t i c.target) (inner b c.sound w i (found_inside b t i c.target) c.parented)
            (subst (λ us. is_fresh m.identity (identities us) ≡ true) (lines_held b g h) c.new) c.level c.room s e);
      }

  cut_held : (t n i : ℕ) → found_in b t ≡ At i → 0 < i → is_leaf i g ≡ true → ◌≡◌ {A = Result ℕ Refusal} (Ok i) (Ok n)
      → Deleted b t g n (deleted_bytes b i)
  cut_held t n i k p l a =
      let w = taken g i (inside_tree t i k) l in
      let r : Deleted b t g i (deleted_bytes b i) =
      record { target = k; taken = w; holds = deleted_held b g h i (inside_tree t i k) p w } in
      subst (λ j. Deleted b t g j (deleted_bytes b i)) (answered (accepted i (deleted_bytes b i)) i n (deleted_bytes b i) (cc) refl) r

  insert_here : (w : Where) (t : ℕ) (m : Name) (n : ℕ) → (insert_outcome b w t m).answer ≡ Ok n
      → Inserted b w t m g n (insert_outcome b w t m).bytes
  insert_here w t m n =
      insert_cases b (λ o. o.answer ≡ Ok n → Inserted b w t m g n o.bytes) (λ r _ e. accepted_refused (sym e)) w t m
      (put_held w t m n)

  delete_here : (t n : ℕ) → (delete_outcome b t).answer ≡ Ok n → Deleted b t g n (delete_outcome b t).bytes
  delete_here t n =
      delete_cases b (λ o. o.answer ≡ Ok n → Deleted b t g n o.bytes) (λ r _ e. accepted_refused (sym e)) t
      (λ i _ k p l a. cut_held t n i k p l a)

module _ (b : List ℕ) (f : Forest (Entry Name)) (h : Holds b f) where
  here : Holds b (tree_in b)
  here = subst (Holds b) (sym (tree_held b f h)) h

  pub insert_accepted : (w : Where) (t : ℕ) (m : Name) (n : ℕ) → (insert_outcome b w t m).answer ≡ Ok n
      → Inserted b w t m f n (insert_outcome b w t m).bytes
  insert_accepted w t m n a =
      subst (λ g. Inserted b w t m g n (insert_outcome b w t m).bytes) (tree_held b f h) (insert_here b here w t m n a)

  pub delete_accepted : (t n : ℕ) → (delete_outcome b t).answer ≡ Ok n → Deleted b t f n (delete_outcome b t).bytes
  delete_accepted t n a = subst (λ g. Deleted b t g n (delete_outcome b t).bytes) (tree_held b f h) (delete_here b here t n a)

-- a refused edit leaves every byte
put_keeps : (b : List ℕ) (m : Name) (f : Forest (Entry Name)) (q : Spot f) → Unaltered b (put_outcome b m f q)
put_keeps b m f q = keeps_unless (is_fitting (new_entry m f q)) CodeLength b _ (keeps_accepted b _ _)

pub apply_keeps : (b : List ℕ) (x : Edit) → Unaltered b (apply_outcome b x)
apply_keeps b (Insert place identity tag) =
    let m : Name = record { identity = identity; tag = tag } in
    insert_cases b (Unaltered b) (λ r _ s e. refl) (where_of place) (target_of place) m
    (λ i c. put_keeps b m (tree_in b) (spot_in b (where_of place) i))
apply_keeps b (Delete target) = delete_cases b (Unaltered b) (λ r _ s e. refl) target (λ i _ _ _ _. keeps_accepted b _ i)
