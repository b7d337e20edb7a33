-- What a run of edits keeps: the buffer holds a sound labelled tree, its plain tree is the one that the accepted edits describe, and
-- no code is longer than the first ones by more than the number of accepted insertions.
-- Assumes nothing.
use Rattle.std.specs.Prelude.{Result, Ok, Err, ℕ}
use Rattle.answers.specs.declared.Refusal.{Refusal}
use mathlib.Core.Path.{◌≡◌, refl, sym, ap, ◌∙◌, subst}
use mathlib.Core.Logic.{◌⊎◌, inl, inr}
use mathlib.Core.List.{List, [], ◌∷◌, ◌++◌, map}
use Prim.Native.Nat.{ℕ, suc, ◌+◌, ◌<◌}
use native.Mathlib.Omega.{arith}
use Rattle.digits.specs.Lists.{Distinct}
use Rattle.digits.specs.Code.{Within}
use Rattle.codes.specs.Field.{field_of}
use Rattle.trees.specs.Lists.{Member}
use Rattle.trees.specs.Forest.{Forest, size, preorder}
use Rattle.trees.specs.Labelled.{Name, Entry, plain, Sound, names}
use Rattle.trees.specs.Edit.{Spot, leaf, put, ahead, behind, spot_of, without}
use Rattle.trees.specs.Neighbours.{new_entry, inserted_entry}
use Rattle.trees.proofs.ListLaws.{map_twice, member_left, member_right, member_append}
use Rattle.trees.proofs.ForestLaws.{has_gives_member}
use Rattle.trees.proofs.ImageLaws.{preorder_image, map_one}
use Rattle.trees.proofs.EditLaws.{order_spot, order_put, inserted_image, without_image}
use Rattle.trees.proofs.NeighbourLaws.{new_length, inserted_sound, sound_rest}
use Rattle.registers.specs.declared.Found.{Found}
use Rattle.registers.specs.declared.Found.TheVariants.{At}
use Rattle.registers.specs.Layout.{deepest}
use Rattle.registers.specs.Holds.{identities, Holds}
use Rattle.registers.specs.Sound.{label_bytes, line_at}
use Rattle.registers.specs.Questions.{count_of, found_from, found_in}
use Rattle.registers.proofs.SoundLaws.{has_place}
use Rattle.registers.proofs.BytesLaws.{label_parts}
use Rattle.registers.proofs.QuestionLaws.{sized_entries, labels_sound, sized_of}
use Rattle.registers.proofs.HoldsLaws.{lines_held, holds_sound}
use Rattle.edits.specs.declared.Edit.{Edit}
use Rattle.edits.specs.declared.Edit.TheVariants.{Insert, Delete}
use Rattle.edits.specs.declared.Place.{Place}
use Rattle.edits.specs.Edits.{where_of, target_of, apply_outcome}
use Rattle.edits.proofs.HoldsLaws.{insert_accepted, delete_accepted, apply_keeps}
use Rattle.demands.specs.Run.{number_in, changed_at, changed, answered, run, tree_after, insertion, insertions}
use Rattle.demands.specs.Demands.{LabelsStay}
use Rattle.demands.proofs.RightLaws.{count_tree, name_at, present}

-- the buffer holds a labelled tree whose plain tree is t and whose codes have at most m digits
pub record State (b : List ℕ) (t : Forest Name) (m : ℕ) : Type 0 where
  pub tree : Forest (Entry Name)
  pub holds : Holds b tree
  pub named : plain tree ≡ t
  pub bounded : Sound (Within 1 3 m) (suc deepest) [] [] [] tree

-- an identity has one number, in the buffer and in the plain tree
number_found : (b : List ℕ) (f : Forest (Entry Name)) (x : ℕ) → Holds b f → number_in x (plain f) ≡ found_in b x
number_found b f x h =
    ap (λ (ns : List Name). found_from 0 x (map (λ (n : Name). n.identity) ns)) (preorder_image names f)
    ∙ ap (found_from 0 x) (map_twice names (λ (n : Name). n.identity) (preorder f)) ∙ ap (λ us. found_from 0 x (identities us))
    (sym (lines_held b f h))

-- the plain tree of the labelled tree after an edit is that of the plain edit
module _ (b : List ℕ) (f : Forest (Entry Name)) (h : Holds b f) where
  inserted_plain : (place : Place) (identity tag i : ℕ) → found_in b (target_of place) ≡ At i
      → plain (inserted_entry (where_of place) i (record { identity = identity; tag = tag }) f)
      ≡ changed (Insert place identity tag) (plain f)
  inserted_plain place identity tag i e =
      let x : Name = record { identity = identity; tag = tag } in
      inserted_image names (where_of place) i (new_entry x f (spot_of (where_of place) i f)) f
      ∙ ap (λ (z : Found). changed_at z (Insert place identity tag) (plain f)) (sym (number_found b f (target_of place) h ∙ e))

  deleted_plain : (target i : ℕ) → found_in b target ≡ At i → plain (without i f) ≡ changed (Delete target) (plain f)
  deleted_plain target i e =
      without_image names i f
      ∙ ap (λ (z : Found). changed_at z (Delete target) (plain f)) (sym (number_found b f target h ∙ e))

-- an accepted edit: the codes of an insertion are longer by a digit at most
module _ (b : List ℕ) (f : Forest (Entry Name)) (h : Holds b f) (m : ℕ) (s : Sound (Within 1 3 m) (suc deepest) [] [] [] f) where
  insert_state : (place : Place) (identity tag n : ℕ) → (apply_outcome b (Insert place identity tag)).answer ≡ Ok n
      → State (apply_outcome b (Insert place identity tag)).bytes (changed (Insert place identity tag) (plain f)) (suc m)
  insert_state place identity tag n a =
      let w = where_of place in
      let x : Name = record { identity = identity; tag = tag } in
      let r = insert_accepted b f h w (target_of place) x n a in
      let i = r.number in
      let q = spot_of w i f in
      let l = new_length m (suc deepest) f q s x in
      record {
        tree = inserted_entry w i x f;
        holds = r.holds;
        named = inserted_plain b f h place identity tag i r.target;
        bounded = inserted_sound m (suc deepest) f q s x (suc m) (omega arith) r.level l.0 l.1;
      }

  delete_state : (target n : ℕ) → (apply_outcome b (Delete target)).answer ≡ Ok n
      → State (apply_outcome b (Delete target)).bytes (changed (Delete target) (plain f)) m
  delete_state target n a =
      let r = delete_accepted b f h target n a in
      let t = r.taken in
      record {
        tree = without n f;
        holds = r.holds;
        named = deleted_plain b f h target n r.target;
        bounded =
            subst (Sound (Within 1 3 m) (suc deepest) [] [] []) (sym t.taken_out) (sound_rest (Within 1 3 m) (suc deepest) n f t s);
      }

  accepted_state : (e : Edit) (n : ℕ) → (apply_outcome b e).answer ≡ Ok n
      → State (apply_outcome b e).bytes (changed e (plain f)) (insertion (Ok n) e m)
  accepted_state (Insert place identity tag) n a = insert_state place identity tag n a
  accepted_state (Delete target) n a = delete_state target n a

-- one edit, accepted or refused
step_state : (b : List ℕ) (t : Forest Name) (m : ℕ) → State b t m → (e : Edit)
    → State (apply_outcome b e).bytes (answered (apply_outcome b e).answer e t) (insertion (apply_outcome b e).answer e m)
step_state b t m s e = go (apply_outcome b e).answer refl
  where
    go : (a : Result ℕ Refusal) → (apply_outcome b e).answer ≡ a → State (apply_outcome b e).bytes (answered a e t) (insertion a e m)
    go (Ok n) k =
        subst (λ (u : Forest Name). State (apply_outcome b e).bytes (changed e u) (insertion (Ok n) e m)) s.named
        (accepted_state b s.tree s.holds m s.bounded e n k)
    go (Err r) k = subst (λ (c : List ℕ). State c t m) (sym (apply_keeps b e r k)) s

-- any run
insertion_add : (a : Result ℕ Refusal) (e : Edit) (m k : ℕ) → insertion a e m + k ≡ m + insertion a e k
insertion_add (Ok n) (Insert place identity tag) m k = omega arith
insertion_add (Ok n) (Delete target) m k = refl
insertion_add (Err r) e m k = refl

pub run_state : (es : List Edit) (b : List ℕ) (t : Forest Name) (m : ℕ) → State b t m
    → State (run es b) (tree_after es b t) (m + insertions es b)
run_state [] b t m s = subst (State b t) (let z : m ≡ m + 0 = omega arith in z) s
run_state (e ∷ es) b t m s =
    subst (State _ _) (insertion_add (apply_outcome b e).answer e m (insertions es (apply_outcome b e).bytes))
    (run_state es (apply_outcome b e).bytes _ _ (step_state b t m s e))

-- two buffers with one line have one label
same_label : (b c : List ℕ) (f g : Forest (Entry Name)) (h : Holds b f) (k : Holds c g) (i j : ℕ) → i < size (plain f) → j < size (plain g)
    → line_at b i ≡ line_at c j → label_bytes b i ≡ label_bytes c j
same_label b c f g h k i j p q e =
    parts b f h i p
    ∙ ap (λ (u : Entry Name). field_of u.start ++ (field_of u.end ++ field_of u.parent)) e ∙ sym (parts c g k j q)
  where
    parts : (d : List ℕ) (t : Forest (Entry Name)) → Holds d t → (n : ℕ) → n < size (plain t)
        → label_bytes d n ≡ field_of (line_at d n).start ++ (field_of (line_at d n).end ++ field_of (line_at d n).parent)
    parts d t y n l =
        let s = holds_sound d t y in
        let z : n < count_of d = omega (arith, count_tree d t y) in
        label_parts d n (has_place d (count_of d) n (sized_entries d (sized_of d s)) z) (labels_sound d n s z)

-- all entries of one tree are entries of the other
abbrev Included : Forest (Entry Name) → Forest (Entry Name) → Type 0
Included f g = (u : Entry Name) → Member u (preorder f) → Member u (preorder g)

one_entry : (f : Forest (Entry Name)) → Distinct (identities (preorder f)) → (u v : Entry Name) → Member u (preorder f) → Member v
    (preorder f)
    → u.name.identity ≡ v.name.identity → u ≡ v
one_entry f d u v h k e = map_one (λ (w : Entry Name). w.name.identity) (preorder f) d u v h k e

labels_stay : (b c : List ℕ) (f g : Forest (Entry Name)) → Holds b f → Holds c g → Included f g ⊎ Included g f
    → LabelsStay b (plain f) c (plain g)
labels_stay b c f g h k r i j p q e = same_label b c f g h k i j p q (go r)
  where
    u : Member (line_at b i) (preorder f)
    u = has_gives_member f (line_at b i) (present b f h i p)

    v : Member (line_at c j) (preorder g)
    v = has_gives_member g (line_at c j) (present c g k j q)

    same : (line_at b i).name.identity ≡ (line_at c j).name.identity
    same = ap (λ (n : Name). n.identity) (sym (name_at b f h i p)) ∙ e ∙ ap (λ (n : Name). n.identity) (name_at c g k j q)

    go : Included f g ⊎ Included g f → line_at b i ≡ line_at c j
    go (inl n) = one_entry g k.whole.distinct (line_at b i) (line_at c j) (n (line_at b i) u) v same
    go (inr n) = one_entry f h.whole.distinct (line_at b i) (line_at c j) u (n (line_at c j) v) same

-- a row put in leaves all entries there
included_put : (g f : Forest (Entry Name)) (q : Spot f) → Included f (put g f q)
included_put g f q u m =
    subst (Member u) (sym (order_put g f q)) (go (member_append (ahead f q) (behind f q) u (subst (Member u) (order_spot f q) m)))
  where
    go : Member u (ahead f q) ⊎ Member u (behind f q) → Member u (ahead f q ++ (preorder g ++ behind f q))
    go (inl k) = member_left (ahead f q) (preorder g ++ behind f q) u k
    go (inr k) = member_right (ahead f q) (preorder g ++ behind f q) u (member_right (preorder g) (behind f q) u k)

-- demand 2: a present entry's label never changes
module _ (b : List ℕ) (f : Forest (Entry Name)) (h : Holds b f) where
  accepted_stay : (e : Edit) (n : ℕ) → (apply_outcome b e).answer ≡ Ok n
      → LabelsStay b (plain f) (apply_outcome b e).bytes (changed e (plain f))
  accepted_stay (Insert place identity tag) n a =
      let w = where_of place in
      let x : Name = record { identity = identity; tag = tag } in
      let r = insert_accepted b f h w (target_of place) x n a in
      let q = spot_of w r.number f in
      subst (LabelsStay b (plain f) (apply_outcome b (Insert place identity tag)).bytes)
      (inserted_plain b f h place identity tag r.number r.target)
      (labels_stay b _ f (inserted_entry w r.number x f) h r.holds (inl (included_put (leaf (new_entry x f q)) f q)))
  accepted_stay (Delete target) n a =
      let r = delete_accepted b f h target n a in
      let t = r.taken in
      subst (LabelsStay b (plain f) (apply_outcome b (Delete target)).bytes) (deleted_plain b f h target n r.target)
      (labels_stay b _ f (without n f) h r.holds
      (inr (subst (λ g. Included g f) (sym t.taken_out) (subst (Included t.rest) t.put_back
      (included_put (leaf t.entry) t.rest t.spot)))))

pub step_stay : (b : List ℕ) (t : Forest Name) (m : ℕ) → State b t m → (e : Edit)
    → LabelsStay b t (apply_outcome b e).bytes (answered (apply_outcome b e).answer e t)
step_stay b t m s e = go (apply_outcome b e).answer refl
  where
    go : (a : Result ℕ Refusal) → (apply_outcome b e).answer ≡ a → LabelsStay b t (apply_outcome b e).bytes (answered a e t)
    go (Ok n) k =
        subst (λ (u : Forest Name). LabelsStay b u (apply_outcome b e).bytes (changed e u)) s.named
        (accepted_stay b s.tree s.holds e n k)
    go (Err r) k =
        subst (λ (c : List ℕ). LabelsStay b t c t) (sym (apply_keeps b e r k))
        (subst (λ (u : Forest Name). LabelsStay b u b u) s.named
        (labels_stay b b s.tree s.tree s.holds s.holds (inl (λ u n. n))))
