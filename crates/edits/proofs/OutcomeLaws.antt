-- Laws of the outcome of an edit, test by test in the paper's order. Assumes nothing.
use mathlib.Core.Path.{◌≡◌, refl, sym}
use mathlib.Core.Bool.{Bool, true, false, and-eq-true_iff}
use mathlib.Core.List.{List}
use Prim.Native.Nat.{ℕ, ◌+◌, ◌≤◌, ◌<◌}
use native.Mathlib.Omega.{arith}
use lib.Dec.{leb, ltb}
use lib.ListN.{length}
use borrow.Author.Tests.{ltb-true, leb-true, le-leb}
use Rattle.answers.specs.declared.Refusal.{Refusal}
use Rattle.answers.specs.declared.Refusal.TheVariants.{Identity, Room, Register, Target, Root, CodeLength, Children, Depth}
use Rattle.answers.specs.Number.{number_of}
use Rattle.answers.specs.Outcome.{Outcome, accepted, refused, unless}
use Rattle.answers.proofs.OutcomeLaws.{unless_case}
use Rattle.codes.specs.Code.{longest}
use Rattle.identities.specs.Rows.{is_fresh}
use Rattle.identities.proofs.RowLaws.{fresh_used, fresh_right}
use Rattle.trees.specs.Forest.{Forest}
use Rattle.trees.specs.Labelled.{Name, Entry}
use Rattle.trees.specs.Edit.{Where, Spot, ahead, level_at, is_leaf}
use Rattle.trees.specs.Neighbours.{new_entry}
use Rattle.registers.specs.declared.Found.{Found}
use Rattle.registers.specs.declared.Found.TheVariants.{At, Nothing}
use Rattle.registers.specs.Layout.{most_entries, deepest, entry_place}
use Rattle.registers.specs.Holds.{identities}
use Rattle.registers.specs.Questions.{count_of, lines_of, is_register_sound, found_in, tree_in}
use Rattle.registers.proofs.QuestionLaws.{found_among, among_found}
use Rattle.edits.specs.Splice.{inserted_bytes, deleted_bytes}
use Rattle.edits.specs.Edits.{is_parented, has_room, spot_in, put_outcome, insert_at, insert_found, insert_outcome, delete_found, delete_outcome}

-- 8
module _ (b : List ℕ) (m : Name) (f : Forest (Entry Name)) (q : Spot f) where
  abbrev x : Entry Name
  x = new_entry m f q

  pub put_done : length x.start ≤ longest → length x.end ≤ longest
      → put_outcome b m f q ≡ accepted (length (ahead f q)) (inserted_bytes b (length (ahead f q)) x)
  put_done h k = rw (le-leb (length x.start) longest h, le-leb (length x.end) longest k) refl

-- a fresh identity: not 0, and not found
module _ (b : List ℕ) (x : ℕ) where
  pub found_identity : (j : ℕ) → found_in b x ≡ At j → false ≡ is_fresh x (identities (lines_of b))
  found_identity j e = sym (fresh_used x (identities (lines_of b)) (among_found x 0 j (identities (lines_of b)) e))

  pub new_identity : ((x ≡ 0) → ⊥) → found_in b x ≡ Nothing → true ≡ is_fresh x (identities (lines_of b))
  new_identity h e = sym (fresh_right x (identities (lines_of b)) (h, found_among x 0 (identities (lines_of b)) e))

pub ruleset freshness = (found_identity, new_identity)

-- an identity that is not fresh
pub at_used : (b : List ℕ) (w : Where) (i : ℕ) (m : Name) → is_parented w i ≡ true
    → is_fresh m.identity (identities (lines_of b)) ≡ false → insert_at b w i m ≡ refused Identity b
at_used b w i m e k = rw (e, k) refl

-- room for one more
module _ (b : List ℕ) where
  pub room_for : has_room b ≡ true → (count_of b < most_entries) × (entry_place (count_of b + 1) ≤ length b)
  room_for e =
      let a = (and-eq-true_iff (ltb (count_of b) most_entries) (leb (entry_place (count_of b + 1)) (length b))).0 e in
      (ltb-true (count_of b) most_entries a.0, leb-true (entry_place (count_of b + 1)) (length b) a.1)

-- the tests of an insertion that come before 8, at entry i
pub record Passed (b : List ℕ) (w : Where) (t : ℕ) (m : Name) (i : ℕ) : Type 0 where
  pub sound : is_register_sound b ≡ true
  pub target : found_in b t ≡ At i
  pub parented : is_parented w i ≡ true
  pub new : is_fresh m.identity (identities (lines_of b)) ≡ true
  pub level : level_at (tree_in b) (spot_in b w i) ≤ deepest
  pub room : has_room b ≡ true

-- what holds of every other refusal, and where those tests held, holds of the insertion
module _ (b : List ℕ) (P : Outcome → Type 0) (other : (r : Refusal) → (number_of r ≡ number_of CodeLength → ⊥) → P (refused r b)) where
  test : (t : Bool) (r : Refusal) (o : Outcome) → (number_of r ≡ number_of CodeLength → ⊥) → (t ≡ true → P o) → P (unless t r b o)
  test t r o n y = unless_case P t r b o (other r n) y

  pub insert_cases : (w : Where) (t : ℕ) (m : Name) → ((i : ℕ) → Passed b w t m i → P (put_outcome b m (tree_in b) (spot_in b w i)))
      → P (insert_outcome b w t m)
  unfolding insert_outcome
  insert_cases w t m y = test (is_register_sound b) Register _ (λ n. omega arith) (λ e. go e (found_in b t) refl)
    where
      go : is_register_sound b ≡ true → (k : Found) → found_in b t ≡ k → P (insert_found b w k m)
      go e Nothing k = other Target (λ n. omega arith)
      go e (At i) k =
          test (is_parented w i) Root _ (λ n. omega arith)
          (λ p. test (is_fresh m.identity (identities (lines_of b))) Identity _ (λ n. omega arith)
          (λ f. test (leb (level_at (tree_in b) (spot_in b w i)) deepest) Depth _ (λ n. omega arith)
          (λ d. test (has_room b) Room _ (λ n. omega arith)
          (λ r. y i (record { sound = e; target = k; parented = p; new = f; level = leb-true _ deepest d; room = r })))))

  pub delete_cases : (t : ℕ)
      → ((i : ℕ) → is_register_sound b ≡ true → found_in b t ≡ At i → 0 < i → is_leaf i (tree_in b) ≡ true
      → P (accepted i (deleted_bytes b i)))
      → P (delete_outcome b t)
  unfolding delete_outcome
  delete_cases t y = test (is_register_sound b) Register _ (λ n. omega arith) (λ e. go e (found_in b t) refl)
    where
      go : is_register_sound b ≡ true → (k : Found) → found_in b t ≡ k → P (delete_found b k)
      go e Nothing k = other Target (λ n. omega arith)
      go e (At i) k =
          test (ltb 0 i) Root _ (λ n. omega arith)
          (λ p. test (is_leaf i (tree_in b)) Children _ (λ n. omega arith) (λ l. y i e k (ltb-true 0 i p) l))
