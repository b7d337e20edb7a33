-- What an edit answers fits a signed number of 32 bits: a place is at most 4,096. Assumes nothing.
use mathlib.Core.Path.{◌≡◌, ap}
use mathlib.Core.Bool.{true}
use mathlib.Core.List.{List}
use Prim.Native.Nat.{ℕ, ◌≤◌}
use native.Mathlib.Omega.{arith}
use lib.ListN.{length, length-append}
use Rattle.answers.specs.declared.Refusal.TheVariants.{CodeLength}
use Rattle.answers.specs.Signed.{Signable}
use Rattle.answers.proofs.SignedLaws.{unless_signable}
use Rattle.trees.specs.Forest.{Forest, size}
use Rattle.trees.specs.Labelled.{Name, Entry}
use Rattle.trees.specs.Edit.{Spot, ahead, behind}
use Rattle.trees.specs.Neighbours.{new_entry}
use Rattle.trees.proofs.ForestLaws.{length_preorder}
use Rattle.trees.proofs.EditLaws.{order_spot}
use Rattle.registers.specs.Questions.{is_register_sound, tree_in}
use Rattle.registers.proofs.QuestionLaws.{found_inside, sized_of}
use Rattle.edits.specs.declared.Edit.{Edit}
use Rattle.edits.specs.declared.Edit.TheVariants.{Insert, Delete}
use Rattle.edits.specs.Edits.{where_of, target_of, spot_in, is_fitting, put_outcome, apply_outcome}
use Rattle.edits.proofs.PlaceLaws.{tree_size}
use Rattle.edits.proofs.OutcomeLaws.{insert_cases, delete_cases}

-- no more entries stand before a gap than there are
ahead_most : {A : Type 0} (f : Forest A) (q : Spot f) → length (ahead f q) ≤ size f
ahead_most f q =
    let l = length-append (ahead f q) (behind f q) in
    omega (arith, length_preorder f, ap length (order_spot f q))

module _ (b : List ℕ) (e : is_register_sound b ≡ true) where
  abbrev f : Forest (Entry Name)
  f = tree_in b

  put_signable : (m : Name) (q : Spot f) → Signable (put_outcome b m f q).answer
  put_signable m q =
      unless_signable (is_fitting (new_entry m f q)) CodeLength b _
      (λ _. omega (arith, ahead_most f q, tree_size b e, (sized_of b e).most))

pub apply_signable : (b : List ℕ) (x : Edit) → Signable (apply_outcome b x).answer
apply_signable b (Insert place identity tag) =
    let m : Name = record { identity = identity; tag = tag } in
    insert_cases b (λ o. Signable o.answer) (λ r _. tt) (where_of place) (target_of place) m
    (λ i c. put_signable b c.sound m (spot_in b (where_of place) i))
apply_signable b (Delete target) =
    delete_cases b (λ o. Signable o.answer) (λ r _. tt) target
    (λ i e k _ _. omega (arith, found_inside b target i k, (sized_of b e).most))
