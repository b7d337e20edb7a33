-- Refusal 8 is never given while the longest code of a register is below the limit.
-- Assumes nothing.
use Rattle.std.specs.Prelude.{Err}
use mathlib.Core.Path.{◌≡◌, sym, ap, ◌∙◌}
use mathlib.Core.List.{List, []}
use Prim.Native.Nat.{ℕ, suc, ◌<◌}
use native.Mathlib.Omega.{arith}
use Rattle.digits.specs.Code.{Within}
use Rattle.answers.specs.declared.Refusal.TheVariants.{CodeLength}
use Rattle.answers.specs.Outcome.{Outcome}
use Rattle.answers.proofs.OutcomeLaws.{accepted_refused, other_refusal}
use Rattle.codes.specs.Code.{longest}
use Rattle.trees.specs.Forest.{Forest}
use Rattle.trees.specs.Labelled.{Name, Entry, Sound}
use Rattle.trees.specs.Edit.{Spot}
use Rattle.trees.proofs.NeighbourLaws.{new_length}
use Rattle.registers.specs.Layout.{deepest}
use Rattle.registers.specs.Questions.{tree_in}
use Rattle.edits.specs.declared.Edit.{Edit}
use Rattle.edits.specs.declared.Edit.TheVariants.{Insert, Delete}
use Rattle.edits.specs.Edits.{where_of, target_of, spot_in, put_outcome, apply_outcome}
use Rattle.edits.proofs.OutcomeLaws.{put_done, insert_cases, delete_cases}

module _ (b : List ℕ) (m : ℕ) (k : m < longest) (s : Sound (Within 1 3 m) (suc deepest) [] [] [] (tree_in b)) where
  abbrev f : Forest (Entry Name)
  f = tree_in b

  put_short : (x : Name) (q : Spot f) → (put_outcome b x f q).answer ≡ Err CodeLength → ⊥
  put_short x q e =
      let l = new_length m (suc deepest) f q s x in
      accepted_refused (sym (ap (λ (o : Outcome). o.answer) (put_done b x f q (omega (arith, l.0)) (omega (arith, l.1)))) ∙ e)

  pub never_long : (e : Edit) → (apply_outcome b e).answer ≡ Err CodeLength → ⊥
  never_long (Insert place identity tag) =
      let x : Name = record { identity = identity; tag = tag } in
      insert_cases b (λ o. o.answer ≡ Err CodeLength → ⊥) (λ r n e. other_refusal r CodeLength n e) (where_of place) (target_of place) x
      (λ i c. put_short x (spot_in b (where_of place) i))
  never_long (Delete target) =
      delete_cases b (λ o. o.answer ≡ Err CodeLength → ⊥) (λ r n e. other_refusal r CodeLength n e) target
      (λ i _ _ _ _ e. accepted_refused e)
