-- A run of edits over a lent buffer, the plain tree that the accepted ones describe, and how many of them were insertions.
-- The plain tree knows nothing of codes or bytes.
-- Assumes nothing.
use Rattle.std.specs.Prelude.{List, [], ◌∷◌, map, ℕ, zero, suc, Result, Ok, Err}
use Rattle.answers.specs.declared.Refusal.{Refusal}
use Rattle.trees.specs.Forest.{Forest, preorder}
use Rattle.trees.specs.Labelled.{Name}
use Rattle.trees.specs.Edit.{inserted, without}
use Rattle.registers.specs.declared.Found.{Found}
use Rattle.registers.specs.declared.Found.TheVariants.{At, Nothing}
use Rattle.registers.specs.Questions.{found_from}
use Rattle.edits.specs.declared.Edit.{Edit}
use Rattle.edits.specs.declared.Edit.TheVariants.{Insert, Delete}
use Rattle.edits.specs.Edits.{where_of, target_of, apply_outcome}

-- the number in document order of the entry with an identity
abbrev pub number_in : ℕ → Forest Name → Found
number_in x t = found_from 0 x (map (λ (n : Name). n.identity) (preorder t))

-- 01, Edit, on the plain tree: a leaf put in at its place, or the target taken out
abbrev pub changed_at : Found → Edit → Forest Name → Forest Name
changed_at (At i) (Insert place identity tag) t = inserted (where_of place) i (record { identity = identity; tag = tag }) t
changed_at (At i) (Delete target) t = without i t
changed_at Nothing edit t = t

abbrev pub target_in : Edit → ℕ
target_in (Insert place identity tag) = target_of place
target_in (Delete target) = target

abbrev pub changed : Edit → Forest Name → Forest Name
changed edit t = changed_at (number_in (target_in edit) t) edit t

-- a refused edit changes nothing
abbrev pub answered : Result ℕ Refusal → Edit → Forest Name → Forest Name
answered (Ok place) edit t = changed edit t
answered (Err refusal) edit t = t

-- the bytes after a run: each edit is applied to what the one before it left
abbrev pub run : List Edit → List ℕ → List ℕ
run [] bytes = bytes
run (edit ∷ edits) bytes = run edits (apply_outcome bytes edit).bytes

-- the plain tree after a run
abbrev pub tree_after : List Edit → List ℕ → Forest Name → Forest Name
tree_after [] bytes t = t
tree_after (edit ∷ edits) bytes t =
    tree_after edits (apply_outcome bytes edit).bytes (answered (apply_outcome bytes edit).answer edit t)

-- one more than k for an accepted insertion
abbrev pub insertion : Result ℕ Refusal → Edit → ℕ → ℕ
insertion (Ok place) (Insert p identity tag) k = suc k
insertion (Ok place) (Delete target) k = k
insertion (Err refusal) edit k = k

-- how many insertions of a run were accepted
abbrev pub insertions : List Edit → List ℕ → ℕ
insertions [] bytes = zero
insertions (edit ∷ edits) bytes = insertion (apply_outcome bytes edit).answer edit (insertions edits (apply_outcome bytes edit).bytes)
