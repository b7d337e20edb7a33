-- What an edit answers, and every byte of the lent register after it: the edit on the tree that the register holds. Assumes nothing.
use Rattle.std.specs.Prelude.{Bool, cond, true, ◌&&◌, List, ℕ, ◌+◌, leb, ltb, length}
use Rattle.answers.specs.declared.Refusal.TheVariants.{Identity, Room, Register, Target, Root, CodeLength, Children, Depth}
use Rattle.answers.specs.Outcome.{Outcome, accepted, refused, unless}
use Rattle.codes.specs.Code.{longest}
use Rattle.identities.specs.Rows.{is_fresh}
use Rattle.trees.specs.Forest.{Forest}
use Rattle.trees.specs.Labelled.{Name, Entry}
use Rattle.trees.specs.Edit.{Where, first_child, last_child, before, after, is_inside, Spot, ahead, level_at, spot_of, is_leaf}
use Rattle.trees.specs.Neighbours.{new_entry}
use Rattle.registers.specs.declared.Found.{Found}
use Rattle.registers.specs.declared.Found.TheVariants.{At, Nothing}
use Rattle.registers.specs.Layout.{most_entries, deepest, entry_place}
use Rattle.registers.specs.Holds.{identities}
use Rattle.registers.specs.Questions.{count_of, lines_of, is_register_sound, found_in, tree_in}
use Rattle.edits.specs.declared.Place.{Place}
use Rattle.edits.specs.declared.Place.TheVariants.{FirstChildOf, LastChildOf, Before, After}
use Rattle.edits.specs.declared.Edit.{Edit}
use Rattle.edits.specs.declared.Edit.TheVariants.{Insert, Delete}
use Rattle.edits.specs.Splice.{inserted_bytes, deleted_bytes}

-- 01, Edit: an insertion names one of four places and its target
abbrev pub where_of : Place → Where
where_of (FirstChildOf target) = first_child
where_of (LastChildOf target) = last_child
where_of (Before target) = before
where_of (After target) = after

abbrev pub target_of : Place → ℕ
target_of (FirstChildOf target) = target
target_of (LastChildOf target) = target
target_of (Before target) = target
target_of (After target) = target

-- 01, refusal 7: before and after are not aimed at the root, the entry at place 0
abbrev pub is_parented : Where → ℕ → Bool
is_parented w i = cond (is_inside w) true (ltb 0 i)

-- 01, refusal 4: the buffer has room for one entry more, and the register has fewer than 4,096
abbrev pub has_room : List ℕ → Bool
has_room bytes = ltb (count_of bytes) most_entries && leb (entry_place (count_of bytes + 1)) (length bytes)

-- 01, refusal 8: neither new code would pass 127 digits
abbrev pub is_fitting : Entry Name → Bool
is_fitting u = leb (length u.start) longest && leb (length u.end) longest

-- a place of entry i, as a gap of the tree that a register holds
abbrev pub spot_in : (bytes : List ℕ) → Where → ℕ → Spot (tree_in bytes)
spot_in bytes w i = spot_of w i (tree_in bytes)

-- the entry put into a gap of the tree f, with its codes between the neighbours, and answered by its place
abbrev pub put_outcome : List ℕ → Name → (f : Forest (Entry Name)) → Spot f → Outcome
put_outcome bytes name f q =
    unless (is_fitting (new_entry name f q)) CodeLength bytes
    (accepted (length (ahead f q)) (inserted_bytes bytes (length (ahead f q)) (new_entry name f q)))

-- 01, Insertion: 7, 3, 10, 4, 8, where the target is entry number i
abbrev pub insert_at : List ℕ → Where → ℕ → Name → Outcome
insert_at bytes w i name =
    let f = tree_in bytes in
    let q = spot_in bytes w i in
    unless (is_parented w i) Root bytes
    (unless (is_fresh name.identity (identities (lines_of bytes))) Identity bytes
    (unless (leb (level_at f q) deepest) Depth bytes (unless (has_room bytes) Room bytes (put_outcome bytes name f q))))

-- 01: a target that is not found ends the call there, 6
abbrev pub insert_found : List ℕ → Where → Found → Name → Outcome
insert_found bytes w (At i) name = insert_at bytes w i name
insert_found bytes w Nothing name = refused Target bytes

-- 01, Insertion: 5, 6, 7, 3, 10, 4, 8
unfoldable pub insert_outcome : List ℕ → Where → ℕ → Name → Outcome
insert_outcome bytes w target name =
    unless (is_register_sound bytes) Register bytes (insert_found bytes w (found_in bytes target) name)

-- 01, Deletion: 7, 9, where the target is entry number i
abbrev pub delete_at : List ℕ → ℕ → Outcome
delete_at bytes i =
    unless (ltb 0 i) Root bytes (unless (is_leaf i (tree_in bytes)) Children bytes (accepted i (deleted_bytes bytes i)))

abbrev pub delete_found : List ℕ → Found → Outcome
delete_found bytes (At i) = delete_at bytes i
delete_found bytes Nothing = refused Target bytes

-- 01, Deletion: 5, 6, 7, 9
unfoldable pub delete_outcome : List ℕ → ℕ → Outcome
delete_outcome bytes target = unless (is_register_sound bytes) Register bytes (delete_found bytes (found_in bytes target))

abbrev pub apply_outcome : List ℕ → Edit → Outcome
apply_outcome bytes (Insert place identity tag) =
    insert_outcome bytes (where_of place) (target_of place) (record { identity = identity; tag = tag })
apply_outcome bytes (Delete target) = delete_outcome bytes target
