-- Where the codes that an edit looks at stand. Assumes nothing.
use Rattle.std.specs.Prelude.{Bool, cond, ℕ}
use Rattle.trees.specs.Edit.{Where, first_child, last_child, before, after, is_inside}
use Rattle.registers.specs.Layout.{start_place, end_place, parent_place}

-- where a search begins: at the first entry's end upward, at its start downward
abbrev pub outer_place : Bool → ℕ
outer_place up = cond up (end_place 0) (start_place 0)

-- the target's own code that is next to the place
abbrev pub own_place : Where → ℕ → ℕ
own_place first_child i = start_place i
own_place last_child i = end_place i
own_place before i = start_place i
own_place after i = end_place i

-- the parent start of an entry at the place: the target's start, or the target's own parent start
abbrev pub parent_from : Where → ℕ → ℕ
parent_from w i = cond (is_inside w) (start_place i) (parent_place i)
