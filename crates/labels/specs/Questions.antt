-- The four questions on two labels, and what the host program is answered.
-- Assumes nothing.
use Rattle.std.specs.Prelude.{Bool, cond, not, ◌&&◌, List, [], ℕ, ℤ, Result, Ok, Err}
use Rattle.digits.specs.Order.{order_by, is_below}
use Rattle.answers.specs.declared.Refusal.{Refusal}
use Rattle.answers.specs.declared.Refusal.TheVariants as refusals
use Rattle.answers.specs.Number.{number_of}
use Rattle.answers.specs.Signed.{refused_as, yes_no, signed_as}
use Rattle.codes.specs.Reading.{is_same}
use Rattle.labels.specs.Label.{Label, label_of, is_sound}

-- 01: minus one, zero or plus one by start
abbrev pub order : Label → Label → ℤ
order u v = order_by u.start v.start

-- 01: u's start below v's and v's end below u's
abbrev pub is_above : Label → Label → Bool
is_above u v = is_below u.start v.start && is_below v.end u.end

-- an empty parent start
abbrev pub is_orphan : Label → Bool
is_orphan u = is_same u.parent []

-- 01: v's parent start is not empty and equals u's start
abbrev pub is_parent : Label → Label → Bool
is_parent u v = not (is_orphan v) && is_same v.parent u.start

-- 01: both parent starts non-empty and equal, starts different
abbrev pub is_sibling : Label → Label → Bool
is_sibling u v = not (is_orphan u) && not (is_orphan v) && is_same u.parent v.parent && not (is_same u.start v.start)

-- 11 unless both labels are sound
unfoldable pub asked : List ℕ → List ℕ → ℤ → ℤ
asked u v answer = cond (is_sound u && is_sound v) answer (refused_as (number_of refusals.Label))

-- the same as a result
unfoldable pub answered : {A : Type 0} → List ℕ → List ℕ → A → Result A Refusal
answered u v answer = cond (is_sound u && is_sound v) (Ok answer) (Err refusals.Label)

abbrev pub order_result : List ℕ → List ℕ → Result ℤ Refusal
order_result u v = answered u v (order (label_of u) (label_of v))

abbrev pub above_result : List ℕ → List ℕ → Result Bool Refusal
above_result u v = answered u v (is_above (label_of u) (label_of v))

abbrev pub parent_result : List ℕ → List ℕ → Result Bool Refusal
parent_result u v = answered u v (is_parent (label_of u) (label_of v))

abbrev pub sibling_result : List ℕ → List ℕ → Result Bool Refusal
sibling_result u v = answered u v (is_sibling (label_of u) (label_of v))

-- the numbers that C gets
abbrev pub order_answer : List ℕ → List ℕ → ℤ
order_answer u v = signed_as (λ z. z) (order_result u v)

abbrev pub above_answer : List ℕ → List ℕ → ℤ
above_answer u v = signed_as yes_no (above_result u v)

abbrev pub parent_answer : List ℕ → List ℕ → ℤ
parent_answer u v = signed_as yes_no (parent_result u v)

abbrev pub sibling_answer : List ℕ → List ℕ → ℤ
sibling_answer u v = signed_as yes_no (sibling_result u v)
