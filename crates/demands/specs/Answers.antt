-- What it means that a register says rightly which lies under which: its answers, by the definitions that the calls' contracts cite,
-- beside XPath's relations on the plain tree.
-- Assumes nothing.
use Rattle.std.specs.Prelude.{◌≡◌, List, ℕ, ◌<◌, ℤ, pos, negsuc, ◌-ℤ◌, get_or, Ok}
use Rattle.labels.specs.Questions.{order_answer, above_answer, parent_answer, sibling_answer}
use Rattle.trees.specs.Forest.{Forest, size, preorder}
use Rattle.trees.specs.Axes.{Parent, Ancestor, Sibling, Before, Depth}
use Rattle.trees.specs.Labelled.{Name}
use Rattle.registers.specs.Sound.{label_bytes}
use Rattle.registers.specs.Questions.{place_answer, depth_answer, distance_answer}

-- 01: yes is 1, no is 0; the answer is yes exactly where P holds
pub data Says (P : Type 0) : ℤ → Type 0 where
  rightly_yes : P → Says P (pos 1)
  rightly_no : (P → ⊥) → Says P (pos 0)

-- 01, Order: minus one, zero or plus one
pub data SaysOrder (before same behind : Type 0) : ℤ → Type 0 where
  minus_one : before → SaysOrder before same behind (negsuc 0)
  zero_one : same → SaysOrder before same behind (pos 0)
  plus_one : behind → SaysOrder before same behind (pos 1)

-- entry number i of a tree
abbrev pub entry : Forest Name → ℕ → Name
entry t i = get_or (preorder t) i (record { identity = 0; tag = 0 })

-- demand 2, of the entries at places i and j: the answers that their labels and the register give are those of the tree
pub record Right (bytes : List ℕ) (t : Forest Name) (i j : ℕ) : Type 0 where
  pub order : SaysOrder (Before (entry t i) (entry t j) t) (entry t i ≡ entry t j) (Before (entry t j) (entry t i) t)
      (order_answer (label_bytes bytes i) (label_bytes bytes j))
  pub above : Says (Ancestor (entry t i) (entry t j) t) (above_answer (label_bytes bytes i) (label_bytes bytes j))
  pub parent : Says (Parent (entry t i) (entry t j) t) (parent_answer (label_bytes bytes i) (label_bytes bytes j))
  pub sibling : Says (Sibling (entry t i) (entry t j) t) (sibling_answer (label_bytes bytes i) (label_bytes bytes j))
  pub distance : distance_answer bytes (entry t i).identity (entry t j).identity ≡ pos j -ℤ pos i
  pub place : place_answer bytes (entry t i).identity ≡ Ok i
  pub depth : (d : ℕ) × (depth_answer bytes (entry t i).identity ≡ pos d) × Depth (entry t i) d t

-- so for any two entries
abbrev pub AllRight : List ℕ → Forest Name → Type 0
AllRight bytes t = (i j : ℕ) → i < size t → j < size t → Right bytes t i j
