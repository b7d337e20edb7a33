-- The three demands, as statements about the definitions that the public contracts cite. A run begins with an accepted table that is
-- labelled into a lent buffer of any length, or with a sound register; its edits may be refused or accepted, in any order.
-- Assumes nothing.
use Rattle.std.specs.Prelude.{◌≡◌, true, List, [], ℕ, ◌+◌, ◌*◌, ◌≤◌, ◌<◌, length, take, get_or, Ok, Err}
use Rattle.digits.specs.Lists.{All, Distinct}
use Rattle.digits.specs.Order.{Digits}
use Rattle.digits.specs.Code.{Within, Enough}
use Rattle.digits.specs.Thirds.{thirds}
use Rattle.answers.specs.declared.Refusal.TheVariants.{CodeLength}
use Rattle.answers.specs.Outcome.{accepted, Unaltered}
use Rattle.numbers.specs.Bytes.{put}
use Rattle.codes.specs.Code.{longest, field_size}
use Rattle.codes.specs.Calls.{pack_outcome, unpack_outcome, between_outcome}
use Rattle.trees.specs.Forest.{Forest, size, preorder}
use Rattle.trees.specs.Labelled.{Name, Entry, plain, codes}
use Rattle.registers.specs.Holds.{Holds}
use Rattle.registers.specs.Sound.{label_bytes}
use Rattle.registers.specs.Questions.{count_of, lines_of, is_register_sound, tree_in}
use Rattle.tables.specs.Accepted.{table_tree}
use Rattle.tables.specs.Labelling.{labelled_tree, label_outcome}
use Rattle.edits.specs.declared.Edit.{Edit}
use Rattle.edits.specs.Edits.{apply_outcome}
use Rattle.demands.specs.Run.{answered, run, tree_after, insertions}
use Rattle.demands.specs.Answers.{entry, AllRight}

-- demand 1: a refused call alters no byte that was lent to it
pub record Demand1 : Type 0 where
  pub packing : (digits lent : List ℕ) → Unaltered lent (pack_outcome digits lent)
  pub unpacking : (field lent : List ℕ) → Unaltered lent (unpack_outcome field lent)
  pub between : (left right lent : List ℕ) → Unaltered lent (between_outcome left right lent)
  pub labelling : (table lent : List ℕ) → Unaltered lent (label_outcome table lent)
  pub editing : (lent : List ℕ) (edit : Edit) → Unaltered lent (apply_outcome lent edit)

-- an entry that is present before and after has the same label, to the byte
abbrev pub LabelsStay : List ℕ → Forest Name → List ℕ → Forest Name → Type 0
LabelsStay b t b' t' =
    (i j : ℕ) → i < size t → j < size t' → (entry t i).identity ≡ (entry t' j).identity → label_bytes b i ≡ label_bytes b' j

-- the buffer holds a labelled tree that is the plain tree t with codes: its identities, its tags, its order
abbrev pub HeldAs : List ℕ → Forest Name → Type 0
HeldAs b t = (f : Forest (Entry Name)) × Holds b f × (plain f ≡ t)

-- demand 2, after any run on a register b of the plain tree t: the register is sound, holds the tree that the accepted edits describe
-- and has as many entries; before, above, parent, sibling and distance are those of the tree; and whatever edit comes next, no present
-- entry's label changes
pub record Demand2 (b : List ℕ) (t : Forest Name) (edits : List Edit) : Type 0 where
  pub sound : is_register_sound (run edits b) ≡ true
  pub held : HeldAs (run edits b) (tree_after edits b t)
  pub count : count_of (run edits b) ≡ size (tree_after edits b t)
  pub right : AllRight (run edits b) (tree_after edits b t)
  pub stay : (edit : Edit) → LabelsStay (run edits b) (tree_after edits b t) (apply_outcome (run edits b) edit).bytes
      (answered (apply_outcome (run edits b) edit).answer edit (tree_after edits b t))

-- from any accepted table, labelled into any lent buffer
abbrev pub FromTable : Type 0
FromTable =
    (table lent : List ℕ) (n : ℕ) → (label_outcome table lent).answer ≡ Ok n → (edits : List Edit)
    → Demand2 (label_outcome table lent).bytes (table_tree table) edits

-- and from any sound register, of the tree that it holds
abbrev pub FromRegister : Type 0
FromRegister =
    (b : List ℕ) → ((i : ℕ) → get_or b i 0 < 256) → is_register_sound b ≡ true → (edits : List Edit) → Demand2 b (plain (tree_in b)) edits

-- demand 2, first codes: the entries are those of the table's tree with the published rule's codes along the tour
pub record FirstCodes (table lent : List ℕ) : Type 0 where
  pub entries : lines_of (label_outcome table lent).bytes ≡ preorder (labelled_tree table)
  pub same_tree : plain (labelled_tree table) ≡ table_tree table
  pub codes_by_rule : codes (labelled_tree table) ≡ thirds [] [] (2 * size (table_tree table) + 1)

abbrev pub EveryTable : Type 0
EveryTable = (table lent : List ℕ) (n : ℕ) → (label_outcome table lent).answer ≡ Ok n → FirstCodes table lent

-- demand 2, packed codes read back as the same digits
abbrev pub ReadBack : Type 0
ReadBack =
    (digits field lent : List ℕ) (n : ℕ) → (pack_outcome digits field).answer ≡ Ok n → length digits ≤ length lent
    → unpack_outcome (take field_size (pack_outcome digits field).bytes) lent ≡ accepted (length digits) (put lent 0 digits)

-- demand 3, with m least such that 3 ^ m > 2N, N the number of the table's entries, and k the accepted insertions of the run: first
-- codes have at most m digits, and no 2N distinct codes can do better; after the run no code has more than m + k digits; and 8 is
-- never given while m + k is below 127
pub record Demand3 (table lent : List ℕ) (edits : List Edit) (m : ℕ) : Type 0 where
  pub first : All (Within 1 3 m) (codes (labelled_tree table))
  pub best : (h : ℕ) (xs : List Digits) → length xs ≡ 2 * size (table_tree table) → Distinct xs → All (Within 1 3 h) xs → m ≤ h
  pub grown : All (λ (u : Entry Name). (length u.start ≤ m + insertions edits (label_outcome table lent).bytes)
      × (length u.end ≤ m + insertions edits (label_outcome table lent).bytes))
      (lines_of (run edits (label_outcome table lent).bytes))
  pub fits : m + insertions edits (label_outcome table lent).bytes < longest → (edit : Edit)
      → (apply_outcome (run edits (label_outcome table lent).bytes) edit).answer ≡ Err CodeLength → ⊥

-- for every accepted table there is such an m
abbrev pub Lengths : Type 0
Lengths =
    (table lent : List ℕ) (n : ℕ) → (label_outcome table lent).answer ≡ Ok n
    → (m : ℕ) × Enough 3 (2 * size (table_tree table)) m × ((edits : List Edit) → Demand3 table lent edits m)
