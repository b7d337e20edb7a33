-- 01, "Reckoned by hand": each example, P1 to P14, with what the definitions compute and what the paper says.
-- Assumes nothing.
use Rattle.std.specs.Prelude.{cond, List, [], ◌∷◌, ℕ, take, replicate}
use Rattle.digits.specs.Order.{Digits, is_below}
use Rattle.digits.specs.Between.{between}
use Rattle.codes.specs.Field.{field_of}
use Rattle.trees.specs.Labelled.{codes}
use Rattle.trees.specs.Edit.{Where, first_child, last_child, after, spot_of}
use Rattle.trees.specs.Neighbours.{new_entry}
use Rattle.tables.specs.Labelling.{labelled_tree}

pub record Case : Type 0 where
  pub number : ℕ
  pub computed : List Digits
  pub expected : List Digits

abbrev case : ℕ → List Digits → List Digits → Case
case number computed expected = record { number = number; computed = computed; expected = expected }

-- one code, as a list
abbrev one : Digits → List Digits
one x = x ∷ []

-- P2 to P7: the one code between two sides
abbrev step : ℕ → Digits → Digits → Digits → Case
step number left right expected = case number (one (between left right)) (one expected)

-- P11 to P13: the first bytes of a packed code
abbrev packed : ℕ → ℕ → Digits → List ℕ → Case
packed number bytes x expected = case number (one (take bytes (field_of x))) (one expected)

-- 01: the rows (10,1,0), (11,2,1), (12,2,1), (13,3,2)
abbrev pub worked_table : List ℕ
worked_table = 10 ∷ 1 ∷ 0 ∷ 11 ∷ 2 ∷ 1 ∷ 12 ∷ 2 ∷ 1 ∷ 13 ∷ 3 ∷ 2 ∷ []

-- P8 to P10: the codes of an entry put into the register of these rows, its target by its number from 0
abbrev put_in : ℕ → Where → ℕ → Digits → Digits → Case
put_in number w i start end =
    let f = labelled_tree worked_table in
    let u = new_entry (record { identity = 14; tag = 4 }) f (spot_of w i f) in
    case number (u.start ∷ u.end ∷ []) (start ∷ end ∷ [])

unfoldable pub worked : List Case
worked =
    case 1 (codes (labelled_tree (10 ∷ 1 ∷ 0 ∷ []))) ((2 ∷ []) ∷ (3 ∷ []) ∷ [])
    ∷ step 2 (2 ∷ []) (3 ∷ []) (2 ∷ 2 ∷ [])
    ∷ step 3 [] [] (2 ∷ [])
    ∷ step 4 [] (2 ∷ []) (1 ∷ 2 ∷ [])
    ∷ step 5 (2 ∷ []) (2 ∷ 3 ∷ []) (2 ∷ 2 ∷ [])
    ∷ step 6 (2 ∷ 2 ∷ []) (3 ∷ []) (2 ∷ 3 ∷ [])
    ∷ step 7 (2 ∷ 3 ∷ []) (3 ∷ []) (2 ∷ 3 ∷ 2 ∷ [])
    ∷ put_in 8 first_child 2 (2 ∷ 2 ∷ 2 ∷ []) (2 ∷ 2 ∷ 3 ∷ [])
    ∷ put_in 9 after 1 (2 ∷ 1 ∷ 2 ∷ []) (2 ∷ 1 ∷ 3 ∷ [])
    ∷ put_in 10 last_child 1 (1 ∷ 3 ∷ 2 ∷ []) (1 ∷ 3 ∷ 3 ∷ [])
    ∷ packed 11 1 (1 ∷ 2 ∷ []) (0x60 ∷ [])
    ∷ packed 12 1 (2 ∷ 2 ∷ 3 ∷ []) (0xAC ∷ [])
    ∷ packed 13 32 (2 ∷ 2 ∷ 2 ∷ 2 ∷ []) (0xAA ∷ 0x00 ∷ replicate 30 0)
    ∷ case 14 (one (cond (is_below (1 ∷ 2 ∷ []) (1 ∷ 2 ∷ 2 ∷ [])) (1 ∷ []) [])) (one (1 ∷ []))
    ∷ []
