-- Worked lines and texts. Assumes nothing.
use mathlib.Core.Path.{◌≡◌, refl}
use mathlib.Core.Bool.{true, false}
use mathlib.Core.List.{List, [], ◌∷◌, map}
use Prim.Native.Nat.{ℕ}
use Rattle.texts.specs.Printed.{decimal, entry_text}
use Rattle.texts.specs.Reading.{read_as, read_line, read_text}

-- the line of an entry: 11 2 13 2 12
pub worked_line :
    entry_text (record { name = record { identity = 11; tag = 2 }; start = 1 ∷ 3 ∷ []; end = 2 ∷ []; parent = 1 ∷ 2 ∷ [] })
    ≡ 49 ∷ 49 ∷ 32 ∷ 50 ∷ 32 ∷ 49 ∷ 51 ∷ 32 ∷ 50 ∷ 32 ∷ 49 ∷ 50 ∷ 10 ∷ []
unfolding entry_text decimal
worked_line = refl

-- the line of a root: 10 0 2 3 -
pub worked_root : entry_text (record { name = record { identity = 10; tag = 0 }; start = 2 ∷ []; end = 3 ∷ []; parent = [] })
    ≡ 49 ∷ 48 ∷ 32 ∷ 48 ∷ 32 ∷ 50 ∷ 32 ∷ 51 ∷ 32 ∷ 45 ∷ 10 ∷ []
unfolding entry_text decimal
worked_root = refl

-- a text of one line: 7 0 4294967295
pub worked_text :
    read_text (55 ∷ 32 ∷ 48 ∷ 32 ∷ 52 ∷ 50 ∷ 57 ∷ 52 ∷ 57 ∷ 54 ∷ 55 ∷ 50 ∷ 57 ∷ 53 ∷ 10 ∷ [])
    ≡ read_as (7 ∷ 0 ∷ 4294967295 ∷ [])
unfolding read_text read_line
worked_text = refl

-- no line; a leading zero; two spaces; a space at the end; no newline; 4294967296; an empty line
abbrev cases : List (List ℕ)
cases =
    []
    ∷ (49 ∷ 32 ∷ 48 ∷ 50 ∷ 32 ∷ 51 ∷ 10 ∷ [])
    ∷ (49 ∷ 32 ∷ 32 ∷ 50 ∷ 32 ∷ 51 ∷ 10 ∷ [])
    ∷ (49 ∷ 32 ∷ 50 ∷ 32 ∷ 51 ∷ 32 ∷ 10 ∷ [])
    ∷ (49 ∷ 32 ∷ 50 ∷ 32 ∷ 51 ∷ [])
    ∷ (49 ∷ 32 ∷ 50 ∷ 32 ∷ 52 ∷ 50 ∷ 57 ∷ 52 ∷ 57 ∷ 54 ∷ 55 ∷ 50 ∷ 57 ∷ 54 ∷ 10 ∷ [])
    ∷ (10 ∷ [])
    ∷ []

pub worked_cases : map (λ (text : List ℕ). (read_text text).readable) cases ≡ true ∷ false ∷ false ∷ false ∷ false ∷ false ∷ false ∷ []
unfolding read_text read_line
worked_cases = refl
