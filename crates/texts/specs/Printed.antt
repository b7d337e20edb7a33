-- The lines that are printed: decimals, the row of a table, the entry of a register. Assumes nothing.
use Rattle.std.specs.Prelude.{cond, List, [], ◌∷◌, ◌++◌, map, ℕ, zero, suc, ◌+◌, ◌/◌, ◌%◌, ltb}
use Rattle.digits.specs.Order.{Digits}
use Rattle.trees.specs.Labelled.{Name, Entry}

-- the bytes between numbers, behind a line, and in place of no code
abbrev pub space : ℕ
space = 32

abbrev pub newline : ℕ
newline = 10

abbrev pub dash : ℕ
dash = 45

-- the byte of a digit
abbrev pub digit_byte : ℕ → ℕ
digit_byte d = 48 + d

-- a decimal has no leading zero, save 0 itself: the last digit behind those of a tenth, in at most n steps
abbrev pub decimal_deep : ℕ → ℕ → List ℕ
decimal_deep zero x = digit_byte x ∷ []
decimal_deep (suc n) x = cond (ltb x 10) (digit_byte x ∷ []) (decimal_deep n (x / 10) ++ (digit_byte (x % 10) ∷ []))

-- enough steps for any number
unfoldable pub decimal : ℕ → List ℕ
decimal x = decimal_deep x x

-- three decimals a line with one space between, and a newline
unfoldable pub row_text : ℕ → ℕ → ℕ → List ℕ
row_text a b c = decimal a ++ (space ∷ (decimal b ++ (space ∷ (decimal c ++ (newline ∷ [])))))

-- the lines of a table, three numbers a row
abbrev pub table_text : List ℕ → List ℕ
table_text [] = []
table_text (a ∷ []) = []
table_text (a ∷ b ∷ []) = []
table_text (a ∷ b ∷ c ∷ ns) = row_text a b c ++ table_text ns

-- a code as its digits, `-` for an empty parent start
abbrev pub code_text : Digits → List ℕ
code_text [] = dash ∷ []
code_text (d ∷ x) = map digit_byte (d ∷ x)

-- one line an entry: identity, tag, start, end, parent start, separated by one space
unfoldable pub entry_text : Entry Name → List ℕ
entry_text u =
    decimal u.name.identity
    ++ (space ∷ (decimal u.name.tag
    ++ (space ∷ (code_text u.start ++ (space ∷ (code_text u.end ++ (space ∷ (code_text u.parent ++ (newline ∷ [])))))))))

-- on a refusal: `refused`, a space and the number
unfoldable pub refusal_text : ℕ → List ℕ
refusal_text n = 114 ∷ 101 ∷ 102 ∷ 117 ∷ 115 ∷ 101 ∷ 100 ∷ space ∷ (decimal n ++ (newline ∷ []))

-- of what is no text of a table
abbrev pub unreadable_text : List ℕ
unreadable_text = 117 ∷ 110 ∷ 114 ∷ 101 ∷ 97 ∷ 100 ∷ 97 ∷ 98 ∷ 108 ∷ 101 ∷ []
