-- What the functions that read answer. Assumes nothing.
use Rattle.std.specs.Prelude.{cond, List, ℕ, ◌/◌, length, Result, Ok, Err}
use Rattle.texts.specs.declared.Unreadable.{Unreadable}
use Rattle.texts.specs.declared.Row.{Row}
use Rattle.texts.specs.Reading.{Line, line, Text}

-- a line by its row and the bytes behind it
abbrev pub line_of : Row → List ℕ → Line
line_of row rest = line row.identity row.tag row.depth rest

-- the number of rows, or that the text is unreadable
abbrev pub lines_of : Text → Result ℕ Unreadable
lines_of t = cond t.readable (Ok (length t.numbers / 3)) (Err (record {}))
