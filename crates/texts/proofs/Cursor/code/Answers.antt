-- `code` meets its contract: 127 digits at most, and one byte behind them. Assumes nothing.
use mathlib.Core.List.{List, [], ◌∷◌}
use Prim.Native.Nat.{ℕ, ◌+◌, ◌-◌}
use native.Mathlib.Omega.{arith}
use lib.ListN.{take, drop, length-append}
use Rattle.codes.specs.Reading.{read, side_of}
use Rattle.texts.specs.Printed.{code_text}
use Rattle.texts.proofs.CodeTextLaws.{side_length}
use Rattle.texts.proofs.CursorLaws.{room_left, more_written, few_written}
use Rattle.texts.proofs.Cursor.code.Goals as goal

-- the field as the part of the register that is lent
abbrev field : List ℕ → ℕ → List ℕ
field register from = take (from + 32 - from) (drop from register)

pub field-requires : goal.field-requires
field-requires c = record { room = omega (arith, side_length (field c.args.register.now c.args.from)) }

pub byte-requires : goal.byte-requires
byte-requires c = record {
  room = room_left c.args.self.now _ c.field.ensures.text 1 (omega (arith, side_length (field c.args.register.now c.args.from)));
}

pub returns-clause-few : goal.returns-clause-few
returns-clause-few c =
    let a = c.args in
    let text = code_text (side_of (read (field a.register.now a.from))) in
    let t = more_written a.self.now _ c.field.ensures.text _ c.byte.ensures.text (omega arith) in
    few_written a.self.now _ t 128
    (omega (arith, side_length (field a.register.now a.from), length-append text (a.behind ∷ []))) c.requires.room
