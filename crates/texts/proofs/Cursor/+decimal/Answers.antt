-- One digit, or the digits of a tenth and the last one. Assumes nothing.
use mathlib.Core.Path.{◌∙◌}
use native.Mathlib.Omega.{arith}
use Rattle.texts.proofs.DecimalLaws.{one_length, decimal_last_length}
use Rattle.texts.proofs.CursorLaws.{nothing_written, room_left, digit_written, last_written}
use Rattle.texts.proofs.Cursor.+decimal.Goals as goal
use Rattle.texts.proofs.Cursor.+decimal.Goals.{then-x-ge10, else-x-ge10}

pub decimal-requires : goal.decimal-requires
decimal-requires t c = (omega arith, omega (arith, decimal_last_length c.args.x (omega arith)))

pub byte-requires : goal.byte-requires
byte-requires t c = record {
  room = elim c.if-x-ge10.branch [
    | then-x-ge10 w ↦ room_left c.args.self.now _ (w.self-is ∙ w.decimal.ensures.text) 1
        (omega (arith, decimal_last_length c.args.x (omega arith)))
    | else-x-ge10 w ↦ room_left c.args.self.now _ (w.self-is ∙ nothing_written c.args.self.now) 1
        (omega (arith, one_length c.args.x (omega arith)))
  ];
}

pub returns : goal.returns
returns t c = record {
  text = elim c.if-x-ge10.branch [
    | then-x-ge10 w ↦ last_written c.args.self.now c.args.x (w.self-is ∙ w.decimal.ensures.text)
        c.byte.ensures.text (omega arith) (omega arith)
    | else-x-ge10 w ↦ digit_written c.args.self.now c.args.x (rw w.self-is at c.byte.ensures.text) (omega arith)
  ];
}
