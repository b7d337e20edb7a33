-- `number` meets its contract: ten digits at most, and one byte behind them. Assumes nothing.
use mathlib.Core.List.{[], ◌∷◌}
use native.Mathlib.Omega.{arith}
use lib.ListN.{length-append}
use Rattle.texts.specs.Printed.{decimal}
use Rattle.texts.proofs.DecimalLaws.{ten_digits}
use Rattle.texts.proofs.CursorLaws.{room_left, more_written, few_written}
use Rattle.texts.proofs.Cursor.number.Goals as goal

pub decimal-requires : goal.decimal-requires
decimal-requires c = record { room = omega (arith, ten_digits c.args.x (omega arith)) }

pub byte-requires : goal.byte-requires
byte-requires c = record { room = room_left c.args.self.now _ c.decimal.ensures.text 1 (omega (arith, ten_digits c.args.x (omega arith))) }

pub returns-clause-few : goal.returns-clause-few
returns-clause-few c =
    let t = more_written c.args.self.now _ c.decimal.ensures.text _ c.byte.ensures.text (omega arith) in
    few_written c.args.self.now _ t 11
    (omega (arith, ten_digits c.args.x (omega arith), length-append (decimal c.args.x) (c.args.behind ∷ []))) c.requires.room
