-- The loop's invariant: the digits up to the next one are written. Assumes nothing.
use mathlib.Core.Path.{ap, sym, ◌∙◌}
use native.Mathlib.Omega.{arith}
use Rattle.texts.specs.Cursor.{written}
use Rattle.texts.proofs.CodeTextLaws.{digits_more, digits_length}
use Rattle.texts.proofs.CursorLaws.{room_left, more_written}
use Rattle.texts.proofs.Cursor.digits.Goals as goal

pub byte-requires : goal.byte-requires
byte-requires c = record {
  room = room_left c.args.self.now _ c.loop-d.invariant 1 (omega (arith, digits_length c.args.digits.now c.loop-d.d-index (omega arith)));
}

pub loop-d-preserved : goal.loop-d-preserved
loop-d-preserved c =
    more_written c.args.self.now _ c.loop-d.invariant _ c.byte.ensures.text (omega arith)
    ∙ ap (written c.args.self.now) (sym (digits_more c.args.digits.now c.loop-d.d-index (omega arith)))
