-- `field` meets its contract: the digits that unpacking leaves, or `-` where it refuses. Assumes nothing.
use mathlib.Core.Path.{ap, sym, ◌∙◌}
use native.Mathlib.Omega.{arith}
use lib.Seq.{length-take-le}
use Rattle.texts.specs.Cursor.{written}
use Rattle.texts.proofs.CodeTextLaws.{no_digits, Unpacked, refused_side, accepted_side, unpacked_text, unpacked_small, unpacked_length}
use Rattle.texts.proofs.Cursor.field.Goals as goal
use Rattle.texts.proofs.Cursor.field.Goals.{In-Ok}

-- the field holds the code that was unpacked
unpacked : (c : In-Ok) → Unpacked c.args.field.now c.in-Ok.n c.unpack.new.digits
unpacked c =
    let a = c.args in
    accepted_side a.field.now _ (omega arith) _ c.unpack.ensures.answer _ _ c.unpack.ensures.bytes c.in-Ok.is

pub slice_bounds-digits-end : goal.slice_bounds-digits-end
slice_bounds-digits-end c = (unpacked (goal.at.slice_bounds-digits-end c).In-Ok).fits

pub slice_bounds-digits-end-in-Ok : goal.slice_bounds-digits-end-in-Ok
slice_bounds-digits-end-in-Ok c = sym (length-take-le _ _ (unpacked (goal.at.slice_bounds-digits-end-in-Ok c).In-Ok).fits)

pub digits-requires : goal.digits-requires
digits-requires c = let u = unpacked (goal.at.digits-requires c).In-Ok in
    record { room = omega (arith, unpacked_length _ _ _ u); small = unpacked_small _ _ _ u }

pub returns-in-Ok : goal.returns-in-Ok
returns-in-Ok c = record {
  text = c.digits.ensures.text ∙ ap (written c.args.self.now) (unpacked_text _ _ _ (unpacked (goal.at.returns-in-Ok c).In-Ok));
}

pub returns-in-Err : goal.returns-in-Err
returns-in-Err c = record {
  text = let s = refused_side c.args.field.now _ (omega arith) _ c.unpack.ensures.answer c.in-Err.field-0 c.in-Err.is in
      c.byte.ensures.text ∙ ap (written c.args.self.now) (sym (no_digits _ s));
}
