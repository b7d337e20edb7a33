-- `unpack_code` meets its contract: the field's digits, where there is room for them. Assumes nothing.
use Rattle.std.specs.Prelude.{Ok}
use mathlib.Core.Path.{refl, sym, ap, ◌∙◌}
use Prim.Native.Nat.{◌<◌, ◌≤◌}
use native.Mathlib.Omega.{arith}
use lib.ListN.{length}
use Rattle.answers.proofs.OutcomeLaws.{gives}
use Rattle.numbers.specs.Bytes.{put}
use Rattle.numbers.proofs.PutLaws.{put_copied_front}
use Rattle.codes.specs.Reading.{read, side_of}
use Rattle.codes.specs.Spread.{Held}
use Rattle.codes.proofs.SpreadLaws.{held_is}
use Rattle.codes.proofs.CallLaws.{held_known, unpack_short, unpack_written}
use Rattle.codes.proofs.ReadingLaws.{held_code}
use Rattle.codes.proofs.unpack_code.Goals as goal
use Rattle.codes.proofs.unpack_code.Goals.{After-of_field-code}

-- the digits are those of the code that the field holds
digits : (f : After-of_field-code) → Held f.of_field-code.result (side_of (read f.args.field.now))
digits f = held_is _ _ _ (held_known _ f.requires.held).digits f.of_field-code.ensures.held

pub returns-then-digits-n : goal.returns-then-digits-n
returns-then-digits-n c =
    let h = digits (goal.at.returns-then-digits-n c).After-of_field-code in
    let k : length c.args.digits.now < length (side_of (read c.args.field.now)) = omega (arith, h.count) in
    let t = gives _ _ _ _ _ (unpack_short c.args.field.now c.args.digits.now _ (held_code _ c.requires.held) k) refl refl in
    record { answer = t.0; bytes = t.1 }

pub returns : goal.returns
returns c =
    let h = digits (goal.at.returns c).After-of_field-code in
    let k : length (side_of (read c.args.field.now)) ≤ length c.args.digits.now = omega (arith, h.count) in
    let t = gives _ _ _ _ _ (unpack_written c.args.field.now c.args.digits.now _ (held_code _ c.requires.held) k) (ap Ok h.count)
    (put_copied_front _ _ _ _ (h.count ∙ sym (ap length h.digits)) c.copy_from_slice.ensures.after
    ∙ ap (put c.args.digits.now 0) h.digits) in
    record { answer = t.0; bytes = t.1 }
