-- `between_sides` meets its contract: the step on the two sides' digits, where there is room and the code fits. Assumes nothing.
use Rattle.std.specs.Prelude.{Ok}
use mathlib.Core.Path.{refl, ap, ◌∙◌}
use mathlib.Core.List.{List}
use Prim.Native.Nat.{ℕ}
use native.Mathlib.Omega.{arith}
use Rattle.digits.specs.Between.{between}
use Rattle.answers.proofs.OutcomeLaws.{gives}
use Rattle.numbers.specs.Bytes.{put}
use Rattle.codes.specs.Field.{field_of}
use Rattle.codes.specs.Reading.{read, side_of}
use Rattle.codes.specs.Spread.{Held}
use Rattle.codes.proofs.CallLaws.{in_order, known_count, held_between, between_short, between_long, between_written, between_slots}
use Rattle.codes.proofs.between_sides.Goals as goal
use Rattle.codes.proofs.between_sides.Goals.{After-step-made}

-- what the step made
made : (c : After-step-made) →
    Held c.step-made.result (between (side_of (read c.args.left.now)) (side_of (read c.args.right.now)))
made c =
    let o = in_order _ _ c.requires.ordered in
    held_between _ _ _ _ _ _ _ o.left_known o.right_known c.of_field.ensures.held c.of_field-2.ensures.held
    c.step-made.ensures.held

pub returns-then-field-lt-FIELD : goal.returns-then-field-lt-FIELD
returns-then-field-lt-FIELD c =
    let t = gives _ _ _ _ _
    (between_short c.args.left.now c.args.right.now c.args.field.now c.requires.ordered c.if-field-lt-FIELD.true) refl refl in
    record { answer = t.0; bytes = t.1 }

pub step-made-requires : goal.step-made-requires
step-made-requires c = let o = in_order _ _ c.requires.ordered in
    record {
      left = known_count _ _ _ o.left_known c.of_field.ensures.held;
      right = known_count _ _ _ o.right_known c.of_field-2.ensures.held;
    }

pub returns-then-n-gt-LONGEST : goal.returns-then-n-gt-LONGEST
returns-then-n-gt-LONGEST c = let t = gives _ _ _ _ _
    (between_long c.args.left.now c.args.right.now c.args.field.now c.requires.ordered c.if-field-lt-FIELD.false
    (omega (arith, (made (goal.at.returns-then-n-gt-LONGEST c).After-step-made).count))) refl refl in
    record { answer = t.0; bytes = t.1 }

pub write_field-requires : goal.write_field-requires
write_field-requires c = let h = made (goal.at.write_field-requires c).After-step-made in
    record {
      room = omega arith;
      slots = rw h.digits (between_slots _ _ c.args.field.now c.requires.ordered (omega (arith, h.count)));
    }

pub returns : goal.returns
returns c =
    let h = made (goal.at.returns c).After-step-made in
    let t = gives _ _ _ _ _
    (between_written c.args.left.now c.args.right.now c.args.field.now c.requires.ordered c.if-field-lt-FIELD.false
    (omega (arith, h.count))) (ap Ok h.count)
    (c.write_field.ensures.bytes ∙ ap (λ (x : List ℕ). put c.args.field.now 0 (field_of x)) h.digits) in
    record { answer = t.0; bytes = t.1 }
