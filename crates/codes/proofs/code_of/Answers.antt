-- The digits of a field that holds a code, and how many they are at most.
use Rattle.codes.proofs.SpreadLaws.{held_is}
use Rattle.codes.proofs.CallLaws.{held_known, known_count}
use Rattle.codes.proofs.code_of.Goals as goal

pub returns : goal.returns
returns c = let k = held_known c.args.field.now c.requires.held in
    record {
      held = held_is _ _ _ k.digits c.of_field.ensures.held;
      short = known_count _ _ _ k c.of_field.ensures.held;
    }
