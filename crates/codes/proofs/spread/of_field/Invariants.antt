-- The array begins with the field's first i digits, and with what the rest leads with they are what the field leads with.
use Rattle.std.proofs.Common.{◌≡◌, length, take}
use Rattle.codes.specs.Field.{spread}
use Rattle.codes.proofs.SpreadLaws.{Led}
use Rattle.codes.proofs.spread.of_field.Given as goal

abbrev pub invariant-loop-i : goal.invariant-loop-i
invariant-loop-i l = record {
  size : length l.code.digits ≡ 128;
  array : take l.i l.code.digits ≡ take l.i (spread l.field);
  led : Led (spread l.field) l.i;
}
