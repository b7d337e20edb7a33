-- The loop's invariant: the digits up to the next one are written. Assumes nothing.
use mathlib.Core.Path.{◌≡◌}
use mathlib.Core.List.{map}
use lib.ListN.{take}
use Rattle.texts.specs.Cursor.{written}
use Rattle.texts.specs.Printed.{digit_byte}
use Rattle.texts.proofs.Cursor.digits.Given as goal

abbrev pub invariant-loop-d : goal.invariant-loop-d
invariant-loop-d l = l.self ≡ written l.initial.self (map digit_byte (take l.d-index l.digits))
