-- The digits so far are digits, all of them.
use Rattle.std.proofs.Common.{◌≡◌, take}
use Rattle.std.specs.List.{list_all}
use Rattle.codes.specs.Code.{is_digit}
use Rattle.codes.proofs.are_digits.Given as goal

abbrev pub invariant-loop-digit : goal.invariant-loop-digit
invariant-loop-digit l = record { so_far : l.all ≡ list_all is_digit (take l.digit-index l.digits) }
