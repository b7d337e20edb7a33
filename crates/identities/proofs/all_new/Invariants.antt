-- The numbers from number i on give what all give, and those before it are used.
use Rattle.std.proofs.Common.{◌≡◌}
use Rattle.identities.specs.Identities.{Holds}
use Rattle.identities.specs.Rows.{earlier, is_all_new}
use Rattle.identities.proofs.RowLaws.{new_from}
use Rattle.identities.proofs.all_new.Given as goal

abbrev pub invariant-loop-i : goal.invariant-loop-i
invariant-loop-i l = (is_all_new l.identities ≡ new_from l.identities l.i) × Holds l.used (earlier 1 l.identities l.i)
