-- The first d places looked at are taken, and not by the identity.
use Rattle.std.proofs.Common.{◌≡◌}
use Rattle.identities.specs.Identities.{Passed}
use Rattle.identities.proofs.enter.Given as goal

abbrev pub invariant-loop-d : goal.invariant-loop-d
invariant-loop-d l = (l.places ≡ l.fn.places) × Passed l.places l.identity l.d
