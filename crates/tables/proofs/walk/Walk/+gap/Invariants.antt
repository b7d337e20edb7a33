-- The measure is the gap's width.
use Rattle.tables.proofs.walk.Walk.+gap.Given as goal

abbrev pub decreases-gap : goal.decreases-gap
decreases-gap l = l.width
