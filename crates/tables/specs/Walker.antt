-- The walk that the code does: where it is, and what it leaves as it was. Assumes nothing.
use Rattle.std.specs.Prelude.{◌≡◌}
use Rattle.tables.specs.declared.walk.Walk.{Walk as Walker}
use Rattle.tables.specs.Walk.{Walk}

-- without the table, and without where the register lies
abbrev pub walk_of : Walker → Walk
walk_of w = record { bytes = w.register.now; path = w.path; row = w.row; level = w.level }

-- the table and the place of the register stay
pub record Same (w v : Walker) : Type 0 where
  pub table : v.table ≡ w.table
  pub register : v.register.ghost_name ≡ w.register.ghost_name
