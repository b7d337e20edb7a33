-- The rows from row i on give what all rows give, and used are the identities above row i.
use Rattle.std.proofs.Common.{◌≡◌}
use Rattle.tables.specs.Table.{rows_of}
use Rattle.tables.specs.Rules.{rows_checked}
use Rattle.tables.specs.Rows.{above, checked_from}
use Rattle.identities.specs.Identities.{Holds}
use Rattle.tables.proofs.check_rows.Given as goal

abbrev pub invariant-loop-i : goal.invariant-loop-i
invariant-loop-i l = record {
  left : checked_from l.table l.i ≡ rows_checked (rows_of l.table);
  held : Holds l.used (above l.table l.i);
}
