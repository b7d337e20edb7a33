-- The parent start, the rest of the entry, and the row on its level.
use Rattle.tables.proofs.WalkLaws.{begun_entered}
use Rattle.tables.proofs.walk.Walk.enter.Goals as goal

pub returns-clause-entered : goal.returns-clause-entered
returns-clause-entered c =
    begun_entered _ _ _ _ _ _ _ _ _ c.requires.ready c.requires.starts c.row_at-row.ensures.row c.write_parent.ensures.written
    c.begin.ensures.bytes
