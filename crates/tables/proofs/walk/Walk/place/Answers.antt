-- What the walk keeps it keeps after a start and after an end.
use Rattle.std.proofs.Common.{ap, sym, ◌∙◌}
use Rattle.tables.proofs.WalkLaws.{entered_ready, left_ready}
use Rattle.tables.proofs.walk.Walk.place.Goals as goal

pub returns-then-starts_here-clause-ready : goal.returns-then-starts_here-clause-ready
returns-then-starts_here-clause-ready c =
    entered_ready _ _ _ _ _ c.enter.ensures.entered (ap (λ t. t.now) c.enter.ensures.same.table)
    (sym c.starts_here.ensures.starts ∙ c.if-starts_here.true) c.requires.ready

pub returns-then-self-gt0-clause-ready : goal.returns-then-self-gt0-clause-ready
returns-then-self-gt0-clause-ready c =
    left_ready _ _ _ _ _ c.leave.ensures.ended (ap (λ t. t.now) c.leave.ensures.same.table) c.if-self-gt0.true c.requires.ready
