-- `Spot::plan` meets its contract. Assumes nothing.
use mathlib.Core.Path.{ap, ◌∙◌}
use Rattle.digits.specs.Order.{Digits}
use Rattle.digits.specs.Between.{between}
use Rattle.codes.specs.Spread.{digits_of, Held}
use Rattle.trees.specs.Search.{leading}
use Rattle.registers.specs.Questions.{lines_of}
use Rattle.edits.specs.Edits.{where_of}
use Rattle.edits.specs.Plans.{name_of}
use Rattle.edits.proofs.PlaceLaws.{parent_found}
use Rattle.edits.proofs.PlanLaws.{planned, planned_codes}
use Rattle.edits.proofs.Spot.plan.Goals as goal
use Rattle.edits.proofs.Spot.plan.Goals.{After-starts_below}

pub code_at-parent-requires : goal.code_at-parent-requires
code_at-parent-requires c =
    let p = parent_found _ c.args.self.now.register.sound (where_of c.args.self.now.place) _ c.args.self.now.inside c.requires.parented _
    c.parent_from.ensures.place
    in record { code = p.0 }

-- the codes that fit are those that were made
start : (c : After-starts_below) → Held c.in_ok-start.start (between (digits_of c.code_at.result) (digits_of c.code_at-right.result))
start c = rw c.in_ok-start.ensures.ok.0 c.step.ensures.held

end : (c : After-starts_below) → Held c.in_ok-end.end (between (digits_of c.in_ok-start.start) (digits_of c.code_at-right.result))
end c = rw c.in_ok-end.ensures.ok.0 c.step-2.ensures.held

pub returns-clause-ok : goal.returns-clause-ok
returns-clause-ok c =
    let b = c.args.self.now.register.reading.bytes.now in
    planned b c.args.self.now.register.sound (where_of c.args.self.now.place) _ c.args.self.now.inside c.requires.parented _ _ _ _ _
    (c.code_at.ensures.held.digits ∙ c.neighbours-gap.ensures.left) (c.code_at-right.ensures.held.digits ∙ c.neighbours-gap.ensures.right)
    (start c) (end c) (rw c.in_ok-start.ensures.ok.0 c.in_ok-start.ensures.ok.1) (rw c.in_ok-end.ensures.ok.0 c.in_ok-end.ensures.ok.1)
    _ c.parent_from.ensures.place c.code_at-parent.ensures.held.digits (name_of c.args.name) _
    (c.starts_below.ensures.starts ∙ ap (λ (r : Digits). leading r (lines_of b)) c.neighbours-gap.ensures.right)

pub returns-clause-fits : goal.returns-clause-fits
returns-clause-fits c = (
  c.starts_below.ensures.most,
  planned_codes _ c.args.self.now.register.sound (where_of c.args.self.now.place) _ c.args.self.now.inside c.requires.parented _ _ _ _ _
      (c.code_at.ensures.held.digits ∙ c.neighbours-gap.ensures.left) (c.code_at-right.ensures.held.digits ∙ c.neighbours-gap.ensures.right)
      (start c) (end c) (rw c.in_ok-start.ensures.ok.0 c.in_ok-start.ensures.ok.1)
      (rw c.in_ok-end.ensures.ok.0 c.in_ok-end.ensures.ok.1)
      _ c.parent_from.ensures.place c.code_at-parent.ensures.held.digits,
)
