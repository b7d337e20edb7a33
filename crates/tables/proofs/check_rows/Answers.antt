-- A row that is right: what all rows give is what the rows behind it give.
use Rattle.std.proofs.Common.{sym, ◌∙◌, arith}
use Rattle.tables.proofs.RuleLaws.{row_right, held_next}
use Rattle.tables.proofs.check_rows.Goals as goal

pub loop-i-preserved : goal.loop-i-preserved
loop-i-preserved c = let new = c.if-not-new_at.false in
    let right = sym c.row_depth.ensures.depth ∙ c.if-not-row_depth.false in record {
      left = sym (row_right c.args.table.now c.loop-i.i (omega arith) right (sym c.new_at.ensures.fresh ∙ new)) ∙ c.loop-i.invariant.left;
      held = held_next c.new_at.new.self c.args.table.now c.loop-i.i (c.new_at.ensures.held new);
    }
