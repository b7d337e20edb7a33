-- `read_table` meets its contract. The loop's invariant: n lines have been read and stored, up to the rest of the text. Assumes nothing.
use Rattle.std.proofs.Common.{rules}
use native.Mathlib.Omega.{arith}
use Rattle.numbers.proofs.PutLaws.{put_copied}
use Rattle.texts.proofs.TableLaws.{reached_next}
use Rattle.texts.proofs.read_table.Goals as goal

pub loop-rest-preserved : goal.loop-rest-preserved
loop-rest-preserved c = (
  omega arith,
  search rules,
  reached_next c.loop-rest.invariant.2 (omega arith) (search rules) (put_copied _ _ _ _ _ (omega arith) c.copy_from_slice.ensures.after),
)
