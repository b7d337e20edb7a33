-- `write_header` meets its contract: two runs, one behind the other. Assumes nothing.
use mathlib.Core.Path.{ap, ◌∙◌}
use mathlib.Core.List.{List}
use Prim.Native.Nat.{ℕ}
use native.Mathlib.Omega.{arith}
use Rattle.numbers.specs.Bytes.{put, le4}
use Rattle.numbers.proofs.PutLaws.{put_put}
use Rattle.registers.specs.Layout.{count_at, zero_at}
use Rattle.registers.proofs.write_header.Goals as goal

pub returns : goal.returns
returns c = record {
  bytes = c.write_u32-2.ensures.bytes ∙ ap (λ (b : List ℕ). put b zero_at (le4 0)) c.write_u32.ensures.bytes
      ∙ put_put c.args.register.now count_at (le4 c.args.count) (omega arith) (le4 0);
}
