-- `take_out` meets its contract. Assumes nothing.
use mathlib.Core.Path.{refl}
use Prim.Native.Nat.{◌-◌, ◌*◌}
use native.Mathlib.Omega.{arith}
use Rattle.numbers.proofs.PutLaws.{put_moved, put_filled}
use Rattle.registers.specs.Layout.{entry_size}
use Rattle.registers.proofs.QuestionLaws.{sized_gives}
use Rattle.edits.proofs.SpliceLaws.{delete_writes}
use Rattle.edits.proofs.take_out.Goals as goal

pub returns : goal.returns
returns c = record {
  bytes = let b = c.args.register.now in
      let n = c.count-n.ensures.count in
      let s = sized_gives b c.requires.sized in
      delete_writes b _ _ _ c.count-n.result c.args.place _ _ _ _ n (omega (arith, n, c.requires.place)) (omega (arith, n, s.room))
      c.entry_place-3.ensures.place c.entry_place.ensures.place refl c.entry_place-last.ensures.place
      (put_moved b _ _ _ (entry_size * (c.count-n.result - 1 - c.args.place)) _
      (omega (arith, c.entry_place.ensures.place, c.entry_place-2.ensures.place, n, c.requires.place))
      (omega (arith, c.entry_place.ensures.place, n, s.room, c.requires.place)) c.copy_within.ensures.after)
      (put_filled _ _ _ _ entry_size 0 (omega arith)
      (omega (arith, c.copy_within.ensures.len, c.entry_place-last.ensures.place, n, s.room, s.some)) (c.fill.ensures.after (λ _ e. e)))
      c.write_header.ensures.bytes;
}
