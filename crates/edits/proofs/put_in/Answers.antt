-- `put_in` meets its contract. Assumes nothing.
use mathlib.Core.Path.{refl}
use Prim.Native.Nat.{◌-◌, ◌*◌}
use native.Mathlib.Omega.{arith}
use Rattle.numbers.proofs.PutLaws.{put_moved}
use Rattle.registers.specs.Layout.{entry_size}
use Rattle.edits.proofs.OutcomeLaws.{room_for}
use Rattle.edits.proofs.SpliceLaws.{insert_writes}
use Rattle.edits.proofs.put_in.Goals as goal

pub returns : goal.returns
returns c = record {
  bytes = let b = c.args.register.now in
      let n = c.count-n.ensures.count in
      let r = room_for b c.requires.room in
      insert_writes b _ _ _ _ c.count-n.result c.args.place _ _ _ n (omega (arith, n, c.requires.place)) (omega (arith, n, r.1))
      c.entry_place-3.ensures.place c.entry_place.ensures.place refl
      (put_moved b _ _ _ (entry_size * (c.count-n.result - c.args.place)) _
      (omega (arith, c.entry_place.ensures.place, c.entry_place-2.ensures.place, n, c.requires.place))
      (omega (arith, c.entry_place.ensures.place, n, r.1, c.requires.place)) c.copy_within.ensures.after)
      c.write_entry.ensures.bytes c.write_header.ensures.bytes;
}
