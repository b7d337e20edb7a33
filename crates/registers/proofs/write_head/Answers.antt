-- Three runs, one behind the other.
use mathlib.Core.Path.{◌≡◌}
use native.Mathlib.Omega.{arith}
use Rattle.numbers.specs.Bytes.{le4}
use Rattle.codes.specs.Field.{field_of}
use Rattle.codes.specs.Spread.{digits_of}
use Rattle.registers.specs.Layout.{entry_place}
use Rattle.registers.proofs.WriteLaws.{three_runs}
use Rattle.registers.proofs.write_head.Goals as goal

pub returns : goal.returns
returns c = record {
  bytes = let e : c.entry_place-place.result ≡ entry_place c.args.i = c.entry_place-place.ensures.place in
      three_runs c.args.register.now _ _ _ (le4 c.args.name.identity) (le4 c.args.name.tag) (field_of (digits_of c.args.start.now))
      (entry_place c.args.i) _ _ _ (omega arith) (omega arith) (omega arith) (omega arith)
      c.write_u32.ensures.bytes c.write_u32-2.ensures.bytes c.write_code.ensures.bytes;
}
