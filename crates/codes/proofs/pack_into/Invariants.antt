-- The packer and the field are those of the digits so far.
use Rattle.std.proofs.Common.{◌≡◌, take}
use Rattle.codes.specs.Field.{field_of}
use Rattle.codes.proofs.PackerLaws.{pushes}
use Rattle.codes.proofs.pack_into.Given as goal

abbrev pub invariant-loop-i : goal.invariant-loop-i
invariant-loop-i l = record {
  packer : l.packer ≡ pushes (take l.i l.digits);
  field : l.field ≡ field_of (take l.i l.digits);
}
