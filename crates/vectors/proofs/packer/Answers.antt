-- `packer` pushes onto a byte whose free bits are zero. Assumes nothing.
use mathlib.Core.Path.{refl}
use native.Mathlib.Omega.{arith}
use Rattle.codes.proofs.PackerLaws.{open_new, open_of}
use Rattle.vectors.proofs.packer.Goals as goal

pub byte_after-one-requires : goal.byte_after-one-requires
byte_after-one-requires g c = record { pushable = record { small = omega arith; room = omega arith; opened = open_new _ refl } }

pub byte_after-two-requires : goal.byte_after-two-requires
byte_after-two-requires g c = record {
  pushable = record { small = omega arith; room = omega arith; opened = open_of _ 1 refl (omega (arith, c.byte_after-one.ensures.byte)) };
}

pub byte_after-three-requires : goal.byte_after-three-requires
byte_after-three-requires g c = record {
  pushable = record {
    small = omega arith;
    room = omega arith;
    opened = open_of _ 2 refl (omega (arith, c.byte_after-one.ensures.byte, c.byte_after-two.ensures.byte));
  };
}
