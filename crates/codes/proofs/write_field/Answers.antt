-- The field of the digits, over as many bytes.
use Rattle.std.proofs.Common.{arith, sym}
use lib.Seq.{length-take-le}
use Rattle.numbers.proofs.PutLaws.{put_copied_front}
use Rattle.codes.proofs.FieldLaws.{field_length}
use Rattle.codes.proofs.write_field.Goals as goal

pub pack_into-requires : goal.pack_into-requires
pack_into-requires c = record { whole = length-take-le 32 c.args.field.now (omega (arith, c.requires.room)); slots = c.requires.slots }

pub returns : goal.returns
returns c = record {
  bytes = put_copied_front _ _ _ _ (sym (field_length c.args.digits.now)) c.pack_into.ensures.field;
}
