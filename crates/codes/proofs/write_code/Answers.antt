-- The field of the first digits.
use Rattle.std.proofs.Common.{arith}
use Rattle.numbers.proofs.PutLaws.{put_copied}
use Rattle.codes.specs.Spread.{digits_of}
use Rattle.codes.proofs.TestLaws.{code_slots}
use Rattle.codes.proofs.FieldLaws.{field_length}
use Rattle.codes.proofs.write_code.Goals as goal

pub pack_into-requires-clause-slots : goal.pack_into-requires-clause-slots
pack_into-requires-clause-slots c = code_slots (digits_of c.args.code.now) c.requires.code

pub returns : goal.returns
returns c = record {
  bytes = put_copied _ _ _ _ _ (omega (arith, field_length (digits_of c.args.code.now))) c.pack_into.ensures.field;
}
