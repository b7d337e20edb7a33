-- One digit more, and the byte that it goes into.
use Rattle.std.proofs.Common.{sym, ap, ◌∙◌, ℕ}
use lib.ListN.{replicate}
use Rattle.codes.specs.Field.{field_of}
use Rattle.codes.proofs.PackerLaws.{pushes_nil}
use Rattle.codes.proofs.WriteLaws.{next_pushable, next_pushes, next_field}
use Rattle.codes.proofs.pack_into.Goals as goal

pub loop-i-init : goal.loop-i-init
unfolding field_of
loop-i-init c = record {
  packer = c.new-packer.ensures.nothing ∙ sym pushes_nil;
  field = c.fill.ensures.after (λ y e. e) ∙ ap (λ (n : ℕ). replicate n 0) c.requires.whole;
}

pub push-packer-requires : goal.push-packer-requires
push-packer-requires c = record {
  pushable = next_pushable c.args.digits.now c.loop-i.i c.requires.slots c.loop-i-test.true c.loop-i.packer c.loop-i.invariant.packer;
}

pub loop-i-preserved : goal.loop-i-preserved
loop-i-preserved c =
    let inv = c.loop-i.invariant in
    let pushed = c.push-packer.ensures.pushed in
    record {
      packer = next_pushes c.args.digits.now c.loop-i.i c.requires.slots c.loop-i-test.true _ _ inv.packer pushed;
      field = next_field c.args.digits.now c.loop-i.i c.requires.slots c.loop-i-test.true _ _ _ inv.field inv.packer pushed;
    }
