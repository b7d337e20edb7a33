-- The field of a sound label is a code or empty.
use mathlib.Core.Path.{◌∙◌}
use Rattle.registers.proofs.ReadingLaws.{orphan_field}
use Rattle.registers.proofs.walk.Labelled.orphan.Goals as goal

pub returns : goal.returns
returns c = record {
  orphan = let l = c.args.self.now in
      c.is_empty.ensures.empty
      ∙ orphan_field _ _ _ _ l.reading.entries l.labels l.reading.some c.parent_place.ensures.place c.field.ensures.part;
}
