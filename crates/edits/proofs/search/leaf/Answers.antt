-- `leaf` meets its contract. Assumes nothing.
use mathlib.Core.Path.{ap, ◌∙◌}
use Prim.Native.Nat.{ℕ}
use Rattle.trees.specs.Search.{leading}
use Rattle.registers.specs.Entries.{code_at}
use Rattle.registers.specs.Questions.{lines_of}
use Rattle.edits.proofs.SearchLaws.{end_read}
use Rattle.edits.proofs.PlaceLaws.{leaf_is}
use Rattle.edits.proofs.search.leaf.Goals as goal

pub starts_below-requires : goal.starts_below-requires
starts_below-requires c = record {
  code = end_read _ c.args.register.now.sound c.args.i c.requires.place _ c.end_place.ensures.place;
}

pub returns : goal.returns
returns c = record {
  leaf = let b = c.args.register.now.reading.bytes.now in
      leaf_is b c.args.register.now.sound c.args.i c.starts_below.result c.requires.place
      (c.starts_below.ensures.starts ∙ ap (λ (z : ℕ). leading (code_at b z) (lines_of b)) c.end_place.ensures.place);
}
