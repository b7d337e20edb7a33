-- The end and the parent start behind the head.
use mathlib.Core.Path.{ap, ◌∙◌}
use mathlib.Core.List.{◌++◌, append_assoc}
use native.Mathlib.Omega.{arith}
use lib.ListN.{length-append}
use Rattle.numbers.specs.Bytes.{put, le4}
use Rattle.codes.specs.Field.{field_of}
use Rattle.codes.specs.Spread.{digits_of}
use Rattle.codes.proofs.FieldLaws.{field_length}
use Rattle.registers.specs.Layout.{entry_place}
use Rattle.registers.specs.Entries.{entry_bytes}
use Rattle.registers.proofs.WriteLaws.{run_behind, head_length}
use Rattle.registers.proofs.write_entry.Goals as goal

pub returns : goal.returns
unfolding entry_bytes
returns c = record {
  bytes = let u = c.args.entry.now in
      let x = le4 u.name.identity in
      let y = le4 u.name.tag in
      let f = field_of (digits_of u.start) in
      let g = field_of (digits_of u.end) in
      let p = field_of (digits_of u.parent) in
      let h = head_length u.name.identity u.name.tag (digits_of u.start) in
      let l = length-append (x ++ (y ++ f)) g in
      run_behind c.args.register.now _ _ ((x ++ (y ++ f)) ++ g) p (entry_place c.args.i) _ (omega arith)
      (run_behind c.args.register.now _ _ (x ++ (y ++ f)) g (entry_place c.args.i) _ (omega arith) c.write_head.ensures.bytes
      (c.end_place.ensures.place ∙ omega (arith, h)) c.write_code.ensures.bytes)
      (c.parent_place.ensures.place ∙ omega (arith, h, l, field_length (digits_of u.end)))
      c.write_code-2.ensures.bytes
      ∙ ap (put _ _) (simp append_assoc);
}
