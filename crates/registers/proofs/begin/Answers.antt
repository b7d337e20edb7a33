-- An empty end behind the head.
use mathlib.Core.Path.{ap, ◌∙◌}
use mathlib.Core.List.{[], ◌++◌, append_assoc}
use native.Mathlib.Omega.{arith}
use Rattle.numbers.specs.Bytes.{put, le4}
use Rattle.numbers.proofs.PutLaws.{put_filled}
use Rattle.codes.specs.Field.{field_of}
use Rattle.codes.specs.Spread.{digits_of}
use Rattle.registers.specs.Layout.{entry_place}
use Rattle.registers.proofs.WriteLaws.{field_empty, run_behind, head_length}
use Rattle.registers.proofs.begin.Goals as goal

pub returns : goal.returns
returns c = record {
  bytes = let x = le4 c.args.name.identity in
      let y = le4 c.args.name.tag in
      let f = field_of (digits_of c.args.start.now) in
      run_behind c.args.register.now _ _ (x ++ (y ++ f)) (field_of []) (entry_place c.args.i) _ (omega arith)
      c.write_head.ensures.bytes
      (c.end_place-end.ensures.place ∙ omega (arith, head_length c.args.name.identity c.args.name.tag (digits_of c.args.start.now)))
      (put_filled _ _ _ _ 32 0 (omega arith) (omega arith) (c.fill.ensures.after (λ _ e. e)) ∙ ap (put _ _) field_empty)
      ∙ ap (put _ _) (append_assoc x (y ++ f) _ ∙ ap (λ l. x ++ l) (append_assoc y f _));
}
