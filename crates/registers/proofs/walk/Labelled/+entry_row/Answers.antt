-- An entry: its own tests, then its row. A row: each child's entry, or the end of the row.
use mathlib.Core.Path.{◌≡◌, sym, ap, ◌∙◌}
use Prim.Native.Nat.{ℕ}
use native.Mathlib.Omega.{arith}
use Rattle.std.specs.Prelude.{Some}
use Rattle.registers.specs.Entries.{code_at}
use Rattle.registers.specs.Sound.{children_from}
use Rattle.registers.proofs.SoundLaws.{below_at}
use Rattle.registers.proofs.ReadingLaws.{start_held, end_held}
use Rattle.registers.proofs.RowLaws.{entry_on, entry_no, entry_deep, row_past, row_ends, row_to, row_un}
use Rattle.registers.proofs.walk.Labelled.+entry_row.Goals as goal
use Rattle.registers.proofs.walk.Labelled.+entry_row.Goals.{entry-else-depth-le-DEEPEST-via-then-depth-le-DEEPEST+else-in_place, entry-else-depth-le-DEEPEST-via-else-depth-le-DEEPEST}

pub entry-returns-then-in_place : goal.entry-returns-then-in_place
entry-returns-then-in_place t c =
    let a = c.args in
    let l = a.self.now in
    record {
      walked = c.row.ensures.walked ∙ entry_on l.reading.bytes.now l.reading.count a.parent a.depth (code_at l.reading.bytes.now a.low) a.at
          (l.reading.entries, l.labels) c.requires.places.1 c.requires.places.0 (omega arith)
          (sym c.in_place.ensures.place ∙ c.if-in_place.true);
    }

pub entry-returns-else-depth-le-DEEPEST : goal.entry-returns-else-depth-le-DEEPEST
entry-returns-else-depth-le-DEEPEST t c =
    let a = c.args in
    let l = a.self.now in
    let b = l.reading.bytes.now in
    record {
      walked = elim c.else-depth-le-DEEPEST.branch [
        | entry-else-depth-le-DEEPEST-via-then-depth-le-DEEPEST+else-in_place w ↦
            entry_no b l.reading.count a.parent a.depth (code_at b a.low) a.at (l.reading.entries, l.labels) c.requires.places.1
            c.requires.places.0 (omega arith) (sym w.in_place.ensures.place ∙ w.if-in_place.false)
        | entry-else-depth-le-DEEPEST-via-else-depth-le-DEEPEST w ↦
            entry_deep b l.reading.count a.parent a.depth (code_at b a.low) a.at (omega arith)
      ];
    }

pub row-loop-i-init : goal.row-loop-i-init
row-loop-i-init t c =
    let a = c.args in
    let l = a.self.now in
    let b = l.reading.bytes.now in
    let e = c.start_place-low.ensures.place in (
      omega arith,
      c.requires.places.0,
      start_held b l.reading.count _ _ l.reading.entries l.labels c.requires.places.1 e,
      ap (λ (k : ℕ). children_from b l.reading.count a.parent a.depth (code_at b k) a.at) (sym e),
    )

pub row-fields_below-requires : goal.row-fields_below-requires
row-fields_below-requires t c =
    let l = c.args.self.now in
    record {
      codes = (
        start_held _ _ _ _ l.reading.entries l.labels c.loop-i-test.true c.start_place.ensures.place,
        end_held _ _ _ _ l.reading.entries l.labels c.requires.places.1 c.end_place.ensures.place,
      );
    }

pub row-returns-then-not-fields_below : goal.row-returns-then-not-fields_below
row-returns-then-not-fields_below t c =
    let a = c.args in
    let l = a.self.now in
    let b = l.reading.bytes.now in
    let low = below_at b _ _ _ _ _ c.fields_below.ensures.below c.start_place.ensures.place c.end_place.ensures.place in
    record {
      walked = row_ends b l.reading.count a.parent a.depth (code_at b c.loop-i.low) c.loop-i.i (l.reading.entries, l.labels)
          c.requires.places.1 c.loop-i-test.true (sym low ∙ c.if-not-fields_below.true) ∙ sym c.loop-i.invariant.3;
    }

pub row-returns-in_err-next : goal.row-returns-in_err-next
row-returns-in_err-next t c =
    let a = c.args in
    let l = a.self.now in
    let b = l.reading.bytes.now in
    let low = below_at b _ _ _ _ _ c.fields_below.ensures.below c.start_place.ensures.place c.end_place.ensures.place in
    record {
      walked = c.from_residual.ensures ∙ sym (c.loop-i.invariant.3 ∙ row_un b l.reading.count a.parent a.depth
          (code_at b c.loop-i.low) c.loop-i.i
          (l.reading.entries, l.labels) c.requires.places.1 c.loop-i-test.true (sym low ∙ c.if-not-fields_below.false)
          (sym c.in_err-next.ensures.walked));
    }

pub row-loop-i-smaller : goal.row-loop-i-smaller
row-loop-i-smaller t c =
    let a = c.args in
    let l = a.self.now in
    let b = l.reading.bytes.now in
    let low = below_at b _ _ _ _ _ c.fields_below.ensures.below c.start_place.ensures.place c.end_place.ensures.place in
    let w = row_to b l.reading.count a.parent a.depth (code_at b c.loop-i.low) c.loop-i.i (l.reading.entries, l.labels)
    c.requires.places.1 c.loop-i-test.true (sym low ∙ c.if-not-fields_below.false) _ (sym c.in_ok-next.ensures.walked) in
    omega (arith, w.later, w.inside)

pub row-loop-i-preserved : goal.row-loop-i-preserved
row-loop-i-preserved t c =
    let a = c.args in
    let l = a.self.now in
    let b = l.reading.bytes.now in
    let low = below_at b _ _ _ _ _ c.fields_below.ensures.below c.start_place.ensures.place c.end_place.ensures.place in
    let w = row_to b l.reading.count a.parent a.depth (code_at b c.loop-i.low) c.loop-i.i (l.reading.entries, l.labels)
    c.requires.places.1 c.loop-i-test.true (sym low ∙ c.if-not-fields_below.false) _ (sym c.in_ok-next.ensures.walked) in (
      omega (arith, w.later, c.loop-i.invariant.0),
      w.inside,
      end_held b l.reading.count _ _ l.reading.entries l.labels c.loop-i-test.true c.end_place-low.ensures.place,
      c.loop-i.invariant.3 ∙ w.same
          ∙ ap (λ (k : ℕ). children_from b l.reading.count a.parent a.depth (code_at b k) c.in_ok-next.next)
          (sym c.end_place-low.ensures.place),
    )

pub row-returns : goal.row-returns
row-returns t c =
    let a = c.args in
    let l = a.self.now in
    let b = l.reading.bytes.now in
    let n = l.reading.count in
    let e : c.loop-i.i ≡ n = omega (arith, c.loop-i-test.false, c.loop-i.invariant.1) in
    record {
      walked = ap Some e ∙ row_past b n _ _ _ _
          ∙ ap (λ (k : ℕ). children_from b n a.parent a.depth (code_at b c.loop-i.low) k) (sym e)
          ∙ sym c.loop-i.invariant.3;
    }
