-- `nearest` meets its contract: the search through all lines is the search from line i on. Assumes nothing.
use mathlib.Core.Path.{sym, ap, ◌∙◌, subst}
use Prim.Native.Nat.{ℕ}
use native.Mathlib.Omega.{arith}
use Rattle.digits.specs.Order.{Digits}
use Rattle.trees.specs.Search.{closer, nearest}
use Rattle.registers.specs.Entries.{code_at}
use Rattle.registers.specs.Sound.{CodeAt}
use Rattle.registers.specs.Questions.{lines_of}
use Rattle.edits.proofs.SearchLaws.{start_read, end_read, outer_code, outer_is, nearest_all, nearest_next}
use Rattle.edits.proofs.search.nearest.Goals as goal

pub loop-i-init : goal.loop-i-init
loop-i-init g c = let b = c.args.register.now.reading.bytes.now in
    let s = c.args.register.now.sound in
    let up = g.D.Direction.up in
    let o = c.outer_place-best.ensures.place in
    let x = code_at b c.args.from in record {
      counted = c.count-n.ensures.count;
      best = subst (CodeAt b) (sym o) (outer_code b s up);
      left =
          ap (λ (z : Digits). nearest up x z (lines_of b)) (outer_is b s up ∙ ap (code_at b) (sym o))
          ∙ nearest_all b up x _;
    }

pub closer-best-requires-clause-at : goal.closer-best-requires-clause-at
closer-best-requires-clause-at g c =
    start_read _ c.args.register.now.sound c.loop-i.i (omega (arith, c.loop-i.invariant.counted)) _ c.start_place.ensures.place

pub closer-best-requires-in-loop-i-clause-at : goal.closer-best-requires-in-loop-i-clause-at
closer-best-requires-in-loop-i-clause-at g c =
    end_read _ c.args.register.now.sound c.loop-i.i (omega (arith, c.loop-i.invariant.counted)) _ c.end_place.ensures.place

pub loop-i-preserved : goal.loop-i-preserved
loop-i-preserved g c = let b = c.args.register.now.reading.bytes.now in
    let up = g.D.Direction.up in
    let x = code_at b c.args.from in record {
      counted = c.loop-i.invariant.counted;
      best = c.closer-best-in-loop-i.ensures.code;
      left =
          c.loop-i.invariant.left
          ∙ nearest_next b up x c.args.register.now.sound c.loop-i.i (omega (arith, c.loop-i.invariant.counted)) _ _ _
          (c.closer-best.ensures.closer
          ∙ ap (λ (z : ℕ). closer up x (code_at b c.loop-i.best) (code_at b z)) c.start_place.ensures.place)
          (c.closer-best-in-loop-i.ensures.closer ∙ ap (λ (z : ℕ). closer up x (code_at b c.closer-best.result) (code_at b z))
          c.end_place.ensures.place);
    }
