-- The first two words that differ decide, both ways.
use Rattle.std.proofs.Common.{sym}
use Rattle.codes.proofs.CompareLaws.{first_apart, second_apart, last_apart, ordered}
use Rattle.codes.proofs.field.compare.Goals as goal

pub returns-then-a-b : goal.returns-then-a-b
returns-then-a-b c = record {
  order = let a = c.word-a.ensures in
      let b = c.word-b.ensures in
      let n = c.if-a-b.true in
      ordered c.args.left.now c.args.right.now _ _ _ c.sign.type_inv c.sign.ensures
      (first_apart _ _ c.fits-left c.told-left c.fits-right c.told-right _ _ a b n)
      (first_apart _ _ c.fits-right c.told-right c.fits-left c.told-left _ _ b a (λ e. n (sym e)));
}

pub returns-then-a-b-2 : goal.returns-then-a-b-2
returns-then-a-b-2 c = record {
  order = let a = c.word-a.ensures in
      let b = c.word-b.ensures in
      let e = c.if-a-b.false in
      let d = c.word-a-2.ensures in
      let f = c.word-b-2.ensures in
      let n = c.if-a-b-2.true in
      ordered c.args.left.now c.args.right.now _ _ _ c.sign-then-a-b-2.type_inv c.sign-then-a-b-2.ensures
      (second_apart _ _ c.fits-left c.told-left c.fits-right c.told-right _ _ _ _ a b e d f n)
      (second_apart _ _ c.fits-right c.told-right c.fits-left c.told-left _ _ _ _ b a (sym e) f d (λ k. n (sym k)));
}

pub returns : goal.returns
returns c = record {
  order = let a = c.word-a.ensures in
      let b = c.word-b.ensures in
      let e = c.if-a-b.false in
      let d = c.word-a-2.ensures in
      let f = c.word-b-2.ensures in
      let g = c.if-a-b-2.false in
      let s = c.last_two-a.ensures in
      let t = c.last_two-b.ensures in
      ordered c.args.left.now c.args.right.now _ _ _ c.sign-2.type_inv c.sign-2.ensures
      (last_apart _ _ c.fits-left c.told-left c.fits-right c.told-right _ _ _ _ _ _ a b e d f g s t)
      (last_apart _ _ c.fits-right c.told-right c.fits-left c.told-left _ _ _ _ _ _ b a (sym e) f d (sym g) t s);
}
