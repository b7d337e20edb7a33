-- The digit at its place, in each of the four cases of the count.
use Rattle.std.proofs.Common.{◌%◌, ◌<◌, arith, refl}
use Rattle.codes.proofs.PackerLaws.{shifted, fits_byte, after}
use Rattle.codes.proofs.packer.Packer.push.Goals as goal

pub overflow_add-result : goal.overflow_add-result
overflow_add-result c =
    let a = c.args.self in
    let d = c.args.digit in
    let k : a.count % 4 < 4 = omega arith in
    let s = shifted d (a.count % 4) c.requires.pushable.small k in
    let b = fits_byte a d (a.count % 4) c.requires.pushable.small k (omega arith) refl c.requires.pushable.opened in
    omega (arith, s, b, c.begun.ensures)

pub returns : goal.returns
returns c =
    let a = c.args.self in
    let d = c.args.digit in
    let k : a.count % 4 < 4 = omega arith in
    let t = after a d _ c.requires.pushable.small c.requires.pushable.opened (a.count % 4) k refl
    (rw (c.begun.ensures, shifted d (a.count % 4) c.requires.pushable.small k) refl) in
    record { pushed = t.0; «open» = t.1 }
