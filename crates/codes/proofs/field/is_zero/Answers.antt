-- What the four words say is what the field reads as.
use Rattle.codes.proofs.WordLaws.{all_bytes}
use Rattle.codes.proofs.ReadingLaws.{words_empty}
use Rattle.codes.proofs.field.is_zero.Goals as goal

pub returns : goal.returns
returns c =
    rw (c.word.ensures, c.word-2.ensures, c.word-3.ensures, c.word-4.ensures)
    (words_empty c.args.field.now c.told-field (all_bytes c.args.field.now c.fits-field))
