-- What the four words say is what the field reads as.
use Rattle.std.proofs.Common.{◌∙◌}
use Rattle.codes.proofs.WordLaws.{all_bytes}
use Rattle.codes.proofs.ReadingLaws.{words_code}
use Rattle.codes.proofs.field.is_code.Goals as goal

pub returns : goal.returns
returns c =
    c.packed.ensures ∙ rw (c.word.ensures, c.word-2.ensures, c.word-3.ensures, c.word-4.ensures)
    (words_code c.args.field.now c.told-field (all_bytes c.args.field.now c.fits-field))
