-- Four equations of words are one of fields.
use Rattle.std.proofs.Common.{sym}
use Rattle.codes.proofs.CompareLaws.{same_words}
use Rattle.codes.proofs.field.same.Goals as goal

pub returns : goal.returns
returns c = record {
  same = rw (
    c.word.ensures,
    c.word-2.ensures,
    c.word-3.ensures,
    c.word-4.ensures,
    c.word-5.ensures,
    c.word-6.ensures,
    c.word-7.ensures,
    c.word-8.ensures,
  )
      (sym (same_words _ _ c.fits-left c.told-left c.fits-right c.told-right));
}
