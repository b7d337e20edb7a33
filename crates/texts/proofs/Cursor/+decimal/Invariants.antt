-- The digits but the last are those of a tenth.
use Rattle.texts.proofs.Cursor.+decimal.Given as goal

abbrev pub decreases-decimal : goal.decreases-decimal
decreases-decimal l = l.x
