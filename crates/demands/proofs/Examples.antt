-- 01's worked examples hold: one table, one claim.
-- Assumes nothing.
use mathlib.Core.Path.{◌≡◌, refl}
use mathlib.Core.List.{map}
use Rattle.digits.specs.Thirds.{thirds_deep}
use Rattle.codes.specs.Field.{field_of}
use Rattle.tables.specs.Table.{rows_of}
use Rattle.demands.specs.Worked.{Case, worked}

-- P1 to P14. Keeps out a step that turns 2 into 3 between codes of equal lengths (P2)
pub examples : map (λ (c : Case). c.computed) worked ≡ map (λ (c : Case). c.expected) worked
unfolding worked thirds_deep field_of rows_of
examples = refl
