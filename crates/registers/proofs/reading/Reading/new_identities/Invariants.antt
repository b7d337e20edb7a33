-- the first i numbers are the identities of the first i lines
use mathlib.Core.Path.{◌≡◌}
use lib.ListN.{length, take}
use Rattle.registers.specs.Holds.{identities}
use Rattle.registers.specs.Sound.{lines_from}
use Rattle.registers.proofs.reading.Reading.new_identities.Given as goal

abbrev pub invariant-loop-i : goal.invariant-loop-i
invariant-loop-i l = (length l.all ≡ 4096) × (take l.i l.all ≡ identities (lines_from l.self.bytes.now 0 l.i))
