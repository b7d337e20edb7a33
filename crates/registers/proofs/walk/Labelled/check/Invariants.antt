-- the labels before i are sound
use mathlib.Core.Path.{◌≡◌}
use mathlib.Core.Bool.{true}
use Rattle.registers.specs.Sound.{is_sound_labels}
use Rattle.registers.proofs.walk.Labelled.check.Given as goal

abbrev pub invariant-loop-i : goal.invariant-loop-i
invariant-loop-i l = is_sound_labels l.reading.bytes.now l.i ≡ true
