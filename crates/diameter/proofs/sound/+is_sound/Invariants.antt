use Rattle.std.proofs.Common.{◌≡◌, length}
use Rattle.diameter.specs.Soundness.{sound}
use Rattle.diameter.proofs.sound.+is_sound.Given as goal

abbrev pub decreases-is_sound : goal.decreases-is_sound
decreases-is_sound l = l.levels

abbrev pub invariant-loop-avp : goal.invariant-loop-avp
invariant-loop-avp l = sound l.levels l.avps.rest.now ≡ sound l.levels l.bytes

abbrev pub decreases-loop-avp : goal.decreases-loop-avp
decreases-loop-avp l = length l.avps.rest.now
