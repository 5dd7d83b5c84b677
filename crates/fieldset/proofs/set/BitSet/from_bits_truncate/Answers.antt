use Rattle.std.proofs.Common.{arith, pow_mono}
use Rattle.fieldset.proofs.set.BitSet.from_bits_truncate.Goals as goal

pub invariant_of-result : goal.invariant_of-result
invariant_of-result g c = record { narrow = omega (arith, pow_mono c.if-this-ge16.true) }
