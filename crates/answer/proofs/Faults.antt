-- What is told of the AVPs of a request: how long it is.
use Rattle.std.proofs.Common.{◌≡◌, ℕ, ◌≤◌, length, take, arith, length-append, length-take}
use lib.ListN.{length-replicate}
use Rattle.diameter.specs.Lists.{Avp}
use Rattle.diameter.specs.Bytes.{padded}
use Rattle.writer.specs.Bytes.{zeros}
use Rattle.writer.specs.Avps.{padding}
use Rattle.answer.specs.Faults.{kept, copy}

pub length_copy : (a : Avp) → kept a ≤ length a.octets → length (copy a) ≡ padded (kept a)
length_copy a h =
    let c = length-append (take (kept a) a.octets) (zeros (padding (kept a))) in
    let t = length-take (kept a) a.octets in
    let z = length-replicate {A = ℕ} (padding (kept a)) 0 in
    omega arith
