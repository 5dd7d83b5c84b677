use Rattle.std.proofs.Common.{◌≡◌, ℕ, Option}
use Rattle.diameter.specs.Lists.{avps}
use Rattle.request.specs.Readings.{union, Computes}
use Rattle.request.proofs.body.Body.union.Given as goal

abbrev pub invariant-loop-avp : goal.invariant-loop-avp
invariant-loop-avp g l =
    (goal.iterator-loop-avp g).can_next l.avp-iterator
    × (goal.iterator-loop-avp g).is_finite l.avp-iterator
    × ((m : ℕ → Option ℕ) → Computes (goal.F-post g l.meaning) m g.row.WIDTH → union l.carrier m l.set.bits (avps l.avp-iterator.rest.now) ≡ union l.carrier m 0 (avps l.initial.avp-iterator.rest.now))
