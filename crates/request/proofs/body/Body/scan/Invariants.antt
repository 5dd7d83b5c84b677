use Rattle.std.proofs.Common.{◌≡◌, ◌||◌}
use Rattle.std.specs.Option.{option_or}
use Rattle.diameter.specs.Lists.{avps}
use Rattle.diameter.specs.Views.{found}
use Rattle.dictionary.specs.declared.known.Known.{Known}
use Rattle.request.specs.Faults.{stranger, repeated, misfit, there}
use Rattle.request.specs.Scans.{marked}
use Rattle.request.proofs.body.Body.scan.Given as goal

abbrev pub invariant-loop-avp : goal.invariant-loop-avp
invariant-loop-avp l =
    (goal.iterator-loop-avp).can_next l.avp-iterator
    × (goal.iterator-loop-avp).is_finite l.avp-iterator
    × (stranger (avps l.avp-iterator.rest.now) ≡ stranger (avps l.initial.avp-iterator.rest.now))
    × (option_or (found l.scan.repeat) (repeated (marked l.scan.seen) (avps l.avp-iterator.rest.now)) ≡ repeated (marked l.initial.scan.seen) (avps l.initial.avp-iterator.rest.now))
    × (option_or (found l.scan.misfit) (misfit l.after (avps l.avp-iterator.rest.now)) ≡ misfit l.after (avps l.initial.avp-iterator.rest.now))
    × ((k : Known) → (marked l.scan.seen k || there k (avps l.avp-iterator.rest.now)) ≡ (marked l.initial.scan.seen k || there k (avps l.initial.avp-iterator.rest.now)))
