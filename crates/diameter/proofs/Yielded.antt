-- What the iterator over AVPs yields: the AVPs of its bytes.
use Rattle.std.proofs.Common.{◌≡◌, ℕ, List, length, Option, ap, subst}
use Rattle.std.proofs.lemmas.Iterator.{YieldsList}
use Rattle.std.proofs.lemmas.Iterator.Consumers.{YieldsList-from_shown}
use Rattle.diameter.specs.Lists.{avps}
use Rattle.diameter.specs.Views.{avp_of, TakesFirst}
use Rattle.diameter.specs.declared.avp.AvpView.{AvpView}
use Rattle.diameter.specs.declared.avps.Avps.{Avps}
use Rattle.diameter.proofs.Turns.{split_more, avps_stop}

abbrev pub takes : Avps → Option AvpView → Avps → Type 0
takes s r t = TakesFirst r t.rest.now s.rest.now

pub avps_yielded : (s : Avps) (xs : List ℕ) → s.rest.now ≡ xs → YieldsList takes avp_of s (avps xs)
avps_yielded s xs e =
    subst (λ l. YieldsList takes avp_of s (avps l)) e
    (YieldsList-from_shown takes avp_of (λ (t : Avps). avps t.rest.now) (λ t u h. ap length (avps_stop t.rest.now h.0)) (λ t v u h. split_more h) s)
