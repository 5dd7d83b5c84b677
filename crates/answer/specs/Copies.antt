-- When an AVP may be copied into an answer.
--     Whole a      a is what stands at the front of its octets, and all of them
--     Copyable a   it is whole, sound where a request is, and no longer than a request has room for
--     Tellable f   what is told of the request's AVPs may be told
--     FitsTell f  the same as far as lengths go
use Rattle.std.specs.Prelude.{◌≡◌, ◌≤◌, true, length}
use Rattle.diameter.specs.Avps.{stands}
use Rattle.diameter.specs.Lists.{Avp, front}
use Rattle.diameter.specs.Soundness.{sound}
use Rattle.request.specs.Askings.{Fault, nothing, copied, lacks}
use Rattle.answer.specs.Limits.{copy_limit}
use Rattle.answer.specs.Faults.{kept_of, held_of}

pub record Whole (a : Avp) : Type 0 where
  pub there : stands a.octets ≡ true
  pub same : a ≡ front a.octets

pub record Copyable (a : Avp) : Type 0 where
  pub whole : Whole a
  pub sound_alone : sound 3 a.octets ≡ true
  pub short : length a.octets ≤ copy_limit

abbrev pub Tellable : Fault → Type 0
Tellable nothing = Unit {0}
Tellable (copied a) = Copyable a
Tellable (lacks k) = Unit {0}

pub record FitsTell (f : Fault) : Type 0 where
  pub there : kept_of f ≤ held_of f
  pub short : held_of f ≤ copy_limit
