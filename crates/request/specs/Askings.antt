-- What a request says, as values without references.
--     Asked            what is asked, with sets as numbers
--     Subject          which session it is about
--     Asking           a request that is right in itself
--     Fault            what the answer to a refused one tells of its AVPs
--     Rejected         why it is refused, with that
--     asked_of, subject_of, asking_of, rejected_of, refused, reading_of   what the code's borrowed values mean
use Rattle.std.specs.Prelude.{ℕ, List, Some, None, Ok, Err, Option, Result}
use Rattle.std.specs.Option.{option_map}
use Rattle.refusal.specs.declared.Refusal.{Refusal}
use Rattle.diameter.specs.Lists.{Avp}
use Rattle.diameter.specs.Views.{avp_of}
use Rattle.dictionary.specs.Addresses.{Address, address_of}
use Rattle.dictionary.specs.declared.known.Known.{Known}
use Rattle.fieldset.specs.declared.set.BitSet.{BitSet}
use Rattle.request.specs.declared.asking.Asked as code
use Rattle.request.specs.declared.asking.Target.{Target}
use Rattle.request.specs.declared.asking.Target.TheVariants.{Address as ByAddress, User as ByUser}
use Rattle.request.specs.declared.asking.Request.{Request}
use Rattle.request.specs.declared.asking.FaultyAvp.{FaultyAvp}
use Rattle.request.specs.declared.asking.FaultyAvp.TheVariants.{Present, Missing}
use Rattle.request.specs.declared.asking.Rejection.{Rejection}

pub data Asked : Type 0 where
  UserData : Option ℕ → Asked
  Subscribe : ℕ → Option ℕ → Asked
  Unsubscribe : ℕ → Asked

pub data Subject : Type 0 where
  at_address : Address → Subject
  of_user : List ℕ → Subject

pub record Asking : Type 0 where
  pub asked : Asked
  pub subject : Subject
  pub host : List ℕ
  pub realm : List ℕ

pub data Fault : Type 0 where
  nothing : Fault
  copied : Avp → Fault
  lacks : Known → Fault

pub record Rejected : Type 0 where
  pub refusal : Refusal
  pub carries : Fault

abbrev pub subject_of : Target → Subject
subject_of (ByAddress a) = at_address (address_of a)
subject_of (ByUser name) = of_user name.now

abbrev pub asked_of : code.Asked → Asked
asked_of (code.TheVariants.UserData requested) = UserData (option_map (λ (s : BitSet 10). s.bits) requested)
asked_of (code.TheVariants.Subscribe events end) = Subscribe events.bits end
asked_of (code.TheVariants.Unsubscribe events) = Unsubscribe events.bits

abbrev pub asking_of : Request → Asking
asking_of r = record { asked = asked_of r.asked; subject = subject_of r.target; host = r.host.now; realm = r.realm.now }

abbrev pub fault_of : Option FaultyAvp → Fault
fault_of None = nothing
fault_of (Some (Present a)) = copied (avp_of a)
fault_of (Some (Missing k)) = lacks k

abbrev pub rejected_of : Rejection → Rejected
rejected_of r = record { refusal = r.refusal; carries = fault_of r.faulty }

abbrev pub refused : Result (Unit {0}) Rejection → Option Rejected
refused (Ok _) = None
refused (Err r) = Some (rejected_of r)

abbrev pub reading_of : Result Request Rejection → Result Asking Rejected
reading_of (Ok r) = Ok (asking_of r)
reading_of (Err r) = Err (rejected_of r)
