-- A request read, by the table of its refusals.
--     faults command name now l     refusals 9 to 13 in the order of trial, each with what it finds
--     asking command l              what the AVPs ask, where none of these finds anything
--     fields l, events l            the fields and the events that the AVPs name, as bits
--     Computes calls meaning width  each call answers what the number means, and a set of that width has a place for it
--     session_id m                  the Session-Id of m, where its AVPs are sound and begin with a right one
--     reading m name now            what the message m of the application function `name` says at the time now
use Rattle.std.specs.Prelude.{◌≡◌, ℕ, ◌^◌, ◌<◌, min, IfSome, false, cond, ◌&&◌, List, [], ◌∷◌, Some, None, Ok, Err, Option, Result, bit_or}
use Rattle.std.specs.Option.{option_map}
use Rattle.refusal.specs.declared.Refusal.{Refusal}
use Rattle.refusal.specs.declared.Refusal.TheVariants.{UnsupportedAvp, RepeatedAvp, MissingAvp, WrongAvp, WrongAf}
use Rattle.diameter.specs.Headers.{body}
use Rattle.diameter.specs.Lists.{Avp, avps, first_such}
use Rattle.diameter.specs.Soundness.{sound}
use Rattle.e2.specs.Checks.{checked}
use Rattle.e2.specs.declared.Command.{Command}
use Rattle.e2.specs.declared.Command.TheVariants.{UserData, SubscribeNotifications}
use Rattle.dictionary.specs.Addresses.{Address, address_in, sized}
use Rattle.dictionary.specs.Numbers.{word, field_of, event_of, time_of}
use Rattle.dictionary.specs.declared.known.Known.{Known}
use Rattle.dictionary.specs.declared.known.Known.TheVariants.{UserName, SessionId, OriginHost, OriginRealm, GloballyUniqueAddress, RequestedInformation, EventType, SubsReqType, ExpiryTime}
use Rattle.request.specs.Faults.{is, there, first, stranger, repeated, missing, misfit, foreign, deadline, subscribes}
use Rattle.request.specs.Askings.{Asked, UserData as ForUserData, Subscribe, Unsubscribe, Subject, at_address, of_user, Asking, Fault, copied, lacks, nothing, Rejected}

-- the first row that finds something
abbrev pub with_first : Option Fault → Refusal → Option Rejected → Option Rejected
with_first None refusal later = later
with_first (Some fault) refusal later = Some (record { refusal = refusal; carries = fault })

abbrev pub first_fault : List (Refusal × Option Fault) → Option Rejected
first_fault [] = None
first_fault ((refusal, finds) ∷ later) = with_first finds refusal (first_fault later)

abbrev pub faults : Command → List ℕ → ℕ → List Avp → List (Refusal × Option Fault)
faults command name now l =
    (UnsupportedAvp, option_map copied (stranger l))
    ∷ (RepeatedAvp, option_map copied (repeated (λ _. false) l))
    ∷ (MissingAvp, option_map lacks (missing command l))
    ∷ (WrongAvp, option_map copied (misfit (deadline command now l) l))
    ∷ (WrongAf, option_map copied (foreign name l))
    ∷ []

-- the data of the first AVP k, or none
abbrev pub payload_or_none : Option Avp → List ℕ
payload_or_none None = []
payload_or_none (Some a) = a.payload

abbrev pub payload_at : Known → List Avp → List ℕ
payload_at k l = payload_or_none (first_such (is k) l)

abbrev pub bit_of : Option ℕ → ℕ
bit_of None = 0
bit_of (Some n) = 2 ^ n

-- what one AVP adds, where those of the name `carrier` carry numbers, and `meaning` says what a number stands for
abbrev pub adds : Known → (ℕ → Option ℕ) → Avp → ℕ
adds carrier meaning a = cond (is carrier a) (bit_of (meaning (word a.payload))) 0

-- the union of the numbers that the AVPs carry, as bits, and of the bits so far
unfoldable pub union : Known → (ℕ → Option ℕ) → ℕ → List Avp → ℕ
union carrier meaning bits [] = bits
union carrier meaning bits (a ∷ later) = union carrier meaning (bit_or bits (adds carrier meaning a)) later

-- a function that is called as `calls` says computes `meaning`, whose values are below the width
abbrev pub Computes : (ℕ → Option ℕ → Type 0) → (ℕ → Option ℕ) → ℕ → Type 0
Computes calls meaning width = (n : ℕ) (r : Option ℕ) → n < 2 ^ 32 → calls n r → (r ≡ meaning n) × IfSome (meaning n) (λ k. k < min width 16)

abbrev pub fields : List Avp → ℕ
fields l = union RequestedInformation field_of 0 l

abbrev pub requested : List Avp → Option ℕ
requested l = cond (there RequestedInformation l) (Some (fields l)) None

abbrev pub events : List Avp → ℕ
events l = union EventType event_of 0 l

abbrev pub end : List Avp → Option ℕ
end l = option_map (λ (a : Avp). time_of (word a.payload)) (first_such (is ExpiryTime) l)

abbrev pub asked : Command → List Avp → Asked
asked UserData l = ForUserData (requested l)
asked SubscribeNotifications l = cond (subscribes (first_such (is SubsReqType) l)) (Subscribe (events l) (end l)) (Unsubscribe (events l))

-- by the address where there is one, else by the name of the user
abbrev pub by_address : Option Address → List Avp → Subject
by_address None l = of_user (payload_at UserName l)
by_address (Some a) l = at_address a

abbrev pub asking : Command → List Avp → Asking
asking command l =
    record {
      asked = asked command l;
      subject = by_address (address_in (payload_at GloballyUniqueAddress l)) l;
      host = payload_at OriginHost l;
      realm = payload_at OriginRealm l;
    }

abbrev pub unless_refused : Option Rejected → Asking → Result Asking Rejected
unless_refused None a = Ok a
unless_refused (Some r) a = Err r

abbrev pub after_check : Result Command Refusal → List ℕ → ℕ → List Avp → Result Asking Rejected
after_check (Err refusal) name now l = Err (record { refusal = refusal; carries = nothing })
after_check (Ok command) name now l = unless_refused (first_fault (faults command name now l)) (asking command l)

abbrev pub reading : List ℕ → List ℕ → ℕ → Result Asking Rejected
reading m name now = after_check (checked m) name now (avps (body m))

-- the data of an AVP, where it is a right Session-Id
abbrev pub right_session : Option Avp → Option (List ℕ)
right_session None = None
right_session (Some a) = cond (is SessionId a && sized 1 128 a.payload) (Some a.payload) None

-- the Session-Id that an answer to m carries
abbrev pub session_id : List ℕ → Option (List ℕ)
session_id m = cond (sound 3 (body m)) (right_session (first (avps (body m)))) None
