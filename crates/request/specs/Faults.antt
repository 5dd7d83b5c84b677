-- What can be wrong with the AVPs of a request: refusals 9 to 13, each by itself.
--     kind a                   which known AVP a is
--     stranger l               9: the first AVP that has to be understood and is unknown, at level 1 or directly in an address
--     stranger_in a            the one that a gives: a itself, or the first directly in it where it is an address
--     unsupported_by k a, stranger_by k a   what a alone has of it, and what it gives, where k is the known AVP of its name
--     repeated seen l          10: the first AVP that may stand once and stands again, where `seen` says which stood before
--     missing command l        11: the first AVP, in the order of report, that the command needs and that is not there
--     misfit after l           12: the first AVP whose data are wrong; an end has to be later than `after`, where there is such a time
--     misfit_by after k a      a itself, where its data are wrong, and k is the known AVP of its name
--     foreign name l           13: the AF-Application-Identifier, where it is not the name of the application function that asks
--     deadline command now l   the time that an end has to be later than: now when subscribing
use Rattle.std.specs.Prelude.{ℕ, Bool, true, false, cond, not, ◌&&◌, ◌||◌, List, [], ◌∷◌, ◌++◌, length, is_some, Some, None, Option, ◌==◌}
use Rattle.std.specs.Str.{bytes_eq}
use Rattle.diameter.specs.Bytes.{flagged}
use Rattle.diameter.specs.Lists.{Avp, avps, first_such, named}
use Rattle.e2.specs.declared.Command.{Command}
use Rattle.e2.specs.declared.Command.TheVariants.{UserData, SubscribeNotifications}
use Rattle.dictionary.specs.Numbers.{word}
use Rattle.dictionary.specs.Names.{known, code, vendor, repeats, index}
use Rattle.dictionary.specs.Forms.{form, formed}
use Rattle.dictionary.specs.declared.known.Known.{Known}
use Rattle.dictionary.specs.declared.known.Known.TheVariants.{UserName, VendorSpecificApplicationId, SessionId, OriginHost, AuthSessionState, DestinationRealm, OriginRealm, GloballyUniqueAddress, EventType, AfApplicationIdentifier, SubsReqType}
use Rattle.dictionary.specs.declared.form.Form.{Form}
use Rattle.dictionary.specs.declared.form.Form.TheVariants.{Unknown, Right, Wrong}

abbrev pub kind : Avp → Option Known
kind a = known a.code a.vendor

-- the AVP has the name of k
abbrev pub is : Known → Avp → Bool
is k a = named (code k) (vendor k) a

abbrev pub there : Known → List Avp → Bool
there k l = is_some (first_such (is k) l)

-- 9, where a is known as k
abbrev pub unsupported_by : Option Known → Avp → Bool
unsupported_by k a = flagged 0x40 a.flags && not (is_some k)

abbrev pub unsupported : Avp → Bool
unsupported a = unsupported_by (kind a) a

-- what stands directly in an address
abbrev pub parts : Avp → List Avp
parts a = cond (is GloballyUniqueAddress a) (avps a.payload) []

unfoldable pub with_parts : List Avp → List Avp
with_parts [] = []
with_parts (a ∷ later) = a ∷ (parts a ++ with_parts later)

-- where a is known as k
abbrev pub stranger_by : Option Known → Avp → Option Avp
stranger_by k a = cond (unsupported_by k a) (Some a) (first_such unsupported (parts a))

abbrev pub stranger_in : Avp → Option Avp
stranger_in a = stranger_by (kind a) a

abbrev pub stranger : List Avp → Option Avp
stranger l = first_such unsupported (with_parts l)

-- 10
abbrev pub also : Option Known → (Known → Bool) → Known → Bool
also None seen k = seen k
also (Some j) seen k = seen k || index k == index j

abbrev pub again : Option Known → (Known → Bool) → Bool
again None seen = false
again (Some k) seen = not (repeats k) && seen k

unfoldable pub repeated : (Known → Bool) → List Avp → Option Avp
repeated seen [] = None
repeated seen (a ∷ later) = cond (again (kind a) seen) (Some a) (repeated (also (kind a) seen) later)

-- 11
abbrev pub first : List Avp → Option Avp
first [] = None
first (a ∷ later) = Some a

abbrev pub is_session : Option Avp → Bool
is_session None = false
is_session (Some a) = is SessionId a

abbrev pub lacking : List (Known × Bool) → Option Known
lacking [] = None
lacking ((k, here) ∷ later) = cond here (lacking later) (Some k)

-- what only the command needs, and whom it is about
abbrev pub needed_by : Command → (Known → Bool) → List (Known × Bool)
needed_by UserData here = (GloballyUniqueAddress, here GloballyUniqueAddress || here UserName) ∷ []
needed_by SubscribeNotifications here =
    (SubsReqType, here SubsReqType)
    ∷ (EventType, here EventType)
    ∷ (GloballyUniqueAddress, here GloballyUniqueAddress || here UserName)
    ∷ []

-- in the order of report, where `headed` says that the Session-Id is first and `here` which AVPs are there
abbrev pub missing_by : Command → Bool → (Known → Bool) → Option Known
missing_by command headed here =
    lacking
    ((SessionId, headed)
    ∷ (VendorSpecificApplicationId, here VendorSpecificApplicationId)
    ∷ (AuthSessionState, here AuthSessionState)
    ∷ (OriginHost, here OriginHost)
    ∷ (OriginRealm, here OriginRealm)
    ∷ (DestinationRealm, here DestinationRealm)
    ∷ (AfApplicationIdentifier, here AfApplicationIdentifier)
    ∷ needed_by command here)

abbrev pub missing : Command → List Avp → Option Known
missing command l = missing_by command (is_session (first l)) (λ k. there k l)

-- 12
abbrev pub is_wrong : Form → Bool
is_wrong Unknown = false
is_wrong (Right k) = false
is_wrong (Wrong k) = true

abbrev pub wrong : Option ℕ → Avp → Bool
wrong after a = is_wrong (form after a.code a.vendor a.payload)

-- a itself, where it is known as k and its data are wrong
abbrev pub misfit_by : Option ℕ → Option Known → Avp → Option Avp
misfit_by after k a = cond (is_wrong (formed after k a.payload)) (Some a) None

abbrev pub misfit : Option ℕ → List Avp → Option Avp
misfit after l = first_such (wrong after) l

-- a Subs-Req-Type of four bytes and value 0 subscribes
abbrev pub subscribes : Option Avp → Bool
subscribes None = false
subscribes (Some a) = length a.payload == 4 && word a.payload == 0

abbrev pub deadline : Command → ℕ → List Avp → Option ℕ
deadline UserData now l = None
deadline SubscribeNotifications now l = cond (subscribes (first_such (is SubsReqType) l)) (Some now) None

-- 13
abbrev pub unless_named : List ℕ → Option Avp → Option Avp
unless_named name None = None
unless_named name (Some a) = cond (bytes_eq a.payload name) None (Some a)

abbrev pub foreign : List ℕ → List Avp → Option Avp
foreign name l = unless_named name (first_such (is AfApplicationIdentifier) l)
