-- What each call returns, and what it leaves.
--     Af                    the record of an AF: its 16 subscription places, its line of notices (the oldest first), the serial of the notice that is out,
--                           the next serial, the host and realm that it last gave, and its three counts
--     State                 the time, the places of the sessions, and the records of the AFs by number
--     opened o              the state at opening
--     .. -refusals          for each call its refusals in the order of trial, each with the condition under which it applies
--     number_of table       0, or the number of the first refusal that applies
--     accepts table         none applies
--     sessions_after, now_after, af_after   what a call leaves: the sessions and the time depend on no AF, and the record of an AF only on its own two
--                           sets, the time, the sessions, the call and itself
--     after, reply          the whole state after a call, and what the call returns
use Rattle.std.specs.Prelude.{ℕ, zero, suc, ◌+◌, ◌-◌, ◌*◌, ◌%◌, ◌^◌, max, Bool, true, false, cond, not, ◌&&◌, ◌||◌, List, [], ◌∷◌, ◌++◌, length, replicate, is_some, Some, None, Ok, Err, filter, Option, Result, ◌==◌, count_ones, nat_le, nat_lt, slice_index_or}
use Rattle.std.specs.Option.{unwrap_or}
use Rattle.std.specs.Str.{bytes_eq}
use Rattle.refusal.specs.declared.Refusal.{Refusal}
use Rattle.refusal.specs.declared.Refusal.TheVariants.{UnknownAf, ShortBuffer, AmbiguousUser, NoSession, NothingToShow, NoPlace, WrongArgument, AddressTaken, NoRoom, NoSuchAddress, UnsoundValue, NoticeOut, NothingWaiting, WrongSlip}
use Rattle.refusal.specs.declared.ResultCode.{ResultCode}
use Rattle.refusal.specs.declared.ResultCode.TheVariants.{Base}
use Rattle.refusal.specs.Refusals.{number, code}
use Rattle.refusal.specs.Verdicts.{judged}
use Rattle.diameter.specs.Headers.{header_of}
use Rattle.diameter.specs.Soundness.{sound}
use Rattle.dictionary.specs.Addresses.{Address, sized}
use Rattle.fieldset.specs.Sets.{has, minus}
use Rattle.request.specs.Askings.{Subject, at_address, of_user, Asking, Fault, nothing, Rejected}
use Rattle.request.specs.Readings.{reading, session_id}
use Rattle.request.specs.Askings.{Asked, UserData, Subscribe, Unsubscribe}
use Rattle.answer.specs.Answers.{bare, showing, telling, answer_bytes}
use Rattle.message.specs.Laws.{is_group_field}
use Rattle.message.specs.Limits.{name_limit, value_limit, buffer_least}
use Rattle.notification.specs.Notifications.{Notification, notification_bytes}
use Rattle.model.specs.Places.{has_room, placed, altered}
use Rattle.model.specs.Values.{Sets, Book, Session, Subscription, Notice, Opening, Call, Arrive, Set, Leave, Clock, Ask, Take, Settle, Tell, Reply, Done, Answered, Taken, Counts, value, lives_at, fits, in_view, fresh, with_value, at_place, holds, lapsed, some, entries}

pub record Af : Type 0 where
  pub subs : List (Option Subscription)
  pub line : List Notice
  pub out : Option ℕ
  pub serial : ℕ
  pub host : List ℕ
  pub realm : List ℕ
  pub acknowledged : ℕ
  pub given_up : ℕ
  pub lost : ℕ

pub record State : Type 0 where
  pub now : ℕ
  pub sessions : List (Option Session)
  pub afs : List Af

-- subscription places of an AF, and notices in its line
abbrev pub af_places : ℕ
af_places = 16

abbrev pub line_most : ℕ
line_most = 16

abbrev pub new_af : Af
new_af =
    record { subs = replicate af_places None; line = []; out = None; serial = 0; host = []; realm = []; acknowledged = 0; given_up = 0; lost = 0 }

abbrev pub opened : Opening → State
opened o = record { now = 0; sessions = replicate o.places None; afs = replicate (length o.names) new_af }

-- ---- refusals

abbrev pub numbered : {A : Type 0} → Result A Refusal → ℕ
numbered (Ok x) = 0
numbered (Err r) = number r

abbrev pub number_of : List (Refusal × Bool) → ℕ
number_of table = numbered {A = ℕ} (judged table 0)

abbrev pub accepts : List (Refusal × Bool) → Bool
accepts table = number_of table == 0

-- four bytes, and a realm of 1 to 32
abbrev pub wrong_address : Address → Bool
wrong_address q = not (sized 4 4 q.ip && sized 1 32 q.realm)

-- a user name has 1 to 64 bytes
abbrev pub wrong_name : List ℕ → Bool
wrong_name name = not (sized 1 name_limit name)

-- a set of fields has no number above 9
abbrev pub wrong_set : ℕ → Bool
wrong_set bits = nat_le (2 ^ 10) bits

-- field 0, the name, is not to be set
abbrev pub wrong_field : ℕ → Bool
wrong_field k = not (nat_le 1 k && nat_le k 9)

abbrev pub long_value : List ℕ → Bool
long_value v = nat_lt value_limit (length v)

-- the address has a session
abbrev pub in_use : Address → List (Option Session) → Bool
in_use q ps = some (lives_at q) (entries ps)

-- the value of a group has to be sound from level 2 on
abbrev pub unsound_value : ℕ → List ℕ → Bool
unsound_value k v = is_group_field k && not (sound 3 v)

abbrev pub off_sheet : Opening → ℕ → Bool
off_sheet o a = not (nat_lt a (length o.names))

abbrev pub short_buffer : ℕ → Bool
short_buffer room = nat_lt room buffer_least

abbrev pub is_empty : {E : Type 0} → List E → Bool
is_empty [] = true
is_empty (e ∷ later) = false

abbrev pub is_number : Option ℕ → ℕ → Bool
is_number None n = false
is_number (Some m) n = m == n

abbrev pub arrive_refusals : Address → List ℕ → ℕ → List (Option Session) → List (Refusal × Bool)
arrive_refusals q name withheld ps =
    (WrongArgument, wrong_address q || (wrong_name name || wrong_set withheld))
    ∷ (AddressTaken, in_use q ps)
    ∷ (NoRoom, not (has_room ps))
    ∷ []

abbrev pub set_refusals : Address → ℕ → List ℕ → List (Option Session) → List (Refusal × Bool)
set_refusals q k v ps =
    (WrongArgument, wrong_address q || (wrong_field k || long_value v))
    ∷ (NoSuchAddress, not (in_use q ps))
    ∷ (UnsoundValue, unsound_value k v)
    ∷ []

abbrev pub leave_refusals : Address → List (Option Session) → List (Refusal × Bool)
leave_refusals q ps = (WrongArgument, wrong_address q) ∷ (NoSuchAddress, not (in_use q ps)) ∷ []

-- what an ask is refused for before its request is read
abbrev pub door_refusals : Opening → ℕ → ℕ → List (Refusal × Bool)
door_refusals o a room = (UnknownAf, off_sheet o a) ∷ (ShortBuffer, short_buffer room) ∷ []

abbrev pub take_refusals : Opening → ℕ → ℕ → Af → List (Refusal × Bool)
take_refusals o a room x =
    (UnknownAf, off_sheet o a)
    ∷ (ShortBuffer, short_buffer room)
    ∷ (NoticeOut, is_some x.out)
    ∷ (NothingWaiting, is_empty x.line)
    ∷ []

abbrev pub settle_refusals : Opening → ℕ → ℕ → Af → List (Refusal × Bool)
settle_refusals o a serial x = (UnknownAf, off_sheet o a) ∷ (WrongSlip, not (is_number x.out serial)) ∷ []

abbrev pub tell_refusals : Opening → ℕ → List (Refusal × Bool)
tell_refusals o a = (UnknownAf, off_sheet o a) ∷ []

-- ---- what an ask finds and shows

-- the sessions that fit what is asked for
abbrev pub fitting : Subject → List (Option Session) → List Session
fitting subject ps = filter (fits subject) (entries ps)

-- stands where there is no session
abbrev pub no_session : Session
no_session = record { address = record { ip = []; realm = [] }; withheld = 0; fields = [] }

-- the session that the request is about, of those that fit
abbrev pub about : List Session → Session
about [] = no_session
about (s ∷ later) = s

-- the set of the numbers below d that pass the test
abbrev pub those : ℕ → (ℕ → Bool) → ℕ
those zero p = 0
those (suc d) p = cond (p 0) 1 0 + 2 * those d (λ k. p (suc k))

abbrev pub is_stored : Session → ℕ → Bool
is_stored s k = not (is_empty (value s k))

-- all ten, where none are named
abbrev pub requested : Option ℕ → ℕ
requested named = unwrap_or named (2 ^ 10 - 1)

-- what is requested, in the view and stored
abbrev pub shown : Sets → Option ℕ → Session → ℕ
shown r named s = those 10 (λ k. has (requested named) k && (in_view r s k && is_stored s k))

-- 14: the request names a user, and several sessions fit
abbrev pub ambiguous : Subject → List Session → Bool
ambiguous (at_address q) found = false
ambiguous (of_user name) found = nat_le 2 (length found)

-- 16: fields are named, and none of them is shown
abbrev pub nothing_to_show : Sets → Asked → Session → Bool
nothing_to_show r (UserData None) s = false
nothing_to_show r (UserData (Some named)) s = shown r (Some named) s == 0
nothing_to_show r (Subscribe events end) s = false
nothing_to_show r (Unsubscribe events) s = false

-- 17: a new subscription finds no place
abbrev pub no_place : Asked → Address → List (Option Subscription) → Bool
no_place (UserData named) q subs = false
no_place (Subscribe events end) q subs = not (some (at_place q) (entries subs)) && not (has_room subs)
no_place (Unsubscribe events) q subs = false

-- what a request that is right in itself is refused for, where these sessions fit
abbrev pub subject_refusals : Sets → Asking → List Session → Af → List (Refusal × Bool)
subject_refusals r q found x =
    (AmbiguousUser, ambiguous q.subject found)
    ∷ (NoSession, is_empty found)
    ∷ (NothingToShow, nothing_to_show r q.asked (about found))
    ∷ (NoPlace, no_place q.asked (about found).address x.subs)
    ∷ []

-- a refusal whose answer tells nothing of the request's AVPs
abbrev pub plainly : {A : Type 0} → Result A Refusal → Result A Rejected
plainly (Ok x) = Ok x
plainly (Err r) = Err (record { refusal = r; carries = nothing })

abbrev pub and_then : {A B E : Type 0} → Result A E → (A → Result B E) → Result B E
and_then (Ok x) next = next x
and_then (Err e) next = Err e

abbrev pub name_of : Opening → ℕ → List ℕ
name_of o a = slice_index_or o.names a []

-- what AF a asks at the time now: 1 and 2, then 3 to 13
abbrev pub heard : Opening → ℕ → ℕ → ℕ → List ℕ → Result Asking Rejected
heard o a now room m = and_then {A = ℕ} (plainly (judged (door_refusals o a room) 0)) (λ _. reading m (name_of o a) now)

-- and 14 to 17
abbrev pub judged_asking : Sets → List (Option Session) → Af → Asking → Result Asking Rejected
judged_asking r ps x q = plainly (judged (subject_refusals r q (fitting q.subject ps) x) q)

abbrev pub ask_verdict : Opening → Sets → ℕ → ℕ → List (Option Session) → Af → ℕ → List ℕ → Result Asking Rejected
ask_verdict o r a now ps x room m = and_then (heard o a now room m) (judged_asking r ps x)

-- empty where the request has none
abbrev pub session_of : List ℕ → List ℕ
session_of m = unwrap_or (session_id m) []

-- 1 to 4 have no answer
abbrev pub refusal_bytes : Opening → List ℕ → Option ResultCode → Fault → List ℕ
refusal_bytes o m None f = []
refusal_bytes o m (Some result) f = answer_bytes (telling f (bare (header_of m) (session_of m) result o.host o.realm (λ _. [])))

-- the answer to an accepted request that shows the fields of the set, of this session
abbrev pub success_bytes : Opening → List ℕ → ℕ → Session → List ℕ
success_bytes o m bits s = answer_bytes (showing bits (bare (header_of m) (session_of m) (Base 2001) o.host o.realm (value s)))

-- an accepted SNR shows no field
abbrev pub shown_to : Sets → Asked → Session → ℕ
shown_to r (UserData named) s = shown r named s
shown_to r (Subscribe events end) s = 0
shown_to r (Unsubscribe events) s = 0

abbrev pub answered : Opening → Sets → List ℕ → List (Option Session) → Result Asking Rejected → Reply
answered o r m ps (Err e) = Answered (number e.refusal) 0 (refusal_bytes o m (code e.refusal) e.carries)
answered o r m ps (Ok q) =
    let s = about (fitting q.subject ps) in
    let bits = shown_to r q.asked s in
    Answered 0 (count_ones bits) (success_bytes o m bits s)

-- ---- the sessions and the time

-- what g makes of a session at the address
abbrev pub at_address_only : Address → (Session → Option Session) → Session → Option Session
at_address_only q g s = cond (lives_at q s) (g s) (Some s)

abbrev pub sessions_after : List (Option Session) → Call → List (Option Session)
sessions_after ps (Arrive q name withheld) = cond (accepts (arrive_refusals q name withheld ps)) (placed (fresh q name withheld) ps) ps
sessions_after ps (Set q k v) = cond (accepts (set_refusals q k v ps)) (altered (at_address_only q (λ s. Some (with_value k v s))) ps) ps
sessions_after ps (Leave q) = cond (accepts (leave_refusals q ps)) (altered (at_address_only q (λ s. None)) ps) ps
sessions_after ps (Clock n) = ps
sessions_after ps (Ask a room m) = ps
sessions_after ps (Take a room) = ps
sessions_after ps (Settle a serial n) = ps
sessions_after ps (Tell a) = ps

abbrev pub now_after : ℕ → Call → ℕ
now_after now (Arrive q name withheld) = now
now_after now (Set q k v) = now
now_after now (Leave q) = now
now_after now (Clock n) = max now n
now_after now (Ask a room m) = now
now_after now (Take a room) = now
now_after now (Settle a serial n) = now
now_after now (Tell a) = now

-- ---- the record of an AF

-- counts have 64 bits, and a full one stays
abbrev pub raised : ℕ → ℕ
raised n = cond (nat_lt n (2 ^ 64 - 1)) (n + 1) n

abbrev pub with_subs : List (Option Subscription) → Af → Af
with_subs subs x =
    record { subs = subs; line = x.line; out = x.out; serial = x.serial; host = x.host; realm = x.realm; acknowledged = x.acknowledged; given_up = x.given_up; lost = x.lost }

-- an event that falls due joins the line, or is lost where the line is full
abbrev pub notified : Notice → Af → Af
notified n x =
    record {
      subs = x.subs;
      line = cond (nat_lt (length x.line) line_most) (x.line ++ (n ∷ [])) x.line;
      out = x.out;
      serial = x.serial;
      host = x.host;
      realm = x.realm;
      acknowledged = x.acknowledged;
      given_up = x.given_up;
      lost = cond (nat_lt (length x.line) line_most) x.lost (raised x.lost);
    }

abbrev pub due_notice : Address → ℕ → List ℕ → Notice
due_notice q event v = record { address = q; event = event; value = v; misses = 0 }

-- a session at the address has the field in the view, and stores another value there
abbrev pub alters : Sets → Address → ℕ → List ℕ → Session → Bool
alters r q k v s = lives_at q s && (in_view r s k && not (bytes_eq (value s k) v))

-- events 1 to 8 are changes of the field of that number
abbrev pub is_change : ℕ → Bool
is_change k = nat_le 1 k && nat_le k 8

-- setting the field is an event that the AF wants and may know of
abbrev pub change_due : Sets → List (Option Session) → Address → ℕ → List ℕ → Af → Bool
change_due r ps q k v x = is_change k && (some (alters r q k v) (entries ps) && some (holds q k) (entries x.subs))

abbrev pub logoff : ℕ
logoff = 10

-- the subscription without these events, if any event is left to it
abbrev pub unless_empty : Subscription → Option Subscription
unless_empty s = cond (s.events == 0) None (Some s)

abbrev pub without_events : ℕ → Subscription → Subscription
without_events events s = record { address = s.address; events = minus s.events events; end = s.end }

abbrev pub lessened : Address → ℕ → Subscription → Option Subscription
lessened q events s = cond (at_place q s) (unless_empty (without_events events s)) (Some s)

-- all subscriptions to the address end
abbrev pub ended : Address → Subscription → Option Subscription
ended q s = cond (at_place q s) None (Some s)

-- a subscription at or past its end ends
abbrev pub unless_lapsed : ℕ → Subscription → Option Subscription
unless_lapsed now s = cond (lapsed now s) None (Some s)

-- a subscription to the address gets other events and another end
abbrev pub renewed : Address → ℕ → Option ℕ → Subscription → Option Subscription
renewed q events end s = cond (at_place q s) (Some (record { address = q; events = events; end = end })) (Some s)

-- the subscriptions once the AF asked so of the address
abbrev pub subs_after : Asked → Address → List (Option Subscription) → List (Option Subscription)
subs_after (UserData named) q subs = subs
subs_after (Subscribe events end) q subs =
    cond (some (at_place q) (entries subs)) (altered (renewed q events end) subs) (placed (record { address = q; events = events; end = end }) subs)
subs_after (Unsubscribe events) q subs = altered (lessened q events) subs

-- the AF as it gave its host and realm
abbrev pub recorded : Asking → List (Option Subscription) → Af → Af
recorded q subs x =
    record { subs = subs; line = x.line; out = x.out; serial = x.serial; host = q.host; realm = q.realm; acknowledged = x.acknowledged; given_up = x.given_up; lost = x.lost }

abbrev pub is_subscription : Asked → Bool
is_subscription (UserData named) = false
is_subscription (Subscribe events end) = true
is_subscription (Unsubscribe events) = true

-- the record once the request is judged
abbrev pub af_asked : List (Option Session) → Result Asking Rejected → Af → Af
af_asked ps (Err e) x = x
af_asked ps (Ok q) x =
    cond (is_subscription q.asked) (recorded q (subs_after q.asked (about (fitting q.subject ps)).address x.subs) x) x

abbrev pub af_left : Address → Af → Af
af_left q x =
    with_subs (altered (ended q) x.subs) (cond (some (holds q logoff) (entries x.subs)) (notified (due_notice q logoff []) x) x)

-- the oldest notice is out
abbrev pub handed : Af → Af
handed x =
    record {
      subs = x.subs;
      line = x.line;
      out = Some x.serial;
      serial = (x.serial + 1) % 2 ^ 32;
      host = x.host;
      realm = x.realm;
      acknowledged = x.acknowledged;
      given_up = x.given_up;
      lost = x.lost;
    }

-- nothing is out any more, and these are the subscriptions, the line and two counts
abbrev pub back : List (Option Subscription) → List Notice → ℕ → ℕ → Af → Af
back subs line acknowledged given_up x =
    record { subs = subs; line = line; out = None; serial = x.serial; host = x.host; realm = x.realm; acknowledged = acknowledged; given_up = given_up; lost = x.lost }

abbrev pub missed : Notice → Notice
missed n = record { address = n.address; event = n.event; value = n.value; misses = n.misses + 1 }

-- at the third miss a notice is given up
abbrev pub hopeless : Notice → Bool
hopeless n = nat_le 3 (n.misses + 1)

abbrev pub settled : ℕ → List Notice → Af → Af
settled number [] x = back x.subs [] x.acknowledged x.given_up x
settled number (n ∷ later) x =
    cond (number == 0) (back x.subs later (raised x.acknowledged) x.given_up x)
    (cond (hopeless n) (back (altered (lessened n.address (2 ^ n.event)) x.subs) later x.acknowledged (raised x.given_up) x)
    (back x.subs (missed n ∷ later) x.acknowledged x.given_up x))

-- the record x of AF b after a call
abbrev pub af_after : Opening → Sets → ℕ → ℕ → List (Option Session) → Call → Af → Af
af_after o r b now ps (Arrive q name withheld) x = x
af_after o r b now ps (Set q k v) x = cond (accepts (set_refusals q k v ps) && change_due r ps q k v x) (notified (due_notice q k v) x) x
af_after o r b now ps (Leave q) x = cond (accepts (leave_refusals q ps)) (af_left q x) x
af_after o r b now ps (Clock n) x = with_subs (altered (unless_lapsed (max now n)) x.subs) x
af_after o r b now ps (Ask a room m) x = cond (a == b) (af_asked ps (ask_verdict o r b now ps x room m) x) x
af_after o r b now ps (Take a room) x = cond (a == b && accepts (take_refusals o b room x)) (handed x) x
af_after o r b now ps (Settle a serial n) x = cond (a == b && accepts (settle_refusals o b serial x)) (settled n x.line x) x
af_after o r b now ps (Tell a) x = x

-- ---- the whole

-- each record by the number of its AF
abbrev pub each : {A : Type 0} → (ℕ → A → A) → List A → List A
each g [] = []
each g (x ∷ later) = g 0 x ∷ each (λ b. g (suc b)) later

abbrev pub after : Opening → Book → State → Call → State
after o R s c =
    record {
      now = now_after s.now c;
      sessions = sessions_after s.sessions c;
      afs = each (λ b x. af_after o (R b) b s.now s.sessions c x) s.afs;
    }

-- what the notification of a notice says
abbrev pub told_of : Opening → ℕ → Af → Notice → Notification
told_of o a x n =
    record {
      number = a;
      serial = x.serial;
      host = o.host;
      realm = o.realm;
      peer_host = x.host;
      peer_realm = x.realm;
      event = n.event;
      address = n.address;
      name = name_of o a;
      value = n.value;
    }

-- the notification of the oldest notice
abbrev pub oldest_bytes : Opening → ℕ → Af → List Notice → List ℕ
oldest_bytes o a x [] = []
oldest_bytes o a x (n ∷ later) = notification_bytes (told_of o a x n)

abbrev pub taken : Opening → ℕ → ℕ → Af → Reply
taken o a room x =
    let table = take_refusals o a room x in
    cond (accepts table) (Taken a x.serial (oldest_bytes o a x x.line)) (Done (number_of table))

abbrev pub counted : Opening → ℕ → Af → Reply
counted o a x =
    let table = tell_refusals o a in
    cond (accepts table) (Counts x.acknowledged x.given_up x.lost (length x.line)) (Done (number_of table))

-- what a call returns, where x is the record of AF b, which makes it (for the first four calls it does not matter)
abbrev pub reply_to : Opening → Sets → ℕ → ℕ → List (Option Session) → Af → Call → Reply
reply_to o r b now ps x (Arrive q name withheld) = Done (number_of (arrive_refusals q name withheld ps))
reply_to o r b now ps x (Set q k v) = Done (number_of (set_refusals q k v ps))
reply_to o r b now ps x (Leave q) = Done (number_of (leave_refusals q ps))
reply_to o r b now ps x (Clock n) = Done 0
reply_to o r b now ps x (Ask a room m) = answered o r m ps (ask_verdict o r b now ps x room m)
reply_to o r b now ps x (Take a room) = taken o b room x
reply_to o r b now ps x (Settle a serial n) = Done (number_of (settle_refusals o b serial x))
reply_to o r b now ps x (Tell a) = counted o b x

-- the AF that makes the call (0 where none does)
abbrev pub caller : Call → ℕ
caller (Arrive q name withheld) = 0
caller (Set q k v) = 0
caller (Leave q) = 0
caller (Clock n) = 0
caller (Ask a room m) = a
caller (Take a room) = a
caller (Settle a serial n) = a
caller (Tell a) = a

abbrev pub reply : Opening → Book → State → Call → Reply
reply o R s c = let b = caller c in reply_to o (R b) b s.now s.sessions (slice_index_or s.afs b new_af) c
