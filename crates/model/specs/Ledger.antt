-- The ledger of one AF: a plain account that anyone could keep who knows the AF's two sets and reads, call by call, the arguments and whether the
-- call was refused. No state, no place and no reply enters it.
--     Ledger                what it holds; its numbers have no limit
--     blank                 the ledger at opening
--     through g xs          the entries once each became what g makes of it, which may be nothing
--     due_event             an event falls due: it is counted, and joins a line below 16 or is lost
--     entered r a l c out   the ledger of AF a with the sets r after the call c, which was refused or not
--     ledger r a cs         the ledger after these calls
--     struck r a l c rest   the call c is none of a's business: left out, a is to notice nothing (`rest` is what comes after c; it does not count today)
--     left r a cs           the calls once those struck for a are left out
--     is_own, own           a call is one of a's; the replies to these, in turn
use Rattle.std.specs.Prelude.{ℕ, ◌+◌, ◌^◌, max, Bool, false, cond, not, ◌&&◌, List, [], ◌∷◌, ◌++◌, length, Some, None, Option, ◌==◌, nat_le, nat_lt}
use Rattle.std.specs.Str.{bytes_eq}
use Rattle.diameter.specs.Headers.{body}
use Rattle.diameter.specs.Lists.{avps}
use Rattle.dictionary.specs.Addresses.{Address}
use Rattle.e2.specs.Checks.{command_of}
use Rattle.fieldset.specs.Sets.{minus}
use Rattle.request.specs.Askings.{Subject, at_address, of_user, Asking}
use Rattle.request.specs.Readings.{asking}
use Rattle.request.specs.Askings.{Asked, UserData, Subscribe, Unsubscribe}
use Rattle.model.specs.Values.{Sets, Session, Subscription, Notice, Call, Arrive, Set, Leave, Clock, Ask, Take, Settle, Tell, Reply, Line, value, lives_at, is_named, in_view, fresh, with_value, at_place, holds, lapsed, some}

pub record Ledger : Type 0 where
  pub now : ℕ
  -- in the order of arrival
  pub sessions : List Session
  -- what the AF is subscribed to
  pub subs : List Subscription
  -- the notices that wait, the oldest first
  pub line : List Notice
  pub acknowledged : ℕ
  pub given_up : ℕ
  pub lost : ℕ
  -- events that ever fell due
  pub due : ℕ

abbrev pub blank : Ledger
blank = record { now = 0; sessions = []; subs = []; line = []; acknowledged = 0; given_up = 0; lost = 0; due = 0 }

abbrev pub kept_if : {E : Type 0} → Option E → List E → List E
kept_if None later = later
kept_if (Some e) later = e ∷ later

abbrev pub through : {E : Type 0} → (E → Option E) → List E → List E
through g [] = []
through g (e ∷ later) = kept_if (g e) (through g later)

abbrev pub with_sessions : List Session → Ledger → Ledger
with_sessions ss l =
    record { now = l.now; sessions = ss; subs = l.subs; line = l.line; acknowledged = l.acknowledged; given_up = l.given_up; lost = l.lost; due = l.due }

abbrev pub with_subs : List Subscription → Ledger → Ledger
with_subs ss l =
    record { now = l.now; sessions = l.sessions; subs = ss; line = l.line; acknowledged = l.acknowledged; given_up = l.given_up; lost = l.lost; due = l.due }

abbrev pub due_event : Address → ℕ → List ℕ → Ledger → Ledger
due_event q event v l =
    let fits = nat_lt (length l.line) 16 in
    record {
      now = l.now;
      sessions = l.sessions;
      subs = l.subs;
      line = cond fits (l.line ++ (record { address = q; event = event; value = v; misses = 0 } ∷ [])) l.line;
      acknowledged = l.acknowledged;
      given_up = l.given_up;
      lost = cond fits l.lost (l.lost + 1);
      due = l.due + 1;
    }

-- a session at the address shows the field to the AF and stores another value there
abbrev pub is_altered : Sets → Address → ℕ → List ℕ → Session → Bool
is_altered r q k v s = lives_at q s && (in_view r s k && not (bytes_eq (value s k) v))

-- a change of the field, which is event k, falls due
abbrev pub change_falls_due : Sets → Ledger → Address → ℕ → List ℕ → Bool
change_falls_due r l q k v = (nat_le 1 k && nat_le k 8) && (some (is_altered r q k v) l.sessions && some (holds q k) l.subs)

abbrev pub set_in : Address → ℕ → List ℕ → Session → Option Session
set_in q k v s = cond (lives_at q s) (Some (with_value k v s)) (Some s)

abbrev pub on_set : Sets → Address → ℕ → List ℕ → Ledger → Ledger
on_set r q k v l =
    with_sessions (through (set_in q k v) l.sessions) (cond (change_falls_due r l q k v) (due_event q k v l) l)

abbrev pub not_at : Address → Session → Option Session
not_at q s = cond (lives_at q s) None (Some s)

abbrev pub not_of : Address → Subscription → Option Subscription
not_of q s = cond (at_place q s) None (Some s)

-- event 10, then no session and no subscription at the address
abbrev pub on_leave : Address → Ledger → Ledger
on_leave q l =
    with_sessions (through (not_at q) l.sessions)
    (with_subs (through (not_of q) l.subs) (cond (some (holds q 10) l.subs) (due_event q 10 [] l) l))

abbrev pub not_over : ℕ → Subscription → Option Subscription
not_over now s = cond (lapsed now s) None (Some s)

abbrev pub on_clock : ℕ → Ledger → Ledger
on_clock n l =
    record {
      now = max l.now n;
      sessions = l.sessions;
      subs = through (not_over (max l.now n)) l.subs;
      line = l.line;
      acknowledged = l.acknowledged;
      given_up = l.given_up;
      lost = l.lost;
      due = l.due;
    }

-- the address of the first session that has the name
abbrev pub address_named : List ℕ → List Session → Address
address_named name [] = record { ip = []; realm = [] }
address_named name (s ∷ later) = cond (is_named name s) s.address (address_named name later)

-- where an accepted request is about
abbrev pub address_meant : Subject → List Session → Address
address_meant (at_address q) ss = q
address_meant (of_user name) ss = address_named name ss

abbrev pub replaced : Address → ℕ → Option ℕ → Subscription → Option Subscription
replaced q events end s = cond (at_place q s) (Some (record { address = q; events = events; end = end })) (Some s)

-- a subscription to the address loses events, and ends where none is left
abbrev pub loses : Address → ℕ → Subscription → Option Subscription
loses q events s =
    cond (at_place q s)
    (cond (minus s.events events == 0) None (Some (record { address = s.address; events = minus s.events events; end = s.end })))
    (Some s)

-- the subscriptions once this was asked of the address
abbrev pub subs_asked : Asked → Address → List Subscription → List Subscription
subs_asked (UserData named) q ss = ss
subs_asked (Subscribe events end) q ss =
    cond (some (at_place q) ss) (through (replaced q events end) ss) (record { address = q; events = events; end = end } ∷ ss)
subs_asked (Unsubscribe events) q ss = through (loses q events) ss

-- an accepted request, read from its bytes
abbrev pub on_ask : List ℕ → Ledger → Ledger
on_ask m l =
    let q : Asking = asking (command_of m) (avps (body m)) in
    with_subs (subs_asked q.asked (address_meant q.subject l.sessions) l.subs) l

-- the first notice leaves, or gains a miss
abbrev pub with_settled : List Subscription → List Notice → ℕ → ℕ → Ledger → Ledger
with_settled ss line acknowledged given_up l =
    record { now = l.now; sessions = l.sessions; subs = ss; line = line; acknowledged = acknowledged; given_up = given_up; lost = l.lost; due = l.due }

abbrev pub on_settle : ℕ → List Notice → Ledger → Ledger
on_settle number [] l = l
on_settle number (n ∷ later) l =
    cond (number == 0) (with_settled l.subs later (l.acknowledged + 1) l.given_up l)
    (cond (nat_le 3 (n.misses + 1)) (with_settled (through (loses n.address (2 ^ n.event)) l.subs) later l.acknowledged (l.given_up + 1) l)
    (with_settled l.subs (record { address = n.address; event = n.event; value = n.value; misses = n.misses + 1 } ∷ later) l.acknowledged l.given_up l))

-- refused calls and those of other AFs leave it as it is
abbrev pub entered : Sets → ℕ → Ledger → Call → Bool → Ledger
entered r a l (Arrive q name withheld) out = cond out l (with_sessions (l.sessions ++ (fresh q name withheld ∷ [])) l)
entered r a l (Set q k v) out = cond out l (on_set r q k v l)
entered r a l (Leave q) out = cond out l (on_leave q l)
entered r a l (Clock n) out = cond out l (on_clock n l)
entered r a l (Ask b room m) out = cond (b == a && not out) (on_ask m l) l
entered r a l (Take b room) out = l
entered r a l (Settle b serial n) out = cond (b == a && not out) (on_settle n l.line l) l
entered r a l (Tell b) out = l

abbrev pub ledger_from : Sets → ℕ → Ledger → List (Call × Bool) → Ledger
ledger_from r a l [] = l
ledger_from r a l ((c, out) ∷ later) = ledger_from r a (entered r a l c out) later

abbrev pub ledger : Sets → ℕ → List (Call × Bool) → Ledger
ledger r a cs = ledger_from r a blank cs

-- ---- what is struck

-- the ledger has a session at the address with the field in the view
abbrev pub shows : Sets → Address → ℕ → Session → Bool
shows r q k s = lives_at q s && in_view r s k

abbrev pub struck : Sets → ℕ → Ledger → Call → List (Call × Bool) → Bool
struck r a l (Arrive q name withheld) rest = false
struck r a l (Set q k v) rest = not (some (shows r q k) l.sessions)
struck r a l (Leave q) rest = false
struck r a l (Clock n) rest = false
struck r a l (Ask b room m) rest = not (b == a)
struck r a l (Take b room) rest = not (b == a)
struck r a l (Settle b serial n) rest = not (b == a)
struck r a l (Tell b) rest = not (b == a)

abbrev pub left_from : Sets → ℕ → Ledger → List (Call × Bool) → List Call
left_from r a l [] = []
left_from r a l ((c, out) ∷ later) =
    let rest = left_from r a (entered r a l c out) later in
    cond (struck r a l c later) rest (c ∷ rest)

abbrev pub left : Sets → ℕ → List (Call × Bool) → List Call
left r a cs = left_from r a blank cs

abbrev pub is_own : ℕ → Call → Bool
is_own a (Arrive q name withheld) = false
is_own a (Set q k v) = false
is_own a (Leave q) = false
is_own a (Clock n) = false
is_own a (Ask b room m) = b == a
is_own a (Take b room) = b == a
is_own a (Settle b serial n) = b == a
is_own a (Tell b) = b == a

abbrev pub own : ℕ → List Line → List Reply
own a [] = []
own a (l ∷ later) = cond (is_own a l.call) (l.said ∷ own a later) (own a later)
