-- The values that the repository works with: what is stored, what a call brings, and what it returns.
--     Sets                 the two sets of an application function (AF): the fields that it may see, and those that it sees even where they are withheld
--     Book                 what a rule book means: the sets of each AF, by its number
--     Session              a line that is in use: its address, what its household withholds, and the ten fields by number; field 0 is the user name,
--                          and an empty field is absent
--     Subscription         what an AF wants to be told of an address, as a set of events, and until when
--     Notice               an event that fell due: where, which, the value that it is about, and how often it was not delivered
--     Opening              what a repository is opened with: the names of the AFs by number, our own host and realm, and the number of session places
--     Call, Reply          one of the eight calls with its arguments, and what it returns and writes
--     Line                 a call with its reply: one line of a transcript
--     refused, outcome     whether a reply refuses; a line without all else that the reply says
--     same_address, lives_at, is_named, fits   tests: two addresses are the same; a session lives at the address, has the user name, is the one asked for
--     value s k            the value of field k
--     in_view r s k        field k is in the view of an AF with the sets r on the session s
--     fresh, with_value    a session without values; a session with another value of one field
--     at_place, holds      a subscription is one to the address; it is one to the address and holds the event
--     lapsed now s         the subscription has come to its end
--     some p xs            some entry passes the test
--     entries ps           the entries of a list of places, in the order of the places
use Rattle.std.specs.Prelude.{ℕ, Bool, false, not, ◌&&◌, ◌||◌, List, [], ◌∷◌, Some, None, Option, ◌==◌, nat_le, slice_index_or, slice_set}
use Rattle.std.specs.Str.{bytes_eq}
use Rattle.dictionary.specs.Addresses.{Address}
use Rattle.fieldset.specs.Sets.{has}
use Rattle.request.specs.Askings.{Subject, at_address, of_user}
use Rattle.rulebook.specs.Views.{view}

-- as numbers of bits
pub record Sets : Type 0 where
  pub allowed : ℕ
  pub overriding : ℕ

abbrev pub Book : Type 0
Book = ℕ → Sets

pub record Session : Type 0 where
  pub address : Address
  pub withheld : ℕ
  pub fields : List (List ℕ)

pub record Subscription : Type 0 where
  pub address : Address
  pub events : ℕ
  pub end : Option ℕ

pub record Notice : Type 0 where
  pub address : Address
  pub event : ℕ
  pub value : List ℕ
  pub misses : ℕ

pub record Opening : Type 0 where
  pub names : List (List ℕ)
  pub host : List ℕ
  pub realm : List ℕ
  pub places : ℕ

-- Any numbers and any bytes may stand in a call: they are judged by the call, and nowhere before.
pub data Call : Type 0 where
  -- a line comes into use, with a user name and the fields that its household withholds
  Arrive : Address → List ℕ → ℕ → Call
  -- a field of the line gets a value
  Set : Address → ℕ → List ℕ → Call
  -- the line is no longer in use
  Leave : Address → Call
  -- the clock is read
  Clock : ℕ → Call
  -- an AF sends a request; the number between is the length of the buffer for the answer
  Ask : ℕ → ℕ → List ℕ → Call
  -- the oldest notice of an AF is written into a buffer of this length
  Take : ℕ → ℕ → Call
  -- a slip, which bears an AF number and a serial, is given back with a number: 0 where the notice was acknowledged
  Settle : ℕ → ℕ → ℕ → Call
  -- the counts of an AF
  Tell : ℕ → Call

-- A number is 0 or that of the refusal. The length that a call returns is that of the bytes.
pub data Reply : Type 0 where
  Done : ℕ → Reply
  -- the number, how many fields are shown, and the bytes of the answer
  Answered : ℕ → ℕ → List ℕ → Reply
  -- the slip (AF number and serial) and the bytes of the notification
  Taken : ℕ → ℕ → List ℕ → Reply
  -- acknowledged, given up, lost, waiting
  Counts : ℕ → ℕ → ℕ → ℕ → Reply

abbrev pub refused : Reply → Bool
refused (Done n) = not (n == 0)
refused (Answered n shown bytes) = not (n == 0)
refused (Taken af serial bytes) = false
refused (Counts acknowledged given_up lost waiting) = false

pub record Line : Type 0 where
  pub call : Call
  pub said : Reply

abbrev pub outcome : Line → Call × Bool
outcome l = (l.call, refused l.said)

-- ---- addresses and sessions

abbrev pub same_address : Address → Address → Bool
same_address p q = bytes_eq p.ip q.ip && bytes_eq p.realm q.realm

abbrev pub value : Session → ℕ → List ℕ
value s k = slice_index_or s.fields k []

abbrev pub lives_at : Address → Session → Bool
lives_at q s = same_address s.address q

abbrev pub is_named : List ℕ → Session → Bool
is_named name s = bytes_eq (value s 0) name

abbrev pub fits : Subject → Session → Bool
fits (at_address q) s = lives_at q s
fits (of_user name) s = is_named name s

abbrev pub in_view : Sets → Session → ℕ → Bool
in_view r s k = has (view r.allowed r.overriding s.withheld) k

abbrev pub fresh : Address → List ℕ → ℕ → Session
fresh q name withheld =
    record { address = q; withheld = withheld; fields = name ∷ [] ∷ [] ∷ [] ∷ [] ∷ [] ∷ [] ∷ [] ∷ [] ∷ [] ∷ [] }

abbrev pub with_value : ℕ → List ℕ → Session → Session
with_value k v s = record { address = s.address; withheld = s.withheld; fields = slice_set s.fields k v }

-- ---- subscriptions

abbrev pub at_place : Address → Subscription → Bool
at_place q s = same_address s.address q

abbrev pub holds : Address → ℕ → Subscription → Bool
holds q event s = at_place q s && has s.events event

abbrev pub at_or_before : Option ℕ → ℕ → Bool
at_or_before None now = false
at_or_before (Some end) now = nat_le end now

abbrev pub lapsed : ℕ → Subscription → Bool
lapsed now s = at_or_before s.end now

-- ---- lists and places

abbrev pub some : {E : Type 0} → (E → Bool) → List E → Bool
some p [] = false
some p (e ∷ later) = p e || some p later

abbrev pub entries : {E : Type 0} → List (Option E) → List E
entries [] = []
entries (None ∷ later) = entries later
entries (Some e ∷ later) = e ∷ entries later
