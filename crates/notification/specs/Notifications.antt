-- A notification (Push-Notification-Request), and its bytes.
--     Notification          what it says: the number of the application function and the serial, our host and realm, the recorded host and
--                           realm of the application function, the event, the address of the line, the name of the application
--                           function, and the value that the event is about
--     session_of            the Session-Id: our host, the number and the serial in decimal digits, with semicolons between
--     event_number e        the number that stands for the event e in an Event-Type
--     address_data a        the data of a Globally-Unique-Address: the IP address, then the realm
--     tells_field e xs      the event e is a change of a field, and its value xs is not empty
--     field_avp e xs        the AVP of that field, where it is told
--     notification_body, notification_bytes   all AVPs, and the whole message
--     body_size             how long the AVPs are
use Rattle.std.specs.Prelude.{ℕ, ◌+◌, Bool, cond, not, ◌&&◌, List, [], ◌∷◌, ◌++◌, length, decimal, ◌==◌, nat_le}
use Rattle.dictionary.specs.Addresses.{Address}
use Rattle.writer.specs.Bytes.{bytes32}
use Rattle.writer.specs.Avps.{avp_size, avp}
use Rattle.writer.specs.Headers.{message_header}
use Rattle.writer.specs.Parts.{part_bytes}
use Rattle.message.specs.Fields.{field_part, field_size}
use Rattle.message.specs.Messages.{application_avp, sender_avps, sender_size}

pub record Notification : Type 0 where
  pub number : ℕ
  pub serial : ℕ
  pub host : List ℕ
  pub realm : List ℕ
  pub peer_host : List ℕ
  pub peer_realm : List ℕ
  pub event : ℕ
  pub address : Address
  pub name : List ℕ
  pub value : List ℕ

abbrev pub session_of : List ℕ → ℕ → ℕ → List ℕ
session_of host number serial = host ++ (0x3B ∷ (decimal number ++ (0x3B ∷ decimal serial)))

abbrev pub event_number : ℕ → ℕ
event_number e = e

abbrev pub address_data : Address → List ℕ
address_data a = avp 8 0x40 0 a.ip ++ avp 301 0xC0 13019 a.realm

abbrev pub address_size : Address → ℕ
address_size a = avp_size 0x40 (length a.ip) + avp_size 0xC0 (length a.realm)

-- events 1 to 8 are changes of the field of that number
abbrev pub tells_field : ℕ → List ℕ → Bool
tells_field e xs = nat_le 1 e && (nat_le e 8 && not (length xs == 0))

abbrev pub field_avp : ℕ → List ℕ → List ℕ
field_avp e xs = cond (tells_field e xs) (part_bytes (field_part e xs)) []

abbrev pub field_avp_size : ℕ → List ℕ → ℕ
field_avp_size e xs = cond (tells_field e xs) (field_size e (length xs)) 0

-- whom it is for
abbrev pub peer_avps : List ℕ → List ℕ → List ℕ
peer_avps host realm = avp 293 0x40 0 host ++ avp 283 0x40 0 realm

abbrev pub peer_size : List ℕ → List ℕ → ℕ
peer_size host realm = avp_size 0x40 (length host) + avp_size 0x40 (length realm)

-- what happened, and where
abbrev pub event_avps : ℕ → Address → List ℕ
event_avps e a = avp 354 0x80 13019 (bytes32 (event_number e)) ++ avp 300 0xC0 13019 (address_data a)

abbrev pub event_size : Address → ℕ
event_size a = 16 + (12 + address_size a)

abbrev pub notification_body : Notification → List ℕ
notification_body n =
    avp 263 0x40 0 (session_of n.host n.number n.serial)
    ++ (application_avp
    ++ (sender_avps n.host n.realm
    ++ (peer_avps n.peer_host n.peer_realm
    ++ (event_avps n.event n.address ++ (avp 504 0xC0 10415 n.name ++ field_avp n.event n.value)))))

abbrev pub body_size : Notification → ℕ
body_size n =
    avp_size 0x40 (length (session_of n.host n.number n.serial))
    + (32
    + (sender_size n.host n.realm
    + (peer_size n.peer_host n.peer_realm + (event_size n.address + (avp_size 0xC0 (length n.name) + field_avp_size n.event n.value)))))

-- the serial stands in both identifiers
unfoldable pub notification_bytes : Notification → List ℕ
notification_bytes n = message_header (20 + length (notification_body n)) 0xC0 309 16777231 n.serial n.serial ++ notification_body n
