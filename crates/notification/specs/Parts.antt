-- A notification as the list of its AVPs.
--     told_parts e xs        the AVP of the field that is told, where there is one
--     address_part a         the Globally-Unique-Address
--     notification_parts n   all AVPs, in their order
use Rattle.std.specs.Prelude.{ℕ, cond, List, [], ◌∷◌}
use Rattle.dictionary.specs.Addresses.{Address}
use Rattle.writer.specs.Bytes.{bytes32}
use Rattle.writer.specs.Parts.{Part}
use Rattle.message.specs.Fields.{field_part}
use Rattle.message.specs.Parts.{one, application_part}
use Rattle.notification.specs.Notifications.{Notification, session_of, event_number, address_data, tells_field}

abbrev pub told_parts : ℕ → List ℕ → List Part
told_parts e xs = cond (tells_field e xs) (field_part e xs ∷ []) []

abbrev pub event_part : ℕ → Part
event_part e = record { code = 354; flags = 0x80; vendor = 13019; payload = bytes32 (event_number e) }

abbrev pub address_part : Address → Part
address_part a = record { code = 300; flags = 0xC0; vendor = 13019; payload = address_data a }

abbrev pub name_part : List ℕ → Part
name_part xs = record { code = 504; flags = 0xC0; vendor = 10415; payload = xs }

abbrev pub notification_parts : Notification → List Part
notification_parts n =
    one 263 (session_of n.host n.number n.serial)
    ∷ application_part
    ∷ one 277 (bytes32 1)
    ∷ one 264 n.host
    ∷ one 296 n.realm
    ∷ one 293 n.peer_host
    ∷ one 283 n.peer_realm
    ∷ event_part n.event
    ∷ address_part n.address
    ∷ name_part n.name
    ∷ told_parts n.event n.value
