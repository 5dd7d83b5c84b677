-- What holds of every notification.
--     Bounded n       its parts are as long as they may be, and its numbers fit four bytes
--     ValueSound n   the value, where the event is a change of a field that is a group, is sound where a value stands
use Rattle.std.specs.Prelude.{◌≡◌, ℕ, ◌^◌, ◌<◌, ◌≤◌, true, map, length, Some}
use Rattle.diameter.specs.Headers.{header_of, body}
use Rattle.diameter.specs.Lists.{avps}
use Rattle.diameter.specs.Soundness.{sound}
use Rattle.dictionary.specs.Addresses.{Address, address_in}
use Rattle.dictionary.specs.Numbers.{event_of}
use Rattle.writer.specs.Parts.{part_avp}
use Rattle.message.specs.Limits.{name_limit, value_limit, buffer_least}
use Rattle.message.specs.Laws.{is_group_field}
use Rattle.notification.specs.Limits.{address_limit, place_limit}
use Rattle.notification.specs.Notifications.{Notification, event_number, address_data, notification_bytes}
use Rattle.notification.specs.Parts.{notification_parts}

pub record Bounded (n : Notification) : Type 0 where
  pub number : n.number < 2 ^ 32
  pub serial : n.serial < 2 ^ 32
  pub host : length n.host ≤ name_limit
  pub realm : length n.realm ≤ name_limit
  pub peer_host : length n.peer_host ≤ name_limit
  pub peer_realm : length n.peer_realm ≤ name_limit
  pub ip : length n.address.ip ≤ address_limit
  pub place : length n.address.realm ≤ place_limit
  pub name : length n.name ≤ name_limit
  pub value : length n.value ≤ value_limit

abbrev pub ValueSound : Notification → Type 0
ValueSound n = is_group_field n.event ≡ true → sound 3 n.value ≡ true

-- a notification fits the buffer
abbrev pub NotificationsFit : Type 0
NotificationsFit = (n : Notification) → Bounded n → length (notification_bytes n) ≤ buffer_least

-- its AVPs are sound at four levels
abbrev pub NotificationsSound : Type 0
NotificationsSound = (n : Notification) → Bounded n → ValueSound n → sound 4 (body (notification_bytes n)) ≡ true

-- and are read back as they were written
abbrev pub NotificationsReadBack : Type 0
NotificationsReadBack = (n : Notification) → Bounded n → avps (body (notification_bytes n)) ≡ map part_avp (notification_parts n)

-- its header is that of a Push-Notification-Request, with the serial in both identifiers
abbrev pub HeaderWorked : Type 0
HeaderWorked =
    (n : Notification) → Bounded n
    → header_of (notification_bytes n)
    ≡ record {
      version = 1;
      length = length (notification_bytes n);
      flags = 0xC0;
      command = 309;
      application = 16777231;
      hop_by_hop = n.serial;
      end_to_end = n.serial;
    }

-- an address that is written is read back
abbrev pub AddressesReadBack : Type 0
AddressesReadBack =
    (a : Address) → length a.ip ≡ address_limit → 1 ≤ length a.realm → length a.realm ≤ place_limit → address_in (address_data a) ≡ Some a

-- and so is an event
abbrev pub EventsReadBack : Type 0
EventsReadBack = (e : ℕ) → e ≤ 10 → event_of (event_number e) ≡ Some e
