-- A notification as its AVPs put end to end: sound, read back, and within the buffer.
use Rattle.std.proofs.Common.{◌≡◌, ℕ, ◌+◌, ◌≤◌, Bool, true, false, cond, ◌&&◌, List, [], ◌∷◌, ◌++◌, map, length, Some, None, sym, refl, ap, ◌∙◌, append_assoc, append-nil, arith}
use Rattle.std.specs.List.{All, AllByRecursion}
use Rattle.std.proofs.lemmas.List.Elements.{All-from_recursion}
use Rattle.std.proofs.lemmas.Bool.Decides.{nat_tests}
use Rattle.diameter.specs.Headers.{body}
use Rattle.diameter.specs.Lists.{Avp, avps, named, only_such}
use Rattle.diameter.specs.Soundness.{sound}
use Rattle.diameter.specs.Laws.{Sound}
use Rattle.diameter.proofs.Decided.{decided}
use Rattle.dictionary.specs.Addresses.{Address, sized, paired}
use Rattle.writer.specs.Bytes.{bytes32}
use Rattle.writer.specs.Avps.{avp}
use Rattle.writer.specs.Parts.{Part, part_bytes, parts_bytes, part_avp, Encodable, SoundPart, plain, nested}
use Rattle.writer.proofs.Written.{parts_sound, parts_read_back, header_read_back}
use Rattle.message.specs.Limits.{value_limit, field_limit}
use Rattle.message.specs.Fields.{field_flags, field_part, field_size}
use Rattle.message.specs.Messages.{application_avp}
use Rattle.message.specs.Parts.{one, application_part}
use Rattle.message.proofs.Parts.{one_fits, field_fits, head_le, cond_le, all_both, application_sound, field_sound}
use Rattle.notification.specs.Limits.{address_limit, place_limit}
use Rattle.notification.specs.Notifications.{Notification, session_of, event_number, address_data, tells_field, field_avp_size, notification_body, notification_bytes}
use Rattle.notification.specs.Parts.{told_parts, notification_parts}
use Rattle.notification.specs.Laws.{Bounded, ValueSound, NotificationsFit, NotificationsSound, NotificationsReadBack, HeaderWorked, AddressesReadBack, EventsReadBack}
use Rattle.notification.proofs.Lengths.{length_decimal, length_session, length_address, length_whole, length_notification}

told_bytes : (b : Bool) (p : Part) → cond b (part_bytes p) [] ≡ parts_bytes (cond b (p ∷ []) [])
told_bytes true p = sym (append-nil (part_bytes p))
told_bytes false p = refl

-- runs of bytes, grouped as the rule says them, and one by one
regroup : (s a t h m p q e d n f : List ℕ)
    → s ++ (a ++ ((t ++ (h ++ m)) ++ ((p ++ q) ++ ((e ++ d) ++ (n ++ f))))) ≡ s ++ (a ++ (t ++ (h ++ (m ++ (p ++ (q ++ (e ++ (d ++ (n ++ f)))))))))
regroup s a t h m p q e d n f = simp append_assoc

body_bytes : (n : Notification) → notification_body n ≡ parts_bytes (notification_parts n)
body_bytes n =
    ap
    (λ (f : List ℕ). avp 263 0x40 0 (session_of n.host n.number n.serial)
    ++ (application_avp
    ++ ((avp 277 0x40 0 (bytes32 1) ++ (avp 264 0x40 0 n.host ++ avp 296 0x40 0 n.realm))
    ++ ((avp 293 0x40 0 n.peer_host ++ avp 283 0x40 0 n.peer_realm)
    ++ ((avp 354 0x80 13019 (bytes32 (event_number n.event)) ++ avp 300 0xC0 13019 (address_data n.address)) ++ (avp 504 0xC0 10415 n.name ++ f))))))
    (told_bytes (tells_field n.event n.value) (field_part n.event n.value))
    ∙ regroup
    (avp 263 0x40 0 (session_of n.host n.number n.serial))
    application_avp
    (avp 277 0x40 0 (bytes32 1))
    (avp 264 0x40 0 n.host)
    (avp 296 0x40 0 n.realm)
    (avp 293 0x40 0 n.peer_host)
    (avp 283 0x40 0 n.peer_realm)
    (avp 354 0x80 13019 (bytes32 (event_number n.event)))
    (avp 300 0xC0 13019 (address_data n.address))
    (avp 504 0xC0 10415 n.name)
    (parts_bytes (told_parts n.event n.value))

body_of : (n : Notification) → body (notification_bytes n) ≡ notification_body n
unfolding notification_bytes
body_of n = refl

session_le : (n : Notification) → Bounded n → length (session_of n.host n.number n.serial) ≤ 86
session_le n b =
    let h = b.host in
    omega (arith, length_session n.host n.number n.serial, length_decimal n.number b.number, length_decimal n.serial b.serial)

-- an event that tells a field is the number of one
told_low : (e : ℕ) (xs : List ℕ) → tells_field e xs ≡ true → (1 ≤ e) × (e ≤ 8)
told_low e xs t = grind (arith, nat_tests)

value_fits : (e : ℕ) (xs : List ℕ) → length xs ≤ value_limit → length xs ≤ field_limit e
value_fits e xs h = grind (arith, nat_tests)

told_all : (P : Part → Type 0) (b : Bool) (p : Part) → (b ≡ true → P p) → AllByRecursion P (cond b (p ∷ []) [])
told_all P true p h = (h refl, tt)
told_all P false p h = tt

parts_fit : (n : Notification) → Bounded n → All Encodable (notification_parts n)
parts_fit n b =
    let l = length_address n.address in
    let i = b.ip in
    let p = b.place in
    let m = b.name in
    All-from_recursion Encodable (notification_parts n) (
      one_fits 263 (session_of n.host n.number n.serial) (omega arith) (omega (arith, session_le n b)),
      (
        one_fits 260 application_part.payload (omega arith) (omega arith),
        (
          one_fits 277 (bytes32 1) (omega arith) (omega arith),
          (
            one_fits 264 n.host (omega arith) (omega (arith, b.host)),
            (
              one_fits 296 n.realm (omega arith) (omega (arith, b.realm)),
              (
                one_fits 293 n.peer_host (omega arith) (omega (arith, b.peer_host)),
                (
                  one_fits 283 n.peer_realm (omega arith) (omega (arith, b.peer_realm)),
                  (
                    record { code_fits = omega arith; vendor_fits = omega arith; size_fits = omega arith },
                    (
                      record { code_fits = omega arith; vendor_fits = omega arith; size_fits = omega arith },
                      (
                        record { code_fits = omega arith; vendor_fits = omega arith; size_fits = omega arith },
                        told_all Encodable (tells_field n.event n.value) (field_part n.event n.value)
                            (λ t. field_fits n.event n.value (value_fits n.event n.value b.value)),
                      ),
                    ),
                  ),
                ),
              ),
            ),
          ),
        ),
      ),
    )

pub notifications_read_back : NotificationsReadBack
notifications_read_back n b = ap avps (body_of n ∙ body_bytes n) ∙ parts_read_back (notification_parts n) (parts_fit n b)

-- the two AVPs of an address
abbrev address_parts : Address → List Part
address_parts a = one 8 a.ip ∷ record { code = 301; flags = 0xC0; vendor = 13019; payload = a.realm } ∷ []

address_bytes : (a : Address) → address_data a ≡ parts_bytes (address_parts a)
address_bytes a = ap (λ (l : List ℕ). avp 8 0x40 0 a.ip ++ l) (sym (append-nil (avp 301 0xC0 13019 a.realm)))

address_parts_fit : (a : Address) → length a.ip ≤ address_limit → length a.realm ≤ place_limit → All Encodable (address_parts a)
address_parts_fit a i p =
    All-from_recursion Encodable (address_parts a)
    (one_fits 8 a.ip (omega arith) (omega arith), (record { code_fits = omega arith; vendor_fits = omega arith; size_fits = omega arith }, tt))

address_sound : (a : Address) → length a.ip ≤ address_limit → length a.realm ≤ place_limit → Sound 3 (address_data a)
address_sound a i p =
    (decided 3 (address_data a)).0
    (ap (sound 3) (address_bytes a)
    ∙ (decided 3 (parts_bytes (address_parts a))).1
    (parts_sound 3 (address_parts a) (all_both Encodable (SoundPart 3) (address_parts a) (address_parts_fit a i p) (All-from_recursion (SoundPart 3) (address_parts a) (plain refl, (plain refl, tt))))))

all_sound : (n : Notification) → Bounded n → ValueSound n → All (SoundPart 4) (notification_parts n)
all_sound n b v = All-from_recursion (SoundPart 4) (notification_parts n) (
  plain refl,
  (
    nested refl application_sound,
    (
      plain refl,
      (
        plain refl,
        (
          plain refl,
          (
            plain refl,
            (
              plain refl,
              (
                plain refl,
                (
                  nested refl (address_sound n.address b.ip b.place),
                  (
                    plain refl,
                    told_all (SoundPart 4) (tells_field n.event n.value) (field_part n.event n.value)
                        (λ t. let l = told_low n.event n.value t in field_sound n.event n.value (omega arith) v),
                  ),
                ),
              ),
            ),
          ),
        ),
      ),
    ),
  ),
)

pub notifications_sound : NotificationsSound
notifications_sound n b v =
    ap (sound 4) (body_of n ∙ body_bytes n)
    ∙ (decided 4 (parts_bytes (notification_parts n))).1
    (parts_sound 4 (notification_parts n) (all_both Encodable (SoundPart 4) (notification_parts n) (parts_fit n b) (all_sound n b v)))

told_le : (e : ℕ) (xs : List ℕ) → length xs ≤ value_limit → field_avp_size e xs ≤ 60
told_le e xs h = cond_le (tells_field e xs) (field_size e (length xs)) 0 60 (omega (arith, head_le (field_flags e))) (omega arith)

pub notifications_fit : NotificationsFit
notifications_fit n b =
    let l = length_notification n in
    let s = session_le n b in
    let h = b.host in
    let r = b.realm in
    let p = b.peer_host in
    let q = b.peer_realm in
    let i = b.ip in
    let d = b.place in
    let m = b.name in
    let t = told_le n.event n.value b.value in
    omega arith

pub header_worked : HeaderWorked
unfolding notification_bytes
header_worked n b =
    (header_read_back (20 + length (notification_body n)) 0xC0 309 16777231 n.serial n.serial (notification_body n)
    (omega (arith, notifications_fit n b, length_whole n)) (omega arith) (omega arith) b.serial b.serial).0
    ∙ (λ i. record {
      version = 1;
      length = sym (length_whole n) i;
      flags = 0xC0;
      command = 309;
      application = 16777231;
      hop_by_hop = n.serial;
      end_to_end = n.serial;
    })

pub addresses_read_back : AddressesReadBack
addresses_read_back a i some p =
    let four : sized 4 4 a.ip ≡ true = grind (arith, nat_tests) in
    let right : sized 1 32 a.realm ≡ true = grind (arith, nat_tests) in
    let all : avps (address_data a) ≡ map part_avp (address_parts a) = ap avps (address_bytes a) ∙ parts_read_back (address_parts a) (address_parts_fit a (omega arith) p) in
    ap (λ (l : List Avp). paired (only_such (named 8 0) l) (only_such (named 301 13019) l)) all
    ∙ (λ j. cond (four j && right j) (Some a) None)

pub events_read_back : EventsReadBack
events_read_back e h = grind (arith, nat_tests)
