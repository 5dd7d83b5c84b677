-- How long a notification is.
use Rattle.std.proofs.Common.{◌≡◌, ℕ, ◌+◌, ◌^◌, ◌<◌, ◌≤◌, Bool, true, false, cond, List, [], ◌∷◌, ◌++◌, length, decimal, refl, ap, ◌∙◌, arith, length-append}
use Rattle.std.proofs.lemmas.Fmt.{length-decimal-le}
use Rattle.dictionary.specs.Addresses.{Address}
use Rattle.writer.specs.Bytes.{bytes32}
use Rattle.writer.specs.Avps.{avp}
use Rattle.writer.specs.Parts.{part_bytes}
use Rattle.writer.proofs.Avps.{length_avp, avp_size_whole}
use Rattle.writer.proofs.Written.{length_message}
use Rattle.message.specs.Fields.{field_code, field_vendor, field_flags, field_part, field_size}
use Rattle.message.specs.Messages.{application_avp, sender_avps}
use Rattle.message.proofs.Parts.{length_sender}
use Rattle.notification.specs.Notifications.{Notification, session_of, address_data, address_size, tells_field, field_avp, field_avp_size, peer_avps, peer_size, event_avps, event_size, notification_body, body_size, notification_bytes}

pub length_decimal : (n : ℕ) → n < 2 ^ 32 → length (decimal n) ≤ 10
length_decimal n f = length-decimal-le 10 n (omega arith) (omega arith) (omega arith)

pub length_session : (host : List ℕ) (number serial : ℕ) → length (session_of host number serial) ≡ length host + 1 + length (decimal number) + 1 + length (decimal serial)
length_session host number serial =
    omega (
      arith,
      length-append host (0x3B ∷ (decimal number ++ (0x3B ∷ decimal serial))),
      length-append (decimal number) (0x3B ∷ decimal serial),
    )

pub length_peer : (host realm : List ℕ) → length (peer_avps host realm) ≡ peer_size host realm
length_peer host realm =
    let h = length_avp 293 0x40 0 host in
    let r = length_avp 283 0x40 0 realm in
    omega (arith, length-append (avp 293 0x40 0 host) (avp 283 0x40 0 realm))

pub length_address : (a : Address) → length (address_data a) ≡ address_size a
length_address a =
    let i = length_avp 8 0x40 0 a.ip in
    let r = length_avp 301 0xC0 13019 a.realm in
    omega (arith, length-append (avp 8 0x40 0 a.ip) (avp 301 0xC0 13019 a.realm))

-- its AVPs fill whole words
pub address_whole : (a : Address) → length (avp 300 0xC0 13019 (address_data a)) ≡ 12 + address_size a
address_whole a =
    let l = length_address a in
    let i = avp_size_whole 0x40 (length a.ip) in
    let r = avp_size_whole 0xC0 (length a.realm) in
    omega (arith, length_avp 300 0xC0 13019 (address_data a))

length_event : (e : ℕ) (a : Address) → length (event_avps e a) ≡ event_size a
length_event e a =
    let l = address_whole a in
    omega (arith, length-append (avp 354 0x80 13019 (bytes32 e)) (avp 300 0xC0 13019 (address_data a)))

length_unless : (b : Bool) (xs : List ℕ) (n : ℕ) → length xs ≡ n → length (cond b xs []) ≡ cond b n 0
length_unless true xs n e = e
length_unless false xs n e = refl

pub length_told : (e : ℕ) (xs : List ℕ) → length (field_avp e xs) ≡ field_avp_size e xs
length_told e xs =
    length_unless (tells_field e xs) (part_bytes (field_part e xs)) (field_size e (length xs)) (length_avp (field_code e) (field_flags e) (field_vendor e) xs)

-- of seven runs of bytes one after the other
seven : (a b c d e f g : List ℕ) → length (a ++ (b ++ (c ++ (d ++ (e ++ (f ++ g)))))) ≡ length a + (length b + (length c + (length d + (length e + (length f + length g)))))
seven a b c d e f g = simp length-append refl

pub length_body : (n : Notification) → length (notification_body n) ≡ body_size n
length_body n =
    seven (avp 263 0x40 0 (session_of n.host n.number n.serial)) application_avp (sender_avps n.host n.realm) (peer_avps n.peer_host n.peer_realm) (event_avps n.event n.address) (avp 504 0xC0 10415 n.name) (field_avp n.event n.value)
    ∙ (λ i.
    length_avp 263 0x40 0 (session_of n.host n.number n.serial) i
    + (32
    + (length_sender n.host n.realm i
    + (length_peer n.peer_host n.peer_realm i
    + (length_event n.event n.address i + (length_avp 504 0xC0 10415 n.name i + length_told n.event n.value i))))))

-- the header has 20 bytes
pub length_whole : (n : Notification) → length (notification_bytes n) ≡ 20 + length (notification_body n)
unfolding notification_bytes
length_whole n = length_message (20 + length (notification_body n)) 0xC0 309 16777231 n.serial n.serial (notification_body n)

pub length_notification : (n : Notification) → length (notification_bytes n) ≡ 20 + body_size n
length_notification n = length_whole n ∙ ap (λ (k : ℕ). 20 + k) (length_body n)
