use Rattle.std.proofs.Common.{◌≡◌, ℕ, ◌+◌, ◌++◌, length, sym, ap, ◌∙◌, arith}
use Rattle.writer.specs.Avps.{avp}
use Rattle.writer.specs.Headers.{message_header, header_bytes}
use Rattle.message.specs.Messages.{application_avp, sender_avps}
use Rattle.notification.specs.Notifications.{Notification, session_of, field_avp, peer_avps, event_avps, notification_body, notification_bytes}
use Rattle.notification.specs.Notices.{notification_of}
use Rattle.notification.proofs.Lengths.{length_whole}
use Rattle.notification.proofs.write.write_notification.Goals as goal

pub returns : goal.returns
unfolding notification_bytes
returns c =
    let n : Notification = notification_of c.args.origin c.args.to c.args.notice c.args.serial in
    let body : _ ≡ notification_body n =
    λ i. avp 263 0x40 0 (session_of n.host n.number n.serial)
    ++ (application_avp
    ++ (sender_avps n.host n.realm
    ++ (peer_avps n.peer_host n.peer_realm
    ++ (event_avps n.event n.address ++ (c.name_avp.ensures i ++ field_avp n.event n.value))))) in
    let size : 20 + c.size.result ≡ 20 + length (notification_body n) = ap (λ (k : ℕ). 20 + k) (c.size.ensures.is ∙ ap length body) in
    record {
      bytes =
          c.write_message.ensures.bytes
          ∙ (λ i. header_bytes (c.notification_header-header.ensures i) ++ body i)
          ∙ ap (λ (k : ℕ). message_header k 0xC0 309 16777231 n.serial n.serial ++ notification_body n) size;
      rest = c.write_message.ensures.rest;
      size = c.write_message.ensures.size ∙ ap (λ (k : ℕ). 20 + k) (ap length body) ∙ sym (length_whole n);
      within = omega (arith, c.size.ensures.is, c.size.ensures.within, c.write_message.ensures.size);
    }
