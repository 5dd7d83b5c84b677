-- What the code's values mean.
--     notification_of   the notification of a notice to an application function, from us
use Rattle.std.specs.Prelude.{ℕ}
use Rattle.dictionary.specs.Addresses.{address_of}
use Rattle.message.specs.declared.origin.Origin.{Origin}
use Rattle.notification.specs.Notifications.{Notification}
use Rattle.notification.specs.declared.notice.Notice.{Notice}
use Rattle.notification.specs.declared.notice.Recipient.{Recipient}

abbrev pub notification_of : Origin → Recipient → Notice → ℕ → Notification
notification_of origin r n serial =
    record {
      number = r.number;
      serial = serial;
      host = origin.host.now;
      realm = origin.realm.now;
      peer_host = r.peer.host.now;
      peer_realm = r.peer.realm.now;
      event = n.event;
      address = address_of n.place.address;
      name = r.name.now;
      value = n.value.now;
    }
