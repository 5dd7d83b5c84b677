use Rattle.std.proofs.Common.{ℕ, List, ap}
use Rattle.writer.proofs.Stores.{◌⊕◌, appends_as}
use Rattle.notification.specs.Notifications.{session_of}
use Rattle.notification.proofs.part.SessionTextSection.put.Goals as goal

pub returns : goal.returns
returns c =
    appends_as (ap (λ (q : List ℕ). session_of q c.args.self.now.number c.args.self.now.serial) c.host.ensures.is)
    (c.bytes.ensures ⊕ c.byte.ensures ⊕ c.decimal.ensures.wrote ⊕ c.byte-2.ensures ⊕ c.decimal-2.ensures.wrote)
