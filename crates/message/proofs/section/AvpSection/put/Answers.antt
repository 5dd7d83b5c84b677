use Rattle.std.proofs.Common.{ap}
use Rattle.writer.specs.declared.avp.AvpHead.{AvpHead}
use Rattle.writer.specs.Bytes.{zeros}
use Rattle.writer.specs.Avps.{avp_header}
use Rattle.writer.proofs.Avps.{sized_avp}
use Rattle.writer.proofs.Stores.{◌⊕◌, appends_as}
use Rattle.message.proofs.section.AvpSection.put.Goals as goal

pub returns : goal.returns
returns g c =
    let head : AvpHead = g.K.AvpKind.head c.args.self.now.kind in
    appends_as (sized_avp head.code head.flags head.vendor _ (g.D.Section.bytes c.args.self.now.data) c.size-size.ensures.is)
    (appends_as (ap (λ (q : AvpHead). avp_header q.code q.flags q.vendor c.size-size.result) c.head.ensures) c.avp_header.ensures.wrote
    ⊕ c.put.ensures
    ⊕ appends_as (ap zeros c.padding.ensures) c.zeros.ensures.wrote)
