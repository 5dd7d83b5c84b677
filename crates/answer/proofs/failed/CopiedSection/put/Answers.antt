use Rattle.std.proofs.Common.{◌≡◌, ℕ, ◌-◌, take, ap, ◌∙◌, arith}
use Rattle.diameter.specs.Lists.{Avp}
use Rattle.diameter.specs.Views.{avp_of}
use Rattle.writer.specs.Bytes.{zeros}
use Rattle.writer.specs.Avps.{padding}
use Rattle.writer.proofs.Stores.{◌⊕◌, appends_as}
use Rattle.answer.specs.Faults.{kept}
use Rattle.answer.proofs.failed.CopiedSection.put.Goals as goal

pub returns : goal.returns
returns c =
    let a : Avp = avp_of c.args.self.now.avp in
    let cut : c.kept-kept.result - 0 ≡ kept a = omega (arith, c.kept-kept.ensures) in
    appends_as (ap (λ (k : ℕ). take k a.octets) cut) c.bytes.ensures
    ⊕ appends_as (ap zeros (c.padding.ensures ∙ ap padding c.kept-kept.ensures)) c.zeros.ensures.wrote
