use Rattle.std.proofs.Common.{◌≡◌, ◌∙◌, rules}
use Rattle.diameter.specs.Lists.{avps}
use Rattle.request.specs.Faults.{missing, missing_by}
use Rattle.request.specs.Scans.{Scans}
use Rattle.request.proofs.body.Body.check.Goals as goal

pub returns-in_err-refuse_without : goal.returns-in_err-refuse_without
returns-in_err-refuse_without c =
    let l = avps c.args.self.bytes.now in
    let s : Scans c.deadline.result l c.in_ok-scan.scan = search rules in
    let m : c.missing.result ≡ missing c.args.command l =
    c.missing.ensures ∙ (λ i. missing_by c.args.command (c.is_headed.ensures i) (λ k. s.seen k i)) in
    search (rules, m)
