use Rattle.std.proofs.Common.{◌≡◌, ◌<◌, true, length, slice_set, ◌∙◌, arith, rules}
use Rattle.dictionary.specs.Names.{index}
use Rattle.request.specs.Scans.{marked}
use Rattle.request.proofs.Taken.{marked_also}
use Rattle.request.proofs.scan.Scan.note.Goals as goal

pub returns-clause-seen : goal.returns-clause-seen
returns-clause-seen c =
    let seen = c.args.self.now.seen in
    let kept : c.if-is_none-2.self.seen ≡ seen = search rules in
    let long : length seen ≡ 18 = search rules in
    let within : index c.args.known < length seen = omega (arith, c.index-place.ensures.is, c.index-place.ensures.within, long) in
    λ k. (λ i. marked (slice_set (kept i) (c.index-place.ensures.is i) true) k) ∙ marked_also seen c.args.known k within
