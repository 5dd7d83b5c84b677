use Rattle.std.proofs.Common.{ap, ◌∙◌}
use Rattle.diameter.specs.Lists.{avps}
use Rattle.request.specs.Faults.{first}
use Rattle.request.proofs.Taken.{first_taken}
use Rattle.request.proofs.body.Body.first.Goals as goal

pub returns : goal.returns
returns c = first_taken c.next.result _ _ c.next.ensures.steps ∙ ap (λ xs. first (avps xs)) c.avps.ensures
