use Rattle.std.proofs.Common.{[], Some, cond, ◌∙◌, rules}
use borrow.Author.Tests.{tests}
use Rattle.std.proofs.lemmas.Iterator.Search.{find_from_yields_List}
use Rattle.diameter.specs.Lists.{avps, first_such}
use Rattle.diameter.specs.Views.{avp_of}
use Rattle.diameter.proofs.Yielded.{avps_yielded}
use Rattle.request.specs.Faults.{unsupported}
use Rattle.request.proofs.fault.stranger_in.Goals as goal

pub returns-then-passes : goal.returns-then-passes
returns-then-passes c =
    let a = c.args.avp in
    find_from_yields_List unsupported c.find.new.self _ c.find.result c.find.ensures.ran (avps_yielded c.new.result a.payload.now c.new.ensures) (λ x b q k. search (rules, tests))
    ∙ (λ i. cond (c.if-is_unsupported.ensures i) (Some (avp_of a)) (first_such unsupported (cond (c.if-passes.ensures i) (avps a.payload.now) [])))
