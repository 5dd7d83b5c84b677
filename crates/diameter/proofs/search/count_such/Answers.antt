use Rattle.std.proofs.Common.{◌∙◌, rules}
use borrow.Author.Tests.{tests}
use Rattle.std.proofs.lemmas.Iterator.Consumers.{YieldsList-at, YieldsList-from_filter, count_from_yields_List}
use Rattle.std.proofs.lemmas.List.Sums.{length-filter}
use Rattle.diameter.specs.Lists.{avps}
use Rattle.diameter.proofs.Yielded.{avps_yielded}
use Rattle.diameter.proofs.search.count_such.Goals as goal

pub returns : goal.returns
returns g c =
    let p = g.P.AvpTest.holds c.args.test.now in
    count_from_yields_List c.filter.result c.count.result c.count.ensures.ran
    (YieldsList-from_filter _ p
    (YieldsList-at c.filter.ensures.source (avps_yielded c.new.result c.args.bytes.now c.new.ensures))
    c.filter.ensures.closure
    (λ x b q k. search (rules, tests)))
    ∙ length-filter p (avps c.args.bytes.now)
