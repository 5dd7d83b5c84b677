use Rattle.std.proofs.Common.{rules}
use borrow.Author.Tests.{tests}
use Rattle.std.proofs.lemmas.Iterator.Search.{find_from_yields_List}
use Rattle.diameter.proofs.Yielded.{avps_yielded}
use Rattle.diameter.proofs.search.first_such.Goals as goal

pub returns : goal.returns
returns g c =
    find_from_yields_List (g.P.AvpTest.holds c.args.test.now) c.find.new.self _ c.find.result c.find.ensures.ran (avps_yielded c.new.result c.args.bytes.now c.new.ensures) (λ x b q k. search (rules, tests))
