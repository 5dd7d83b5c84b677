use Rattle.std.proofs.Common.{rules, ◌^◌, ◌<◌, cond, length, sym, ◌∙◌, arith}
use borrow.Author.Tests.{tests}
use Rattle.std.proofs.lemmas.Iterator.{YieldsList-from_slice, YieldsList-from_map}
use Rattle.std.proofs.lemmas.Iterator.Consumers.{YieldsList-at, sum_by_from_yields_List, fits_by_from_yields_list}
use Rattle.std.proofs.lemmas.List.Sums.{count_by-le-length}
use Rattle.table.proofs.Lawful.{number_counts}
use Rattle.table.proofs.search.count.Goals as goal

-- a place adds one where it is taken
pub sum-requires-clause-fits : goal.sum-requires-clause-fits
sum-requires-clause-fits g c =
    let p = g.P.Place.taken in
    let ps = c.args.places.now in
    let few : length ps < 2 ^ 64 = search rules in
    fits_by_from_yields_list _ ps c.map-taken.result _
    (YieldsList-from_map _ (λ x. cond (p x) 1 0) (YieldsList-at c.map-taken.ensures.source (YieldsList-from_slice ps cc)) c.map-taken.ensures.closure (λ x r q k. search (rules, tests)))
    (omega (arith, count_by-le-length p ps, few))

pub returns : goal.returns
returns g c =
    let p = g.P.Place.taken in
    let ps = c.args.places.now in
    sum_by_from_yields_List _ ps c.map-taken.result _ c.sum.ensures.ran
    (YieldsList-from_map _ (λ x. cond (p x) 1 0) (YieldsList-at c.map-taken.ensures.source (YieldsList-from_slice ps cc)) c.map-taken.ensures.closure (λ x r q k. search (rules, tests)))
    ∙ sym (number_counts p ps)
