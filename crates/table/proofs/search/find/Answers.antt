use Rattle.std.proofs.Common.{rules, ◌≡◌, ◌<◌, true, IfSome, length, slice_index_or}
use Rattle.std.proofs.lemmas.Iterator.{YieldsList-from_slice}
use Rattle.std.proofs.lemmas.Iterator.Search.{position_from_yields_List}
use Rattle.table.specs.Tables.{holds}
use Rattle.table.proofs.Places.{known_at}
use Rattle.table.proofs.Maps.{alone_at}
use Rattle.table.proofs.search.find.Goals as goal

pub returns-clause-known : goal.returns-clause-known
returns-clause-known g c =
    let m = g.P.Place in
    let k = m.spelt c.args.sought.now in
    let first = position_from_yields_List (holds m.taken m.key k) _ _ c.position.result c.position.ensures.ran (YieldsList-from_slice c.args.places.now c.iter.ensures.rest) (λ x b q k. search rules) in
    known_at m.taken m.key c.args.places.now k m.entry c.position.result first

pub returns-clause-alone : goal.returns-clause-alone
returns-clause-alone g c =
    let m = g.P.Place in
    let k = m.spelt c.args.sought.now in
    let ps = c.args.places.now in
    let within : IfSome c.position.result (λ i. i < length ps) = search rules in
    let held : IfSome c.position.result (λ i. (d : g.row.P.Denot) → holds m.taken m.key k (slice_index_or ps i d) ≡ true) = search rules in
    alone_at m.taken m.key k ps c.position.result within held
