use Rattle.std.proofs.Common.{sym, ap, ◌∙◌}
use Rattle.table.specs.Steps.{filled}
use Rattle.table.specs.Tables.{content, contents}
use Rattle.table.proofs.Places.{none_held, none_under}
use Rattle.table.proofs.Maps.{placed_updated, filled_contents}
use Rattle.table.proofs.step.insert.Goals as goal

pub returns-clause-law : goal.returns-clause-law
returns-clause-law g c =
    let m = g.P.Place in
    let ps = c.args.places.now in
    let p = c.args.place in
    let f = rw c.in_ok-i.ensures.ok_part at c.free_place.ensures in
    let none = none_under m.taken m.key m.entry ps (m.key p) (m.spelt c.own_key.result.now) c.find.result c.is_some.result c.find.ensures.known c.is_some.ensures c.if-is_some.false c.own_key.ensures in
    placed_updated m.taken m.key m.entry p ps c.in_ok-i.i f.within f.free (none_held m.taken m.key m.entry ps (m.key p) (sym none))

pub returns-clause-places : goal.returns-clause-places
returns-clause-places g c =
    let m = g.P.Place in
    let ps = c.args.places.now in
    let p = c.args.place in
    let chosen = sym c.in_ok-i.ensures.ok_part ∙ c.free_place.ensures.is in
    filled_contents m.taken m.entry p ps c.in_ok-i.i ∙ ap (λ o. filled o (content m.taken m.entry p) (contents m.taken m.entry ps)) chosen
