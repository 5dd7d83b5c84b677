use Rattle.std.proofs.Common.{rules, Bool, not, is_some, ap, ◌∙◌}
use Rattle.std.proofs.lemmas.Iterator.{YieldsList-from_slice}
use Rattle.std.proofs.lemmas.Iterator.Adapters.{position_from-zero}
use Rattle.std.proofs.lemmas.Iterator.Search.{position_from_yields_List}
use Rattle.table.specs.Choices.{choice}
use Rattle.table.proofs.Places.{some_placed}
use Rattle.table.proofs.search.free_place.Goals as goal

pub returns : goal.returns
unfolding choice
returns g c =
    let ps = c.args.places.now in
    let free : g.row.P.Denot → Bool = λ p. not (g.P.Place.taken p) in
    let first = position_from_yields_List free _ _ c.position.result c.position.ensures.ran (YieldsList-from_slice ps c.iter.ensures.rest) (λ x b q k. search rules) in
    let is = first ∙ position_from-zero free ps in
    record {
      is = is;
      known = ap is_some is ∙ some_placed free 0 ps;
      within = search rules;
      free = search rules;
    }
