use Rattle.table.proofs.Lawful.{number_of_map}
use Rattle.table.proofs.laws.number_is_of_the_map.Goals as goal

pub returns : goal.returns
returns g c = let m = g.P.Place in number_of_map m.taken m.key m.entry
