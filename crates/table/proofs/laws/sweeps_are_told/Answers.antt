use Rattle.table.proofs.Sweeps.{swept_told}
use Rattle.table.proofs.laws.sweeps_are_told.Goals as goal

pub returns : goal.returns
returns g c = let m = g.P.Place in swept_told m.taken m.key m.entry
