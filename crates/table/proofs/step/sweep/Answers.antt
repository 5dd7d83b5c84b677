use Rattle.table.proofs.Each.{map_step, map_end}
use Rattle.table.proofs.Sweeps.{swept_told}
use Rattle.table.proofs.step.sweep.Goals as goal

pub loop-place-preserved : goal.loop-place-preserved
loop-place-preserved g c =
    map_step (g.P.Change.changed c.args.how.now) c.args.places.now c.loop-place.places c.loop-place.place-index c.place-item.result c.change.new.self c.loop-place-test.true c.loop-place.invariant c.place-item.is c.change.ensures.is

pub returns : goal.returns
returns g c =
    let m = g.P.Place in
    let f = g.P.Change.changed c.args.how.now in
    record {
      is = map_end f c.args.places.now c.loop-place.places c.loop-place.place-index c.loop-place-test.false c.loop-place.invariant;
      law = λ keeps. swept_told m.taken m.key m.entry f keeps c.args.places.now;
    }
