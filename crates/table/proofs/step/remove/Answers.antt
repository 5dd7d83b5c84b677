use Rattle.std.proofs.Common.{Some, None, refl}
use Rattle.std.proofs.lemmas.Bool.{cond-false}
use Rattle.table.proofs.Places.{none_held, never}
use Rattle.table.proofs.Maps.{cleared_updated, absent_updated, put_contents, absent_contents}
use Rattle.table.proofs.step.remove.Goals as goal

pub returns : goal.returns
returns g c =
    let m = g.P.Place in
    let f = c.in-Some.ensures in
    record {
      answer = f.known;
      law = cleared_updated m.taken m.key m.entry c.clear.new.self (m.spelt c.args.sought.now) c.args.places.now c.in-Some.i f.within f.held c.clear.ensures;
      places = λ apart. put_contents m.taken m.key m.entry (λ _. None) c.clear.new.self (m.spelt c.args.sought.now) c.args.places.now c.in-Some.i c.clear.new.self f.within (f.held c.clear.new.self) (cond-false (m.taken c.clear.new.self) (Some (m.entry c.clear.new.self)) None c.clear.ensures) apart;
      refused = never;
    }

pub returns-in_default : goal.returns-in_default
returns-in_default g c =
    let m = g.P.Place in
    let k = m.spelt c.args.sought.now in
    let ps = c.args.places.now in
    let none = none_held m.taken m.key m.entry ps k c.in_default.ensures.known in
    record { answer = c.in_default.ensures.known; law = absent_updated m.taken m.key m.entry k ps none; places = λ _. absent_contents m.taken m.key m.entry (λ _. None) k ps none; refused = λ _. refl }
