use Rattle.std.proofs.Common.{refl, ap}
use Rattle.table.specs.Tables.{content}
use Rattle.table.proofs.Places.{none_held, never}
use Rattle.table.proofs.Maps.{changed_updated, idle_updated, put_contents, absent_contents}
use Rattle.table.proofs.step.change.Goals as goal

pub returns : goal.returns
returns g c =
    let m = g.P.Place in
    let f = c.in-Some.ensures in
    record {
      answer = f.known;
      law = changed_updated m.taken m.key m.entry (g.P.Change.changed c.args.how.now) c.change.new.self (m.spelt c.args.sought.now) c.args.places.now c.in-Some.i c.index-places-i.result f.within f.held c.change.ensures.is c.change.ensures.key;
      places = put_contents m.taken m.key m.entry (λ p. content m.taken m.entry (g.P.Change.changed c.args.how.now p)) c.change.new.self (m.spelt c.args.sought.now) c.args.places.now c.in-Some.i c.index-places-i.result f.within (f.held c.index-places-i.result) (ap (content m.taken m.entry) c.change.ensures.is);
      refused = never;
    }

pub returns-in_default : goal.returns-in_default
returns-in_default g c =
    let m = g.P.Place in
    let k = m.spelt c.args.sought.now in
    let ps = c.args.places.now in
    let none = none_held m.taken m.key m.entry ps k c.in_default.ensures.known in
    record {
      answer = c.in_default.ensures.known;
      law = idle_updated m.taken m.key m.entry (g.P.Change.changed c.args.how.now) k ps none;
      places = λ _. absent_contents m.taken m.key m.entry (λ p. content m.taken m.entry (g.P.Change.changed c.args.how.now p)) k ps none;
      refused = λ _. refl;
    }
