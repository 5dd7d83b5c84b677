use Rattle.std.proofs.Common.{◌≡◌, ◌++◌, map, take, drop}
use Rattle.table.proofs.step.sweep.Given as goal

abbrev pub invariant-loop-place : goal.invariant-loop-place
invariant-loop-place g l =
    l.places ≡ map (g.P.Change.changed l.how) (take l.place-index l.initial.places) ++ drop l.place-index l.initial.places
