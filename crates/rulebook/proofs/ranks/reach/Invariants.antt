use Rattle.std.proofs.Common.{◌≡◌, take}
use Rattle.rulebook.specs.Books.{reached}
use Rattle.rulebook.proofs.ranks.reach.Given as goal

abbrev pub invariant-loop-k : goal.invariant-loop-k
invariant-loop-k l = l.bits ≡ reached l.rank (take l.k l.needs)
