use Rattle.std.proofs.Common.{◌≡◌, map, length, take}
use Rattle.rulebook.specs.Books.{rank_row}
use Rattle.rulebook.proofs.ranks.rank_rows.Given as goal

abbrev pub invariant-loop-k : goal.invariant-loop-k
invariant-loop-k l = (take l.k l.rows ≡ map (rank_row l.needs) (take l.k l.ranks)) × (length l.rows ≡ 32)
