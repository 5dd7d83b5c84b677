use Rattle.diameter.proofs.Decided.{judged_lengths}
use Rattle.diameter.proofs.laws.lengths_judged.Goals as goal

pub returns : goal.returns
returns c = judged_lengths
