use Rattle.model.proofs.Isolated.{isolation}
use Rattle.model.proofs.laws.isolation.Goals as goal

pub returns : goal.returns
returns c = isolation
