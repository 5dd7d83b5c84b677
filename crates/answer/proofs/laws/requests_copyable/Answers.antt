use Rattle.answer.proofs.Copies.{requests_copyable}
use Rattle.answer.proofs.laws.requests_copyable.Goals as goal

pub returns : goal.returns
returns c = requests_copyable
