use Rattle.model.proofs.Balanced.{accounts}
use Rattle.model.proofs.laws.accounts.Goals as goal

pub returns : goal.returns
returns c = accounts
