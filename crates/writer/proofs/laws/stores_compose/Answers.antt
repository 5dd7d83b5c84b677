use Rattle.writer.proofs.Stores.{stores_compose}
use Rattle.writer.proofs.laws.stores_compose.Goals as goal

pub returns : goal.returns
returns c = stores_compose
