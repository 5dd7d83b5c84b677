use Rattle.writer.proofs.Written.{read_back}
use Rattle.writer.proofs.laws.read_back.Goals as goal

pub returns : goal.returns
returns c = read_back
