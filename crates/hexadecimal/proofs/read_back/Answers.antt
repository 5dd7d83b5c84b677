use Rattle.hexadecimal.proofs.Backs.{read_back}
use Rattle.hexadecimal.proofs.read_back.Goals as goal

pub returns : goal.returns
returns c = read_back
