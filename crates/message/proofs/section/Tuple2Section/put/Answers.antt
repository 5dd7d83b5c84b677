use Rattle.writer.proofs.Stores.{◌⊕◌}
use Rattle.message.proofs.section.Tuple2Section.put.Goals as goal

pub returns : goal.returns
returns g c = c.put.ensures ⊕ c.put-2.ensures
