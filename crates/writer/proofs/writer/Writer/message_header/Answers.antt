use Rattle.writer.proofs.Stores.{◌⊕◌}
use Rattle.writer.proofs.writer.Writer.message_header.Goals as goal

pub returns : goal.returns
returns c = c.byte.ensures ⊕ c.u24.ensures ⊕ c.byte-2.ensures ⊕ c.u24-2.ensures ⊕ c.u32.ensures ⊕ c.u32-2.ensures ⊕ c.u32-3.ensures
