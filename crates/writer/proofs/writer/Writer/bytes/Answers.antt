use Rattle.std.proofs.Common.{refl, arith}
use Rattle.writer.proofs.Stores.{wrote_part}
use Rattle.writer.proofs.writer.Writer.bytes.Goals as goal

pub returns : goal.returns
returns c = record { wrote = wrote_part _ _ _ _ _ c.copy_from_slice.ensures.after refl (omega arith); same = refl }
