use Rattle.std.proofs.Common.{ap, arith}
use Rattle.std.proofs.lemmas.Bool.Decides.{nat_tests}
use Rattle.writer.specs.Bytes.{zeros}
use Rattle.writer.proofs.Stores.{◌⊕◌, appends_as}
use Rattle.writer.proofs.writer.Writer.avp.Goals as goal

pub returns : goal.returns
returns c =
    record {
      wrote = c.avp_header.ensures.wrote ⊕ c.bytes.ensures ⊕ appends_as (ap zeros c.padding.ensures) c.zeros.ensures.wrote;
      ends = grind (arith, nat_tests);
    }
