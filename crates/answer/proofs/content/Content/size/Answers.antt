use Rattle.std.proofs.Common.{ℕ, ◌+◌, length, sym, ap, ◌∙◌, arith}
use Rattle.answer.specs.Contents.{said_by}
use Rattle.answer.proofs.Lengths.{length_whole}
use Rattle.answer.proofs.content.Content.size.Goals as goal

pub returns : goal.returns
returns g c =
    record {
      is = ap (λ (k : ℕ). 20 + k) (c.size.ensures.is ∙ ap length c.body.ensures) ∙ sym (length_whole (said_by g.S.FieldSource.value c.args.self));
      within = omega (arith, c.size.ensures.within);
    }
