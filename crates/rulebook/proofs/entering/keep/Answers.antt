use Rattle.std.proofs.Common.{◌∙◌, arith}
use Rattle.std.proofs.lemmas.List.{length-set}
use Rattle.rulebook.proofs.Entered.{kept_more, right_more}
use Rattle.rulebook.proofs.entering.keep.Goals as goal

pub loop-k-preserved : goal.loop-k-preserved
loop-k-preserved c = record {
  same = kept_more _ _ _ _ (omega arith) c.loop-k-test.true c.requires.named c.in_ok-kept.ensures c.loop-k.invariant.same;
  right = right_more _ _ c.in_ok-kept.field-0 c.loop-k-test.true c.in_ok-kept.ensures c.loop-k.invariant.right;
  whole = length-set _ _ _ ∙ c.loop-k.invariant.whole;
}
