use Rattle.std.proofs.Common.{◌≡◌, false, length, take}
use Rattle.rulebook.specs.Kept.{kept}
use Rattle.rulebook.specs.Sheets.{wrong_rows, entered_row, entered}
use Rattle.rulebook.proofs.entering.keep.Given as goal

abbrev pub invariant-loop-k : goal.invariant-loop-k
invariant-loop-k l = record {
  same : kept l.k l.kept ≡ entered (take l.k l.afs);
  right : wrong_rows entered_row (take l.k l.afs) ≡ false;
  whole : length l.kept ≡ 32;
}
