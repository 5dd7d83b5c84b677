use Rattle.std.proofs.Common.{◌≡◌, map, length, take}
use Rattle.rulebook.proofs.Answering.{kept_row}
use Rattle.rulebook.proofs.sheet_book.SheetBook.new.Given as goal

abbrev pub invariant-loop-k : goal.invariant-loop-k
invariant-loop-k l = record {
  told : take l.k l.rows ≡ map kept_row (take l.k l.sheet.afs);
  whole : length l.rows ≡ 32;
}
