-- What a sheet says.
--     listing s   the names and the rows of the AFs of the sheet s, by number
use Rattle.std.specs.Prelude.{List}
use Rattle.rulebook.specs.Kept.{kept}
use Rattle.rulebook.specs.Sheets.{Entry}
use Rattle.rulebook.specs.declared.sheet.AfSheet.{AfSheet}

abbrev pub listing : AfSheet → List Entry
listing s = kept s.len s.afs
