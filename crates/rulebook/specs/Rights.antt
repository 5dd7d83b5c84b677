-- Rights that are checked.
--     row_of r        the row that says the rights r
--     ChecksRow r x   x is what the check of the row r gives: the rights that it says, or refusal 28 where it is wrong
use Rattle.std.specs.Prelude.{◌≡◌, [], ◌∷◌, Result}
use Rattle.refusal.specs.Verdicts.{judged, told}
use Rattle.refusal.specs.declared.Refusal.{Refusal}
use Rattle.refusal.specs.declared.Refusal.TheVariants.{WrongRow}
use Rattle.rulebook.specs.Rows.{wrong_row}
use Rattle.rulebook.specs.declared.rights.Rights.{Rights}
use Rattle.rulebook.specs.declared.row.Row.{Row}

abbrev pub row_of : Rights → Row
row_of r = record { allowed = r.allowed.bits; overriding = r.overriding.bits }

abbrev pub ChecksRow : Row → Result Rights Refusal → Type 0
ChecksRow r x = told row_of x ≡ judged ((WrongRow, wrong_row r) ∷ []) r
