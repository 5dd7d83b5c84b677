-- Application functions (AFs) as they are kept.
--     kept_entry a   what the AF a says
--     kept n afs     what the first n of the AFs say
--     KeepsAf a x    x is what keeping the AF a gives: its row and as much of its name as there is room for, or refusal 28 where its row is wrong
use Rattle.std.specs.Prelude.{◌≡◌, ℕ, List, [], ◌∷◌, map, take, Result}
use Rattle.refusal.specs.Verdicts.{judged, told}
use Rattle.refusal.specs.declared.Refusal.{Refusal}
use Rattle.refusal.specs.declared.Refusal.TheVariants.{WrongRow}
use Rattle.text.specs.Texts.{said}
use Rattle.rulebook.specs.Rights.{row_of}
use Rattle.rulebook.specs.Rows.{wrong_row}
use Rattle.rulebook.specs.Sheets.{Entry, entered_name, entered_row}
use Rattle.rulebook.specs.declared.row.AfRow.{AfRow}
use Rattle.rulebook.specs.declared.af.Af.{Af}

abbrev pub kept_entry : Af → Entry
kept_entry a = record { name = said a.name; row = row_of a.rights }

abbrev pub kept : ℕ → List Af → List Entry
kept n afs = map kept_entry (take n afs)

abbrev pub KeepsAf : AfRow → Result Af Refusal → Type 0
KeepsAf a x = told kept_entry x ≡ judged ((WrongRow, wrong_row (entered_row a)) ∷ []) (record { name = take 64 (entered_name a); row = entered_row a })
