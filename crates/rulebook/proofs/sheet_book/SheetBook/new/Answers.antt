use Rattle.std.proofs.Common.{◌≡◌, List, map, take, ap, sym, subst, ◌∙◌, arith}
use Rattle.std.proofs.lemmas.List.{take-map, take_all}
use Rattle.rulebook.specs.Books.{AnswersBy}
use Rattle.rulebook.specs.declared.row.Row.{Row}
use Rattle.rulebook.proofs.Answering.{rows_kept, answering, row_narrow, kept_row}
use Rattle.rulebook.proofs.sheet_book.SheetBook.new.Goals as goal

pub returns : goal.returns
returns c =
    let sheet = c.args.sheet.now in
    let all : c.loop-k.rows ≡ map kept_row sheet.afs =
    sym (take_all c.loop-k.k _ (omega (arith, c.loop-k-test.false, c.loop-k.invariant.whole))) ∙ c.loop-k.invariant.told
    ∙ ap (map kept_row) (take_all c.loop-k.k _ (omega (arith, c.loop-k-test.false))) in
    let some : take sheet.len c.loop-k.rows ≡ map kept_row (take sheet.len sheet.afs) = ap (take sheet.len) all ∙ take-map kept_row sheet.len sheet.afs in
    let told = sym (rows_kept (take sheet.len sheet.afs)) in
    record {
      rights = some ∙ told;
      answers = subst (λ (rs : List Row). AnswersBy rs (record { rows = c.loop-k.rows; count = sheet.len })) told (answering kept_row row_narrow (take sheet.len sheet.afs) _ some);
    }
