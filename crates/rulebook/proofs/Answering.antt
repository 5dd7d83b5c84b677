-- A book of rows that hold sets of the ten fields answers by them.
use Rattle.std.proofs.Common.{◌≡◌, ℕ, zero, suc, ◌%◌, ◌<◌, List, [], ◌∷◌, map, length, get_or, refl, ap, ◌∙◌, mod-eq_of_lt, arith}
use Rattle.std.proofs.lemmas.Bool.Decides.{nat_tests}
use Rattle.rulebook.specs.Books.{AnswersBy, rights, reached, rank_row}
use Rattle.rulebook.specs.Kept.{kept_entry}
use Rattle.rulebook.specs.Rights.{row_of}
use Rattle.rulebook.specs.Rows.{blank}
use Rattle.rulebook.specs.Sheets.{rows}
use Rattle.rulebook.specs.declared.af.Af.{Af}
use Rattle.rulebook.specs.declared.row.Row.{Row}
use Rattle.rulebook.specs.declared.sheet_book.SheetBook.{SheetBook}
use Rattle.rulebook.proofs.Reached.{reached_below}

-- both numbers of a row are sets of the ten fields
abbrev pub IsNarrow : Row → Type 0
IsNarrow r = (r.allowed < 1024) × (r.overriding < 1024)

narrow_at : {X : Type 0} (row : X → Row) → ((x : X) → IsNarrow (row x)) → (xs : List X) (k : ℕ) → IsNarrow (get_or (map row xs) k blank)
narrow_at row h [] k = (omega arith, omega arith)
narrow_at row h (x ∷ xs) zero = h x
narrow_at row h (x ∷ xs) (suc k) = narrow_at row h xs k

pub answering : {X : Type 0} (row : X → Row) → ((x : X) → IsNarrow (row x)) → (xs : List X) (b : SheetBook) → rights b ≡ map row xs → AnswersBy (map row xs) b
answering row h xs b e =
    λ af. let n = narrow_at row h xs af in (
      ap (λ (rs : List Row). (get_or rs af blank).allowed % 1024) e ∙ mod-eq_of_lt n.0,
      ap (λ (rs : List Row). (get_or rs af blank).overriding % 1024) e ∙ mod-eq_of_lt n.1,
    )

-- the row of an AF that is kept
abbrev pub kept_row : Af → Row
kept_row a = row_of a.rights

pub row_narrow : (a : Af) → IsNarrow (kept_row a)
row_narrow a = (a.rights.allowed.narrow, a.rights.overriding.narrow)

pub rank_narrow : (needs : List ℕ) → length needs ≡ 10 → (rank : ℕ) → IsNarrow (rank_row needs rank)
rank_narrow needs ten rank =
    let small : reached rank needs < 1024 = reached_below rank needs 10 (omega arith) in
    (small, grind (arith, nat_tests))

pub rows_kept : (afs : List Af) → rows (map kept_entry afs) ≡ map kept_row afs
rows_kept [] = refl
rows_kept (a ∷ afs) = ap (λ (rs : List Row). kept_row a ∷ rs) (rows_kept afs)
