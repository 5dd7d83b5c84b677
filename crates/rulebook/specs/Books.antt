-- What the books mean: for an AF number the row of its rights, and the sets in it as numbers of bits.
--     rights b             the rows of a sheet book, by AF number
--     sheet_allows b af    what the sheet book b allows
--     sheet_overrides b af what it lets override
--     AnswersBy rs b      for every AF the sheet book b answers what its row in rs says
--     reached rank needs   the fields whose need is at most the rank; the first need is that of field 0
--     rank_row needs rank  the row of an AF with that rank: at rank 3 it overrides what it allows
--     ranked s rs ns       the rows of the AFs of the sheet that says s, with the ranks rs under the needs ns
--     above_three ns       some number of ns is above 3
--     rank_refusals rs ns  the refusals of a rank book with the ranks rs and the needs ns
--     rank_rights b        the rows of a rank book, by AF number
use Rattle.std.specs.Prelude.{◌≡◌, ℕ, ◌+◌, ◌*◌, ◌%◌, Bool, cond, List, [], ◌∷◌, map, length, take, ◌==◌, nat_le, nat_lt, slice_index_or}
use Rattle.std.specs.List.{list_any}
use Rattle.refusal.specs.declared.Refusal.{Refusal}
use Rattle.refusal.specs.declared.Refusal.TheVariants.{WrongOpening}
use Rattle.rulebook.specs.Rows.{blank}
use Rattle.rulebook.specs.Sheets.{Entry}
use Rattle.rulebook.specs.declared.row.Row.{Row}
use Rattle.rulebook.specs.declared.rank_book.RankBook.{RankBook}
use Rattle.rulebook.specs.declared.sheet_book.SheetBook.{SheetBook}

abbrev pub rights : SheetBook → List Row
rights b = take b.count b.rows

abbrev pub sheet_allows : SheetBook → ℕ → ℕ
sheet_allows b af = (slice_index_or (rights b) af blank).allowed % 1024

abbrev pub sheet_overrides : SheetBook → ℕ → ℕ
sheet_overrides b af = (slice_index_or (rights b) af blank).overriding % 1024

abbrev pub AnswersBy : List Row → SheetBook → Type 0
AnswersBy rs b = (af : ℕ) → (sheet_allows b af ≡ (slice_index_or rs af blank).allowed) × (sheet_overrides b af ≡ (slice_index_or rs af blank).overriding)

abbrev pub reached : ℕ → List ℕ → ℕ
reached rank [] = 0
reached rank (n ∷ ns) = cond (nat_le n rank) 1 0 + 2 * reached rank ns

abbrev pub rank_row : List ℕ → ℕ → Row
rank_row needs rank = record { allowed = reached rank needs; overriding = cond (rank == 3) (reached rank needs) 0 }

abbrev pub ranked : List Entry → List ℕ → List ℕ → List Row
ranked s ranks needs = map (rank_row needs) (take (length s) ranks)

abbrev pub above_three : List ℕ → Bool
above_three ns = list_any (λ n. nat_lt 3 n) ns

abbrev pub rank_refusals : List ℕ → List ℕ → List (Refusal × Bool)
rank_refusals ranks needs = (WrongOpening, above_three ranks) ∷ (WrongOpening, above_three needs) ∷ []

abbrev pub rank_rights : RankBook → List Row
rank_rights b = rights b.rows
