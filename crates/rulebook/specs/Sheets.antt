-- Sheets: the names and the rows of the application functions (AFs) by number, and what is refused.
--     wrong_count n        n is no number of AFs for a sheet
--     wrong_length n       n is no length for a name
--     wrong_name name xs n the name n has a wrong length or is that of one of the earlier AFs xs; name tells the name of an AF
--     wrong_names name xs  some of the AFs xs has a wrong name after those before it
--     wrong_rows row xs    some of the AFs xs has a wrong row; row tells the row of an AF
--     Entry                what a sheet says of an AF: its name and its row
--     names s              the names in what a sheet says, by AF number
--     rows s               the rows in it
--     sheet_refusals s     the refusals of a sheet that says s
--     entered_name a       the name with which an AF is entered
--     entered_row a        its row
--     entered_entry a      both
--     entered afs          what the AFs that are entered say, by number
use Rattle.std.specs.Prelude.{ℕ, Bool, ◌||◌, List, [], ◌∷◌, map, length, take, ◌==◌, nat_lt}
use Rattle.std.specs.List.{list_any, enumerate_from}
use Rattle.std.specs.Str.{bytes_eq}
use Rattle.refusal.specs.declared.Refusal.{Refusal}
use Rattle.refusal.specs.declared.Refusal.TheVariants.{WrongAfCount, WrongName, WrongRow}
use Rattle.rulebook.specs.Rows.{wrong_row}
use Rattle.rulebook.specs.declared.row.AfRow.{AfRow}
use Rattle.rulebook.specs.declared.row.Row.{Row}

abbrev pub wrong_count : ℕ → Bool
wrong_count n = n == 0 || nat_lt 32 n

abbrev pub wrong_length : ℕ → Bool
wrong_length n = n == 0 || nat_lt 64 n

abbrev pub wrong_name : {X : Type 0} → (X → List ℕ) → List X → List ℕ → Bool
wrong_name name xs n = wrong_length (length n) || list_any (λ x. bytes_eq (name x) n) xs

abbrev pub wrong_names : {X : Type 0} → (X → List ℕ) → List X → Bool
wrong_names name xs = list_any (λ p. wrong_name name (take p.0 xs) (name p.1)) (enumerate_from 0 xs)

abbrev pub wrong_rows : {X : Type 0} → (X → Row) → List X → Bool
wrong_rows row xs = list_any (λ x. wrong_row (row x)) xs

pub record Entry : Type 0 where
  pub name : List ℕ
  pub row : Row

abbrev pub names : List Entry → List (List ℕ)
names s = map (λ e. e.name) s

abbrev pub rows : List Entry → List Row
rows s = map (λ e. e.row) s

abbrev pub sheet_refusals : List Entry → List (Refusal × Bool)
sheet_refusals s =
    (WrongAfCount, wrong_count (length s)) ∷
    (WrongName, wrong_names (λ e. e.name) s) ∷
    (WrongRow, wrong_rows (λ e. e.row) s) ∷ []

abbrev pub entered_name : AfRow → List ℕ
entered_name a = a.name.now

abbrev pub entered_row : AfRow → Row
entered_row a = record { allowed = a.allowed; overriding = a.overriding }

abbrev pub entered_entry : AfRow → Entry
entered_entry a = record { name = entered_name a; row = entered_row a }

abbrev pub entered : List AfRow → List Entry
entered afs = map entered_entry afs
