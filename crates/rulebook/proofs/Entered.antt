-- Application functions as they are entered, and as they are kept.
use Rattle.std.proofs.Common.{◌≡◌, ℕ, zero, suc, ◌+◌, ◌<◌, ◌≤◌, Bool, true, false, ◌||◌, cond, List, [], ◌∷◌, ◌++◌, map, length, get_or, take, set, Ok, Err, sym, refl, ap, ◌∙◌, arith, inl, inr}
use Rattle.std.specs.List.{list_any, enumerate_from}
use Rattle.std.specs.Str.{bytes_eq}
use Rattle.std.proofs.lemmas.List.{length-map, take_all, take_more_set, map_push, map_more}
use Rattle.std.proofs.lemmas.List.Folds.{list_any_at, list_any_more}
use Rattle.std.proofs.lemmas.List.FromFn.{length-enumerate_from, get_or-enumerate_from}
use Rattle.std.proofs.lemmas.Bool.{cases_Bool}
use Rattle.std.proofs.lemmas.Bool.Decides.{nat_tests}
use Rattle.refusal.specs.Verdicts.{Unrefused}
use Rattle.refusal.specs.declared.Refusal.{Refusal}
use Rattle.rulebook.specs.Kept.{kept_entry, kept, KeepsAf}
use Rattle.rulebook.specs.Rows.{wrong_row}
use Rattle.rulebook.specs.Sheets.{wrong_count, wrong_length, wrong_name, wrong_names, wrong_rows, entered_name, entered_row, entered_entry, entered, Entry, sheet_refusals}
use Rattle.rulebook.specs.declared.af.Af.{Af}
use Rattle.rulebook.specs.declared.row.AfRow.{AfRow}

-- a test that fails everywhere fails at k
pub none_at : {X : Type 0} (p : X → Bool) (xs : List X) (k : ℕ) (d : X) → k < length xs → list_any p xs ≡ false → p (get_or xs k d) ≡ false
none_at p xs k d l h =
    elim (cases_Bool (p (get_or xs k d))) [
      | inl yes-here ↦ let z = list_any_at p xs k d l yes-here in grind (arith, nat_tests)
      | inr no-here ↦ no-here
    ]

-- what is read past the end
abbrev pub no_af : AfRow
no_af = record { name = record { ref_ptr = (0, 0); now = [] }; allowed = 0; overriding = 0 }

-- a right name is short enough to be kept
pub short : (afs : List AfRow) (k : ℕ) → k < length afs → wrong_names entered_name afs ≡ false → length (entered_name (get_or afs k no_af)) ≤ 64
short afs k l h =
    let e : get_or (enumerate_from 0 afs) k (0, no_af) ≡ (0 + k, get_or afs k no_af) = get_or-enumerate_from 0 afs k (0, no_af) l in
    let right : wrong_name entered_name (take (0 + k) afs) (entered_name (get_or afs k no_af)) ≡ false =
    ap (λ (p : ℕ × AfRow). wrong_name entered_name (take p.0 afs) (entered_name p.1)) (sym e)
    ∙ none_at _ (enumerate_from 0 afs) k (0, no_af) (omega (arith, length-enumerate_from 0 afs)) h in
    grind (arith, nat_tests)

-- what one refusal tells where it doesn't apply
pub one_ok : {A : Type 0} (b : Bool) (e : Refusal) (x y : A) → Ok x ≡ cond b (Err e) (Ok y) → (x ≡ y) × (b ≡ false)
one_ok true e x y h = absurd (cc)
one_ok false e x y h = (cc, refl)

-- one more is kept
pub kept_more : (afs : List Af) (rows : List AfRow) (k : ℕ) (x : Af) → k < length afs → k < length rows → wrong_names entered_name rows ≡ false
    → KeepsAf (get_or rows k no_af) (Ok x) → kept k afs ≡ entered (take k rows) → kept (k + 1) (set afs k x) ≡ entered (take (k + 1) rows)
kept_more afs rows k x l m h told before =
    let a = get_or rows k no_af in
    let named : take 64 (entered_name a) ≡ entered_name a = take_all 64 (entered_name a) (short rows k m h) in
    let here : kept_entry x ≡ entered_entry a = (one_ok _ _ _ _ told).0 ∙ ap (λ (n : List ℕ). record { name = n; row = entered_row a }) named in
    ap (map kept_entry) (take_more_set afs k x l) ∙ map_push kept_entry (take k afs) x ∙ (λ i. before i ++ here i ∷ [])
    ∙ sym (map_more entered_entry rows k no_af m)

-- one row more is right
pub right_more : (rows : List AfRow) (k : ℕ) (x : Af) → k < length rows → KeepsAf (get_or rows k no_af) (Ok x)
    → wrong_rows entered_row (take k rows) ≡ false → wrong_rows entered_row (take (k + 1) rows) ≡ false
right_more rows k x l told before =
    list_any_more (λ a. wrong_row (entered_row a)) rows k no_af l ∙ (λ i. before i || (one_ok _ _ _ _ told).1 i)

-- a test of the first k entries is one of the first k AFs
tested_front : (p : List ℕ → Bool) (afs : List AfRow) (k : ℕ) → list_any (λ (e : Entry). p e.name) (take k (entered afs)) ≡ list_any (λ a. p (entered_name a)) (take k afs)
tested_front p afs zero = refl
tested_front p [] (suc k) = refl
tested_front p (a ∷ afs) (suc k) = ap (λ b. p (entered_name a) || b) (tested_front p afs k)

-- the same names are wrong where the AFs are told as entries
later_names : (all : List AfRow) (afs : List AfRow) (k : ℕ)
    → list_any (λ (p : ℕ × Entry). wrong_name (λ (e : Entry). e.name) (take p.0 (entered all)) p.1.name) (enumerate_from k (entered afs))
    ≡ list_any (λ (p : ℕ × AfRow). wrong_name entered_name (take p.0 all) (entered_name p.1)) (enumerate_from k afs)
later_names all [] k = refl
later_names all (a ∷ afs) k =
    λ i. (wrong_length (length (entered_name a)) || tested_front (λ (n : List ℕ). bytes_eq n (entered_name a)) all k i) || later_names all afs (k + 1) i

pub names_entered : (afs : List AfRow) → wrong_names (λ e. e.name) (entered afs) ≡ wrong_names entered_name afs
names_entered afs = later_names afs afs 0

pub rows_entered : (afs : List AfRow) → wrong_rows (λ e. e.row) (entered afs) ≡ wrong_rows entered_row afs
rows_entered [] = refl
rows_entered (a ∷ afs) = ap (λ b. wrong_row (entered_row a) || b) (rows_entered afs)

pub length_entered : (afs : List AfRow) → length (entered afs) ≡ length afs
length_entered afs = length-map afs entered_entry

-- nothing refuses what is kept of right AFs
pub sound : (rows : List AfRow) (s : List Entry) → s ≡ entered rows → 0 < length rows → length rows ≤ 32
    → wrong_names entered_name rows ≡ false → wrong_rows entered_row rows ≡ false → Unrefused (sheet_refusals s)
sound rows s same some few n r =
    let count : wrong_count (length rows) ≡ false = grind (arith, nat_tests) in (
      ap (λ (t : List Entry). wrong_count (length t)) same ∙ ap wrong_count (length_entered rows) ∙ count,
      (
        ap (wrong_names (λ (e : Entry). e.name)) same ∙ names_entered rows ∙ n,
        (ap (wrong_rows (λ (e : Entry). e.row)) same ∙ rows_entered rows ∙ r, tt),
      ),
    )

-- what a sheet made of right AFs rests on
pub ruleset entering = (names_entered, rows_entered, length_entered, sound, one_ok)
