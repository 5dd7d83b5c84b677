-- What a step does to a table.
--     Updated .. ps qs k v    qs is ps with v under the key k, and every other key as it was
--     counted o               1 for an entry, 0 for none
--     changed_content .. f o  what the holder o of a key adds to the map once f has changed it
--     filled m v xs           v stands at the place m, if there is one
--     with_held .. k g ps     what the places hold, but g of the place that holds k instead of its entry
--     insertion known free    the answer to an insertion: the key is known, some place is free
use Rattle.std.specs.Prelude.{◌≡◌, ℕ, ◌+◌, Bool, cond, List, map as each, length, is_some, Some, None, Ok, Err, Option, Result, slice_set}
use Rattle.std.specs.Map.{update}
use Rattle.std.specs.Str.{bytes_eq}
use Rattle.table.specs.declared.step.InsertError.{InsertError}
use Rattle.table.specs.declared.step.InsertError.TheVariants.{Present, Full}
use Rattle.table.specs.Tables.{holds, at, content, Distinct, number}

abbrev pub counted : {E : Type 0} → Option E → ℕ
counted o = cond (is_some o) 1 0

pub record Updated {P E : Type 0} (taken : P → Bool) (key : P → List ℕ) (entry : P → E) (ps qs : List P) (k : List ℕ) (v : Option E) : Type 0 where
  pub map : at taken key entry qs ≡ update bytes_eq (at taken key entry ps) k v
  pub apart : Distinct taken key qs
  pub taken_number : number taken qs + counted (at taken key entry ps k) ≡ number taken ps + counted v
  pub places : length qs ≡ length ps

abbrev pub changed_content : {P E : Type 0} → (P → Bool) → (P → E) → (P → P) → Option P → Option E
changed_content taken entry f None = None
changed_content taken entry f (Some p) = content taken entry (f p)

abbrev pub filled : {E : Type 0} → Option ℕ → E → List E → List E
filled None v xs = xs
filled (Some i) v xs = slice_set xs i v

abbrev pub with_held : {P E : Type 0} → (P → Bool) → (P → List ℕ) → (P → E) → List ℕ → (P → Option E) → List P → List (Option E)
with_held taken key entry k g ps = each (λ p. cond (holds taken key k p) (g p) (content taken entry p)) ps

abbrev pub insertion : Bool → Bool → Result (Unit {0}) InsertError
insertion known free = cond known (Err Present) (cond free (Ok tt) (Err Full))
