-- What a list of places stands for: a map from keys to entries. A key is a list of bytes of any length.
--     holds taken key k p      the place p is taken under the key k
--     holder taken key ps k    the place of ps that is taken under k
--     at taken key entry ps k  the map: the entry under k
--     content taken entry p    what one place adds to the map: its entry if it is taken
--     contents taken entry ps  what the places hold, place by place
--     distinct, Distinct       no two taken places have the same key
--     number taken ps          how many places are taken
--     room taken ps            some place is free
use Rattle.std.specs.Prelude.{◌≡◌, ℕ, ◌+◌, Bool, true, false, cond, not, ◌&&◌, List, [], ◌∷◌, map, is_some, Some, None, Option}
use Rattle.std.specs.List.{find, list_any}
use Rattle.std.specs.Option.{option_map}
use Rattle.std.specs.Str.{bytes_eq}

abbrev pub holds : {P : Type 0} → (P → Bool) → (P → List ℕ) → List ℕ → P → Bool
holds taken key k p = taken p && bytes_eq (key p) k

abbrev pub holder : {P : Type 0} → (P → Bool) → (P → List ℕ) → List P → List ℕ → Option P
holder taken key ps k = find (holds taken key k) ps

abbrev pub at : {P E : Type 0} → (P → Bool) → (P → List ℕ) → (P → E) → List P → List ℕ → Option E
at taken key entry ps k = option_map entry (holder taken key ps k)

abbrev pub content : {P E : Type 0} → (P → Bool) → (P → E) → P → Option E
content taken entry p = cond (taken p) (Some (entry p)) None

abbrev pub contents : {P E : Type 0} → (P → Bool) → (P → E) → List P → List (Option E)
contents taken entry ps = map (content taken entry) ps

-- each taken place has a key that none after it has
abbrev pub distinct : {P : Type 0} → (P → Bool) → (P → List ℕ) → List P → Bool
distinct taken key [] = true
distinct taken key (p ∷ ps) = cond (taken p && is_some (holder taken key ps (key p))) false (distinct taken key ps)

abbrev pub Distinct : {P : Type 0} → (P → Bool) → (P → List ℕ) → List P → Type 0
Distinct taken key ps = distinct taken key ps ≡ true

abbrev pub number : {P : Type 0} → (P → Bool) → List P → ℕ
number taken [] = 0
number taken (p ∷ ps) = cond (taken p) 1 0 + number taken ps

abbrev pub room : {P : Type 0} → (P → Bool) → List P → Bool
room taken ps = list_any (λ p. not (taken p)) ps
