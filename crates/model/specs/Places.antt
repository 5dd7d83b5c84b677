-- Places: each is free or holds one entry. Sessions have the repository's places, and each AF's subscriptions have 16 of its own.
--     is_taken          which places hold an entry
--     free_place marks  the place that the next entry takes, from the marks of those that are taken. Which one is left open: nothing but its laws is to
--                       be used (it is there exactly when some place is free, it is within, and it is free)
--     has_room ps       some place is free
--     placed e ps       the places once the entry took one
--     altered g ps      the places once each entry became what g makes of it, which may be nothing
use Rattle.std.specs.Prelude.{ℕ, suc, Bool, cond, List, [], ◌∷◌, map, is_some, Some, None, Option, slice_set}
use Rattle.std.specs.Option.{option_map}

abbrev pub is_taken : {E : Type 0} → List (Option E) → List Bool
is_taken ps = map is_some ps

-- the first that is free
unfoldable pub free_place : List Bool → Option ℕ
free_place [] = None
free_place (taken ∷ later) = cond taken (option_map suc (free_place later)) (Some 0)

abbrev pub has_room : {E : Type 0} → List (Option E) → Bool
has_room ps = is_some (free_place (is_taken ps))

abbrev pub put_at : {E : Type 0} → Option ℕ → E → List (Option E) → List (Option E)
put_at None e ps = ps
put_at (Some i) e ps = slice_set ps i (Some e)

abbrev pub placed : {E : Type 0} → E → List (Option E) → List (Option E)
placed e ps = put_at (free_place (is_taken ps)) e ps

abbrev pub altered : {E : Type 0} → (E → Option E) → List (Option E) → List (Option E)
altered g [] = []
altered g (None ∷ later) = None ∷ altered g later
altered g (Some e ∷ later) = g e ∷ altered g later
