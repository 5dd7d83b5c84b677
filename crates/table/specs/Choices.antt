-- Which free place a new entry takes. Nothing but the laws of `choice` is to be used of it: it is within, it is free, it is there exactly when
-- some place is free, and it hangs on nothing but which places are taken.
--     choice taken ps   the index of the place that is taken next
use Rattle.std.specs.Prelude.{ℕ, Bool, not, List, Option}
use Rattle.std.specs.List.{position_from}

unfoldable pub choice : {P : Type 0} → (P → Bool) → List P → Option ℕ
choice taken ps = position_from (λ p. not (taken p)) 0 ps
