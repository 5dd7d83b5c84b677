-- The first AVP of a list that is not there, as the first row of the table that does not hold.
use Rattle.std.proofs.Common.{◌≡◌, Bool, true, false, cond, not, List, [], ◌∷◌, Some, Option, refl, ap, ◌∙◌}
use Rattle.std.specs.List.{find}
use Rattle.std.specs.Option.{option_or}
use Rattle.dictionary.specs.declared.known.Known.{Known}
use Rattle.request.specs.Faults.{lacking}

-- the rows of these AVPs, and more
abbrev pub rows : List Known → (Known → Bool) → List (Known × Bool) → List (Known × Bool)
rows [] here more = more
rows (k ∷ ks) here more = (k, here k) ∷ rows ks here more

turn : (b : Bool) (k : Known) (found later : Option Known) → option_or (cond (not b) (Some k) found) later ≡ cond b (option_or found later) (Some k)
turn true k found later = refl
turn false k found later = refl

pub lacking_rows : (here : Known → Bool) (more : List (Known × Bool)) (ks : List Known) → option_or (find (λ k. not (here k)) ks) (lacking more) ≡ lacking (rows ks here more)
lacking_rows here more [] = refl
lacking_rows here more (k ∷ ks) =
    turn (here k) k (find (λ j. not (here j)) ks) (lacking more) ∙ ap (λ o. cond (here k) o (Some k)) (lacking_rows here more ks)
