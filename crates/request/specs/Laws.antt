-- What is promised of a request above its definitions.
--     carries carrier meaning k a          the AVP a is named as `carrier`, and its number stands for k, as `meaning` says
--     carried_by_some carrier meaning k l  one of the AVPs l is such
use Rattle.std.specs.Prelude.{◌≡◌, ℕ, Bool, false, ◌&&◌, ◌||◌, List, [], ◌∷◌, Some, None, Option, ◌==◌}
use Rattle.fieldset.specs.Sets.{has}
use Rattle.diameter.specs.Lists.{Avp}
use Rattle.dictionary.specs.Numbers.{word}
use Rattle.request.specs.Faults.{is}
use Rattle.dictionary.specs.declared.known.Known.{Known}
use Rattle.request.specs.Readings.{union}

abbrev pub means : Option ℕ → ℕ → Bool
means None k = false
means (Some n) k = k == n

abbrev pub carries : Known → (ℕ → Option ℕ) → ℕ → Avp → Bool
carries carrier meaning k a = is carrier a && means (meaning (word a.payload)) k

abbrev pub carried_by_some : Known → (ℕ → Option ℕ) → ℕ → List Avp → Bool
carried_by_some carrier meaning k [] = false
carried_by_some carrier meaning k (a ∷ later) = carries carrier meaning k a || carried_by_some carrier meaning k later

-- a set, of fields, of events or of whatever numbers stand for, holds exactly the numbers that the AVPs carry
abbrev pub UnionOfAll : Type 0
UnionOfAll =
    (carrier : Known) (meaning : ℕ → Option ℕ) (l : List Avp) (k : ℕ) → has (union carrier meaning 0 l) k ≡ carried_by_some carrier meaning k l
