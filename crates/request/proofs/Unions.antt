-- The union of the numbers that AVPs carry, one AVP at a time, and what its members are.
use Rattle.std.proofs.Common.{◌≡◌, ℕ, Bool, true, false, cond, ◌&&◌, ◌||◌, List, [], ◌∷◌, Some, None, Option, sym, refl, ap, ◌∙◌}
use lib.Bits.{bit_or}
use Rattle.std.proofs.Math.Bool.{or_assoc, or-false}
use Rattle.fieldset.specs.Sets.{has}
use Rattle.fieldset.proofs.Laws.{has_or}
use Rattle.diameter.specs.Lists.{Avp}
use Rattle.dictionary.specs.Numbers.{word}
use Rattle.request.specs.Faults.{is}
use Rattle.request.specs.Readings.{union, adds, bit_of}
use Rattle.request.specs.Laws.{carried_by_some, means}
use Rattle.dictionary.specs.declared.known.Known.{Known}
use Rattle.request.proofs.Members.{has_power, has_nothing}

pub union_more : (carrier : Known) (meaning : ℕ → Option ℕ) (bits : ℕ) (a : Avp) (later : List Avp) → union carrier meaning bits (a ∷ later) ≡ union carrier meaning (bit_or bits (adds carrier meaning a)) later
unfolding union
union_more carrier meaning bits a later = refl

pub union_all : (carrier : Known) (meaning : ℕ → Option ℕ) (bits : ℕ) → union carrier meaning bits [] ≡ bits
unfolding union
union_all carrier meaning bits = refl

bit_member : (o : Option ℕ) (k : ℕ) → has (bit_of o) k ≡ means o k
bit_member None k = has_nothing k
bit_member (Some n) k = has_power n k

-- what one AVP adds has the member k exactly when it carries k
added : (b : Bool) (o : Option ℕ) (k : ℕ) → has (cond b (bit_of o) 0) k ≡ (b && means o k)
added true o k = bit_member o k
added false o k = has_nothing k

members_from : (carrier : Known) (meaning : ℕ → Option ℕ) (bits : ℕ) (l : List Avp) (k : ℕ) → has (union carrier meaning bits l) k ≡ (has bits k || carried_by_some carrier meaning k l)
members_from carrier meaning bits [] k = ap (λ (n : ℕ). has n k) (union_all carrier meaning bits) ∙ sym (or-false (has bits k))
members_from carrier meaning bits (a ∷ later) k =
    ap (λ (n : ℕ). has n k) (union_more carrier meaning bits a later)
    ∙ members_from carrier meaning (bit_or bits (adds carrier meaning a)) later k
    ∙ ap (λ (b : Bool). b || carried_by_some carrier meaning k later) (has_or bits (adds carrier meaning a) k)
    ∙ or_assoc (has bits k) (has (adds carrier meaning a) k) (carried_by_some carrier meaning k later)
    ∙ ap (λ (b : Bool). has bits k || (b || carried_by_some carrier meaning k later)) (added (is carrier a) (meaning (word a.payload)) k)

pub members : (carrier : Known) (meaning : ℕ → Option ℕ) (l : List Avp) (k : ℕ) → has (union carrier meaning 0 l) k ≡ carried_by_some carrier meaning k l
members carrier meaning l k = members_from carrier meaning 0 l k ∙ ap (λ (b : Bool). b || carried_by_some carrier meaning k l) (has_nothing k)
