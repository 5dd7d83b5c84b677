-- The AVPs of a sequence, as a list of values.
--     front xs          the AVP at the front of xs
--     avps xs           the AVPs of xs, one after the other, up to the end or to the first place where none stands
--     first_such p l    the first AVP that passes the test p
--     count_such p l    how many pass it
--     only_such p l     the one that passes it, where there is exactly one
--     named c v         the test for code c and vendor v
use Rattle.std.specs.Prelude.{ℕ, zero, suc, ◌-◌, Bool, cond, ◌&&◌, List, [], ◌∷◌, take, count_by, None, Option, ◌==◌}
use Rattle.std.specs.List.{find}
use Rattle.diameter.specs.Avps as at_front

-- the octets are those of the whole AVP, from its header to its padding
pub record Avp : Type 0 where
  pub code : ℕ
  pub vendor : ℕ
  pub flags : ℕ
  pub payload : List ℕ
  pub octets : List ℕ

abbrev pub front : List ℕ → Avp
front xs =
    record {
      code = at_front.code xs;
      vendor = at_front.vendor xs;
      flags = at_front.flags xs;
      payload = at_front.payload xs;
      octets = take (at_front.step xs) xs;
    }

-- k bytes of the AVP before are still to pass over
unfoldable pub cut : ℕ → List ℕ → List Avp
cut k [] = []
cut (suc k) (x ∷ xs) = cut k xs
cut zero (x ∷ xs) = cond (at_front.stands (x ∷ xs)) (front (x ∷ xs) ∷ cut (at_front.step (x ∷ xs) - 1) xs) []

abbrev pub avps : List ℕ → List Avp
avps xs = cut 0 xs

abbrev pub first_such : (Avp → Bool) → List Avp → Option Avp
first_such p l = find p l

abbrev pub count_such : (Avp → Bool) → List Avp → ℕ
count_such p l = count_by p l

abbrev pub only_such : (Avp → Bool) → List Avp → Option Avp
only_such p l = cond (count_such p l == 1) (first_such p l) None

abbrev pub named : ℕ → ℕ → Avp → Bool
named c v a = a.code == c && a.vendor == v
