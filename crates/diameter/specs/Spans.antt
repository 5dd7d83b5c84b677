-- What the code reads from the header of the AVP at the front.
--     Reads s xs   s says what the header at the front of xs says, and where its data begin and end
use Rattle.std.specs.Prelude.{◌≡◌, ℕ, ◌<◌, ◌≤◌, true, List, length}
use Rattle.diameter.specs.Avps as avp
use Rattle.diameter.specs.declared.avp.Span.{Span}

pub record Reads (s : Span) (xs : List ℕ) : Type 0 where
  pub there : avp.stands xs ≡ true
  pub code : s.code ≡ avp.code xs
  pub vendor : s.vendor ≡ avp.vendor xs
  pub flags : s.flags ≡ avp.flags xs
  pub start : s.start ≡ avp.header xs
  pub end : s.end ≡ avp.size xs
  pub next : s.next ≡ avp.step xs
  pub some : 0 < s.next
  pub inside : s.next ≤ length xs
  pub covers : s.start ≤ s.end
  pub ends : s.end ≤ s.next
