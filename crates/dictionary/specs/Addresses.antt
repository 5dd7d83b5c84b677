-- The address of a line, as a Globally-Unique-Address carries it.
--     Address          four bytes of an IP address, and the realm that it is unique in
--     address_in xs    the address in the data of the group: it is there when exactly one AVP directly inside is a Framed-IP-Address, of
--                      four bytes, and exactly one an Address-Realm, of 1 to 32 bytes; others are passed over
--     address_of v     the address that the code's view shows
use Rattle.std.specs.Prelude.{ℕ, Bool, cond, ◌&&◌, List, length, Some, None, Option, nat_le}
use Rattle.std.specs.Option.{option_map}
use Rattle.diameter.specs.Lists.{Avp, avps, only_such, named}
use Rattle.dictionary.specs.declared.address.AddressView.{AddressView}

pub record Address : Type 0 where
  pub ip : List ℕ
  pub realm : List ℕ

abbrev pub sized : ℕ → ℕ → List ℕ → Bool
sized least most xs = nat_le least (length xs) && nat_le (length xs) most

abbrev pub paired : Option Avp → Option Avp → Option Address
paired None realm = None
paired (Some ip) None = None
paired (Some ip) (Some realm) =
    cond (sized 4 4 ip.payload && sized 1 32 realm.payload) (Some (record { ip = ip.payload; realm = realm.payload })) None

abbrev pub address_in : List ℕ → Option Address
address_in xs = paired (only_such (named 8 0) (avps xs)) (only_such (named 301 13019) (avps xs))

abbrev pub address_of : AddressView → Address
address_of v = record { ip = v.ip.now; realm = v.realm.now }

abbrev pub address_found : Option AddressView → Option Address
address_found r = option_map address_of r
