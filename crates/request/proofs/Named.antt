-- The known AVPs by their names.
use Rattle.std.proofs.Common.{◌≡◌, ℕ, Bool, false, ◌&&◌, eqb, Some, None, Option, arith}
use Rattle.std.proofs.lemmas.Bool.Decides.{nat_tests}
use Rattle.dictionary.specs.Names.{known, code, vendor, index}
use Rattle.dictionary.specs.declared.known.Known.{Known}
use Rattle.dictionary.specs.declared.known.Known.TheVariants.{UserName, FramedIpAddress, VendorSpecificApplicationId, SessionId, OriginHost, AuthSessionState, RouteRecord, DestinationRealm, ProxyInfo, DestinationHost, OriginRealm, GloballyUniqueAddress, AddressRealm, RequestedInformation, EventType, AfApplicationIdentifier, SubsReqType, ExpiryTime}

-- an AVP has the name of k exactly when k is what it is known as
abbrev pub same_kind : Option Known → Known → Bool
same_kind None k = false
same_kind (Some j) k = eqb (index k) (index j)

pub is_kind : (c v : ℕ) (k : Known) → (eqb c (code k) && eqb v (vendor k)) ≡ same_kind (known c v) k
is_kind c v UserName = grind (arith, nat_tests)
is_kind c v FramedIpAddress = grind (arith, nat_tests)
is_kind c v VendorSpecificApplicationId = grind (arith, nat_tests)
is_kind c v SessionId = grind (arith, nat_tests)
is_kind c v OriginHost = grind (arith, nat_tests)
is_kind c v AuthSessionState = grind (arith, nat_tests)
is_kind c v RouteRecord = grind (arith, nat_tests)
is_kind c v DestinationRealm = grind (arith, nat_tests)
is_kind c v ProxyInfo = grind (arith, nat_tests)
is_kind c v DestinationHost = grind (arith, nat_tests)
is_kind c v OriginRealm = grind (arith, nat_tests)
is_kind c v GloballyUniqueAddress = grind (arith, nat_tests)
is_kind c v AddressRealm = grind (arith, nat_tests)
is_kind c v RequestedInformation = grind (arith, nat_tests)
is_kind c v EventType = grind (arith, nat_tests)
is_kind c v AfApplicationIdentifier = grind (arith, nat_tests)
is_kind c v SubsReqType = grind (arith, nat_tests)
is_kind c v ExpiryTime = grind (arith, nat_tests)
