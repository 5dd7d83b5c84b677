-- Whether the data of a known AVP are such as it may have.
--     fits after k xs    the data xs may stand in the AVP k; an Expiry-Time has to be later than `after`, where there is such a time
--     form after c v xs  how the AVP of code c, vendor v and data xs stands to the dictionary
use Rattle.std.specs.Prelude.{ℕ, Bool, true, cond, ◌&&◌, List, is_some, Some, None, Option, ◌==◌, nat_le, nat_lt}
use Rattle.dictionary.specs.Numbers.{word, field_of, event_of, time_of}
use Rattle.dictionary.specs.Addresses.{sized, address_in}
use Rattle.dictionary.specs.Names.{known}
use Rattle.dictionary.specs.declared.known.Known.{Known}
use Rattle.dictionary.specs.declared.known.Known.TheVariants.{UserName, FramedIpAddress, VendorSpecificApplicationId, SessionId, OriginHost, AuthSessionState, RouteRecord, DestinationRealm, ProxyInfo, DestinationHost, OriginRealm, GloballyUniqueAddress, AddressRealm, RequestedInformation, EventType, AfApplicationIdentifier, SubsReqType, ExpiryTime}
use Rattle.dictionary.specs.declared.form.Form.{Form}
use Rattle.dictionary.specs.declared.form.Form.TheVariants.{Unknown, Right, Wrong}

abbrev pub is_later : Option ℕ → ℕ → Bool
is_later None time = true
is_later (Some now) time = nat_lt now time

abbrev pub fits : Option ℕ → Known → List ℕ → Bool
fits after UserName xs = sized 1 64 xs
fits after FramedIpAddress xs = sized 4 4 xs
fits after VendorSpecificApplicationId xs = true
fits after SessionId xs = sized 1 128 xs
fits after OriginHost xs = sized 1 64 xs
fits after AuthSessionState xs = sized 4 4 xs && word xs == 1
fits after RouteRecord xs = sized 1 64 xs
fits after DestinationRealm xs = sized 1 64 xs
fits after ProxyInfo xs = true
fits after DestinationHost xs = sized 1 64 xs
fits after OriginRealm xs = sized 1 64 xs
fits after GloballyUniqueAddress xs = is_some (address_in xs)
fits after AddressRealm xs = sized 1 32 xs
fits after RequestedInformation xs = sized 4 4 xs && is_some (field_of (word xs))
fits after EventType xs = sized 4 4 xs && is_some (event_of (word xs))
fits after AfApplicationIdentifier xs = sized 1 64 xs
fits after SubsReqType xs = sized 4 4 xs && nat_le (word xs) 1
fits after ExpiryTime xs = sized 4 4 xs && is_later after (time_of (word xs))

abbrev pub formed : Option ℕ → Option Known → List ℕ → Form
formed after None xs = Unknown
formed after (Some k) xs = cond (fits after k xs) (Right k) (Wrong k)

abbrev pub form : Option ℕ → ℕ → ℕ → List ℕ → Form
form after c v xs = formed after (known c v) xs
