-- What the code's borrowed views mean.
--     avp_of v           the AVP that the view v shows
--     found r            the same of an optional view
--     Splits v rest xs   v shows the AVP at the front of xs, and rest is what follows it
--     TakesFirst r rest xs   r is the AVP at the front of xs and rest what follows it, or none where no AVP stands, and rest is xs
use Rattle.std.specs.Prelude.{◌≡◌, ℕ, ◌<◌, true, false, List, length, drop, Option, MatchOption}
use Rattle.std.specs.Option.{option_map}
use Rattle.diameter.specs.Avps.{stands, step}
use Rattle.diameter.specs.Lists.{Avp, front}
use Rattle.diameter.specs.declared.avp.AvpView.{AvpView}

abbrev pub avp_of : AvpView → Avp
avp_of v = record { code = v.code; vendor = v.vendor; flags = v.flags; payload = v.payload.now; octets = v.octets.now }

abbrev pub found : Option AvpView → Option Avp
found r = option_map avp_of r

pub record Splits (v : AvpView) (rest xs : List ℕ) : Type 0 where
  pub there : stands xs ≡ true
  pub view : avp_of v ≡ front xs
  pub rest_is : rest ≡ drop (step xs) xs
  pub shorter : length rest < length xs

abbrev pub TakesFirst : Option AvpView → List ℕ → List ℕ → Type 0
TakesFirst r rest xs = MatchOption r ((stands xs ≡ false) × (rest ≡ xs)) (λ v. Splits v rest xs)
