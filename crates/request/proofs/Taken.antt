-- One AVP taken from the AVPs of a request: what it says of the first AVP, of each fault and of which known AVPs are there.
use Rattle.std.proofs.Common.{◌≡◌, ℕ, ◌<◌, Bool, true, false, cond, ◌||◌, List, [], ◌∷◌, ◌++◌, length, is_some, Some, None, Option, sym, refl, ap, ◌∙◌, inl, inr, arith}
use Rattle.std.specs.Option.{option_or}
use Rattle.std.proofs.Math.Bool.{or_assoc, or-false}
use Rattle.std.proofs.lemmas.Bool.{cases_eq}
use Rattle.std.proofs.lemmas.Bool.Decides.{nat_tests}
use Rattle.std.proofs.lemmas.Grind.{get_or-set_at}
use Rattle.std.proofs.lemmas.List.{get_or-set_other}
use lib.ListN.{set}
use Rattle.diameter.specs.Lists.{Avp, avps, first_such}
use Rattle.diameter.specs.Views.{TakesFirst, found}
use Rattle.diameter.specs.declared.avp.AvpView.{AvpView}
use Rattle.diameter.proofs.Turns.{split_more, avps_stop}
use Rattle.dictionary.specs.Names.{index}
use Rattle.dictionary.specs.declared.known.Known.{Known}
use Rattle.dictionary.specs.declared.known.Known.TheVariants.{UserName, FramedIpAddress, VendorSpecificApplicationId, SessionId, OriginHost, AuthSessionState, RouteRecord, DestinationRealm, ProxyInfo, DestinationHost, OriginRealm, GloballyUniqueAddress, AddressRealm, RequestedInformation, EventType, AfApplicationIdentifier, SubsReqType, ExpiryTime}
use Rattle.request.specs.Faults.{first, kind, is, there, parts, with_parts, unsupported, stranger_by, stranger_in, stranger, also, again, repeated, wrong, misfit_by, misfit}
use Rattle.request.specs.Scans.{marked}
use Rattle.request.proofs.Named.{same_kind, is_kind}

pub first_taken : (r : Option AvpView) (rest xs : List ℕ) → TakesFirst r rest xs → found r ≡ first (avps xs)
first_taken None rest xs h = sym (ap first (avps_stop xs h.0))
first_taken (Some v) rest xs h = sym (ap first (split_more h))

-- a choice made before another search
cond_or : (b : Bool) (a : Avp) (x y : Option Avp) → option_or (cond b (Some a) x) y ≡ cond b (Some a) (option_or x y)
cond_or true a x y = refl
cond_or false a x y = refl

or_assoc_option : (x y z : Option Avp) → option_or (option_or x y) z ≡ option_or x (option_or y z)
or_assoc_option None y z = refl
or_assoc_option (Some a) y z = refl

pub or_none : (x : Option Avp) → x ≡ option_or x None
or_none None = refl
or_none (Some a) = refl

first_such_append : (p : Avp → Bool) (xs ys : List Avp) → first_such p (xs ++ ys) ≡ option_or (first_such p xs) (first_such p ys)
first_such_append p [] ys = refl
first_such_append p (x ∷ xs) ys = ap (cond (p x) (Some x)) (first_such_append p xs ys) ∙ sym (cond_or (p x) x (first_such p xs) (first_such p ys))

pub stranger_more : (a : Avp) (later : List Avp) → option_or (stranger_in a) (stranger later) ≡ stranger (a ∷ later)
unfolding with_parts
stranger_more a later =
    cond_or (unsupported a) a (first_such unsupported (parts a)) (first_such unsupported (with_parts later))
    ∙ ap (cond (unsupported a) (Some a)) (sym (first_such_append unsupported (parts a) (with_parts later)))

pub stranger_none : None ≡ stranger []
unfolding with_parts
stranger_none = refl

pub repeat_none : (seen : Known → Bool) → None ≡ repeated seen []
unfolding repeated
repeat_none seen = refl

pub marked_also : (seen : List Bool) (j k : Known) → index j < length seen → marked (set seen (index j) true) k ≡ also (Some j) (marked seen) k
marked_also seen j k within =
    elim (cases_eq (index k) (index j)) [
      | inl e ↦ (let h = get_or-set_at seen (index j) (index k) true false e within in grind (arith, nat_tests))
      | inr ne ↦ (let h = get_or-set_other seen (index j) (index k) true false ne in grind (arith, nat_tests))
    ]

also_is : (o : Option Known) (seen : Known → Bool) (k : Known) → also o seen k ≡ (seen k || same_kind o k)
also_is None seen k = sym (or-false (seen k))
also_is (Some j) seen k = refl

there_more : (b : Bool) (o : Option Avp) (a : Avp) → is_some (cond b (Some a) o) ≡ (b || is_some o)
there_more true o a = refl
there_more false o a = refl

-- no mark is set
abbrev pub unmarked : List Bool
unmarked =
    false ∷ false ∷ false ∷ false ∷ false ∷ false ∷ false ∷ false ∷ false ∷ false ∷ false ∷ false ∷ false ∷ false ∷ false ∷ false ∷ false ∷ false ∷ []

pub none_marked : (k : Known) → marked unmarked k ≡ false
none_marked UserName = refl
none_marked FramedIpAddress = refl
none_marked VendorSpecificApplicationId = refl
none_marked SessionId = refl
none_marked OriginHost = refl
none_marked AuthSessionState = refl
none_marked RouteRecord = refl
none_marked DestinationRealm = refl
none_marked ProxyInfo = refl
none_marked DestinationHost = refl
none_marked OriginRealm = refl
none_marked GloballyUniqueAddress = refl
none_marked AddressRealm = refl
none_marked RequestedInformation = refl
none_marked EventType = refl
none_marked AfApplicationIdentifier = refl
none_marked SubsReqType = refl
none_marked ExpiryTime = refl

-- the AVP a, known as o, stands before `later`
module _ (a : Avp) (later : List Avp) (o : Option Known) (e : o ≡ kind a) where
  pub stranger_step : stranger_by o a ≡ None → stranger later ≡ stranger (a ∷ later)
  stranger_step h = ap (λ x. option_or x (stranger later)) (sym h ∙ (λ i. stranger_by (e i) a)) ∙ stranger_more a later

  pub stranger_hit : (s : Avp) → stranger_by o a ≡ Some s → Some s ≡ stranger (a ∷ later)
  stranger_hit s h = ap (λ x. option_or x (stranger later)) (sym h ∙ (λ i. stranger_by (e i) a)) ∙ stranger_more a later

  pub repeat_step : (before : Option Avp) (seen next : List Bool) → ((k : Known) → marked next k ≡ also o (marked seen) k) → option_or (option_or before (cond (again o (marked seen)) (Some a) None)) (repeated (marked next) later) ≡ option_or before (repeated (marked seen) (a ∷ later))
  unfolding repeated
  repeat_step before seen next s =
      or_assoc_option before (cond (again o (marked seen)) (Some a) None) (repeated (marked next) later)
      ∙ ap (option_or before)
      (cond_or (again o (marked seen)) a None (repeated (marked next) later)
      ∙ (λ i. cond (again o (marked seen)) (Some a) (repeated (λ k. s k i) later))
      ∙ (λ i. cond (again (e i) (marked seen)) (Some a) (repeated (also (e i) (marked seen)) later)))

  pub misfit_step : (after : Option ℕ) (before : Option Avp) → option_or (option_or before (misfit_by after o a)) (misfit after later) ≡ option_or before (misfit after (a ∷ later))
  misfit_step after before =
      or_assoc_option before (misfit_by after o a) (misfit after later)
      ∙ ap (option_or before)
      ((λ i. option_or (misfit_by after (e i) a) (misfit after later)) ∙ cond_or (wrong after a) a None (misfit after later))

  pub seen_step : (seen next : List Bool) → ((k : Known) → marked next k ≡ also o (marked seen) k) → (k : Known) → (marked next k || there k later) ≡ (marked seen k || there k (a ∷ later))
  seen_step seen next s k =
      ap (λ (b : Bool). b || there k later) (s k ∙ also_is o (marked seen) k)
      ∙ or_assoc (marked seen k) (same_kind o k) (there k later)
      ∙ ap (λ (b : Bool). marked seen k || b)
      ((λ i. same_kind (e i) k || there k later)
      ∙ ap (λ (b : Bool). b || there k later) (sym (is_kind a.code a.vendor k))
      ∙ sym (there_more (is k a) (first_such (is k) later) a))

pub or_false : (b : Bool) → b ≡ (b || false)
or_false b = sym (or-false b)
