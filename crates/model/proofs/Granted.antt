-- What an accepted request asks, and which session it is about.
use Rattle.std.proofs.Common.{◌≡◌, ℕ, suc, ◌+◌, ◌<◌, Bool, true, false, cond, eqb, leb, List, [], ◌∷◌, length, Some, None, Ok, Err, filter, Option, Result, sym, refl, ap, ◌∙◌, subst, arith}
use Rattle.std.specs.Str.{bytes_eq}
use Rattle.std.proofs.lemmas.Bool.{false≢true, true≢false, and_parts, and_from, eqb-true, eq-eqb, le-leb}
use Rattle.refusal.specs.declared.Refusal.{Refusal}
use Rattle.refusal.specs.declared.Refusal.TheVariants.{UnknownAf, ShortBuffer, WrongSize, NotRequest, WrongVersion, WrongApplication, WrongCommand, Unsound, UnsupportedAvp, RepeatedAvp, MissingAvp, WrongAvp, WrongAf, AmbiguousUser, NoSession, NothingToShow, NoPlace, WrongArgument, AddressTaken, NoRoom, NoSuchAddress, UnsoundValue, NoticeOut, NothingWaiting, WrongSlip, WrongAfCount, WrongName, WrongRow, WrongOpening}
use Rattle.refusal.specs.Refusals.{number}
use Rattle.refusal.specs.Verdicts.{judged}
use Rattle.diameter.specs.Headers.{body}
use Rattle.diameter.specs.Lists.{Avp, avps}
use Rattle.dictionary.specs.Addresses.{Address}
use Rattle.e2.specs.Checks.{checked, refusals, command_of}
use Rattle.e2.specs.declared.Command.{Command}
use Rattle.request.specs.Askings.{Subject, at_address, of_user, Asking, Rejected}
use Rattle.request.specs.Readings.{reading, after_check, unless_refused, first_fault, faults, asking}
use Rattle.model.specs.Values.{Sets, Session, Opening, same_address, lives_at, is_named, entries}
use Rattle.model.specs.Ledger.{address_named, address_meant}
use Rattle.model.specs.Steps.{Af, plainly, and_then, door_refusals, name_of, heard, judged_asking, ask_verdict, fitting, about, is_empty, ambiguous, nothing_to_show, no_place}
use Rattle.model.proofs.Veil.{by}
use Rattle.model.proofs.Agrees.{total, SameEntries}

pub counted_from_one : (r : Refusal) → eqb (number r) 0 ≡ false
counted_from_one UnknownAf = refl
counted_from_one ShortBuffer = refl
counted_from_one WrongSize = refl
counted_from_one NotRequest = refl
counted_from_one WrongVersion = refl
counted_from_one WrongApplication = refl
counted_from_one WrongCommand = refl
counted_from_one Unsound = refl
counted_from_one UnsupportedAvp = refl
counted_from_one RepeatedAvp = refl
counted_from_one MissingAvp = refl
counted_from_one WrongAvp = refl
counted_from_one WrongAf = refl
counted_from_one AmbiguousUser = refl
counted_from_one NoSession = refl
counted_from_one NothingToShow = refl
counted_from_one NoPlace = refl
counted_from_one WrongArgument = refl
counted_from_one AddressTaken = refl
counted_from_one NoRoom = refl
counted_from_one NoSuchAddress = refl
counted_from_one UnsoundValue = refl
counted_from_one NoticeOut = refl
counted_from_one NothingWaiting = refl
counted_from_one WrongSlip = refl
counted_from_one WrongAfCount = refl
counted_from_one WrongName = refl
counted_from_one WrongRow = refl
counted_from_one WrongOpening = refl

-- ---- results

err_ok : {A E : Type 0} {e : E} {x : A} → ◌≡◌ {A = Result A E} (Err e) (Ok x) → ⊥
err_ok {A} {E} h = subst tell h tt
  where
    tell : Result A E → Type 0
    tell (Ok x) = ⊥
    tell (Err e) = Unit {0}

abbrev value_or : {A E : Type 0} → A → Result A E → A
value_or d (Ok x) = x
value_or d (Err e) = d

ok_same : {A E : Type 0} {x y : A} → ◌≡◌ {A = Result A E} (Ok x) (Ok y) → x ≡ y
ok_same {x = x} h = ap (value_or x) h

passed : {A B E : Type 0} (u : Result A E) (f : A → Result B E) (q : B) → and_then u f ≡ Ok q → (x : A) × (u ≡ Ok x) × (f x ≡ Ok q)
passed (Ok x) f q h = (x, refl, h)
passed (Err e) f q h = absurd (err_ok h)

judged_ok : {A : Type 0} (table : List (Refusal × Bool)) (x y : A) → judged table x ≡ Ok y → x ≡ y
judged_ok [] x y h = ok_same h
judged_ok ((r, true) ∷ table) x y h = absurd (err_ok h)
judged_ok ((r, false) ∷ table) x y h = judged_ok table x y h

unrefused : (f : Option Rejected) (a q : Asking) → unless_refused f a ≡ Ok q → a ≡ q
unrefused None a q h = ok_same h
unrefused (Some e) a q h = absurd (err_ok h)

checked_asks : (u : Result Command Refusal) (name : List ℕ) (now : ℕ) (l : List Avp) (q : Asking) → after_check u name now l ≡ Ok q → (c : Command) × (u ≡ Ok c) × (asking c l ≡ q)
checked_asks (Ok c) name now l q h = (c, refl, unrefused (first_fault (faults c name now l)) (asking c l) q h)
checked_asks (Err e) name now l q h = absurd (err_ok h)

read_asks : (m name : List ℕ) (now : ℕ) (q : Asking) → reading m name now ≡ Ok q → asking (command_of m) (avps (body m)) ≡ q
read_asks m name now q h =
    let k = checked_asks (checked m) name now (avps (body m)) q h in
    ap (λ c. asking c (avps (body m))) (judged_ok (refusals m) (command_of m) k.0 k.1) ∙ k.2

four : (b c d e : Bool) (p q : Asking) → plainly (judged ((AmbiguousUser, b) ∷ (NoSession, c) ∷ (NothingToShow, d) ∷ (NoPlace, e) ∷ []) p) ≡ Ok q → (p ≡ q) × (b ≡ false) × (c ≡ false) × (e ≡ false)
four true c d e p q h = absurd (err_ok h)
four false true d e p q h = absurd (err_ok h)
four false false true e p q h = absurd (err_ok h)
four false false false true p q h = absurd (err_ok h)
four false false false false p q h = (ok_same h, refl, refl, refl)

pub record Granted (ps : List (Option Session)) (x : Af) (m : List ℕ) (q : Asking) : Type 0 where
  pub asks : asking (command_of m) (avps (body m)) ≡ q
  pub plain : ambiguous q.subject (fitting q.subject ps) ≡ false
  pub found : is_empty (fitting q.subject ps) ≡ false
  pub place : no_place q.asked (about (fitting q.subject ps)).address x.subs ≡ false

pub granted : (o : Opening) (r : Sets) (a now : ℕ) (ps : List (Option Session)) (x : Af) (room : ℕ) (m : List ℕ) (q : Asking) → ask_verdict o r a now ps x room m ≡ Ok q → Granted ps x m q
granted o r a now ps x room m q h =
    let one = passed (heard o a now room m) (judged_asking r ps x) q h in
    let p = one.0 in
    let l = fitting p.subject ps in
    let two = passed {A = ℕ} (plainly (judged (door_refusals o a room) 0)) (λ _. reading m (name_of o a) now) p one.1 in
    let f = four (ambiguous p.subject l) (is_empty l) (nothing_to_show r p.asked (about l)) (no_place p.asked (about l).address x.subs) p q one.2 in
    subst (Granted ps x m) f.0 (record { asks = read_asks m (name_of o a) now p two.2; plain = f.1; found = f.2; place = f.3 })

-- ---- addresses

same_true : (xs ys : List ℕ) → bytes_eq xs ys ≡ true → xs ≡ ys
same_true [] [] h = refl
same_true [] (y ∷ ys) h = absurd (false≢true h)
same_true (x ∷ xs) [] h = absurd (false≢true h)
same_true (x ∷ xs) (y ∷ ys) h =
    let both = and_parts (eqb x y) (bytes_eq xs ys) h in
    λ i. eqb-true x y both.0 i ∷ same_true xs ys both.1 i

same_self : (xs : List ℕ) → bytes_eq xs xs ≡ true
same_self [] = refl
same_self (x ∷ xs) = and_from (eqb x x) (bytes_eq xs xs) (eq-eqb x x refl) (same_self xs)

address_true : (p q : Address) → same_address p q ≡ true → p ≡ q
address_true p q h =
    let both = and_parts (bytes_eq p.ip q.ip) (bytes_eq p.realm q.realm) h in
    λ i. record { ip = same_true p.ip q.ip both.0 i; realm = same_true p.realm q.realm both.1 i }

address_self : (p : Address) → same_address p p ≡ true
address_self p = and_from (bytes_eq p.ip p.ip) (bytes_eq p.realm p.realm) (same_self p.ip) (same_self p.realm)

-- ---- the session that is meant

kept_total : (p : Session → Bool) (g : Session → ℕ) (l : List Session) → total (λ e. cond (p e) (g e) 0) l ≡ total g (filter p l)
kept_total p g [] = refl
kept_total p g (e ∷ l) =
    let ih = kept_total p g l in
    by (p e) (λ b. cond b (g e) 0 + total (λ e. cond (p e) (g e) 0) l ≡ total g (cond b (e ∷ filter p l) (filter p l))) (λ _. ap (λ n. g e + n) ih) (λ _. omega (arith, ih))

-- 1 where the address is another
abbrev apart : Address → Session → ℕ
apart q e = cond (same_address e.address q) 0 1

named_there : (name : List ℕ) (q : Address) (l : List Session) → 0 < total (λ e. cond (is_named name e) 1 0) l → total (λ e. cond (is_named name e) (apart q e) 0) l ≡ 0 → same_address (address_named name l) q ≡ true
named_there name q [] h g = absurd (none h)
  where
    none : 0 < 0 → ⊥
    none h = omega (arith, h)
named_there name q (e ∷ l) h g =
    by (is_named name e) (λ b. 0 < cond b 1 0 + total (λ e. cond (is_named name e) 1 0) l → cond b (apart q e) 0 + total (λ e. cond (is_named name e) (apart q e) 0) l ≡ 0 → same_address (cond b e.address (address_named name l)) q ≡ true)
    (λ _ h g. alone (same_address e.address q) (total (λ e. cond (is_named name e) (apart q e) 0) l) g)
    (λ _ h g. named_there name q l (omega (arith, h)) (omega (arith, g))) h g
  where
    alone : (b : Bool) (n : ℕ) → cond b 0 1 + n ≡ 0 → b ≡ true
    alone true n h = refl
    alone false n h = absurd (never n h)
      where
        never : (n : ℕ) → 1 + n ≡ 0 → ⊥
        never n h = omega (arith, h)

only_named : (name : List ℕ) (l : List Session) (ps : List (Option Session)) (found : List Session) → filter (is_named name) (entries ps) ≡ found → leb 2 (length found) ≡ false → is_empty found ≡ false → SameEntries l ps → address_named name l ≡ (about found).address
only_named name l ps [] k m e h = absurd (true≢false e)
only_named name l ps (s ∷ t ∷ found) k m e h = absurd (several (length found) m)
  where
    several : (n : ℕ) → leb 2 (suc (suc n)) ≡ false → ⊥
    several n h = true≢false (sym (le-leb 2 (suc (suc n)) (omega arith)) ∙ h)
only_named name l ps (s ∷ []) k m e h =
    let q = s.address in
    let ones : total (λ e. cond (is_named name e) 1 0) l ≡ 1 = h (λ e. cond (is_named name e) 1 0) ∙ kept_total (is_named name) (λ e. 1) (entries ps) ∙ ap (total (λ e. 1)) k in
    let others : total (λ e. cond (is_named name e) (apart q e) 0) l ≡ 0 =
    h (λ e. cond (is_named name e) (apart q e) 0) ∙ kept_total (is_named name) (apart q) (entries ps) ∙ ap (total (apart q)) k ∙ ap (λ b. cond b 0 1 + 0) (address_self q)
    in
    address_true (address_named name l) q (named_there name q l (omega (arith, ones)) others)

first_fits : (p : Session → Bool) (l : List Session) → is_empty (filter p l) ≡ false → p (about (filter p l)) ≡ true
first_fits p [] h = absurd (true≢false h)
first_fits p (e ∷ l) h =
    by (p e) (λ b. p e ≡ b → is_empty (cond b (e ∷ filter p l) (filter p l)) ≡ false → p (about (cond b (e ∷ filter p l) (filter p l))) ≡ true) (λ _ t g. t) (λ _ t g. first_fits p l g) refl h

pub meant : (q : Subject) (l : List Session) (ps : List (Option Session)) → ambiguous q (fitting q ps) ≡ false → is_empty (fitting q ps) ≡ false → SameEntries l ps → address_meant q l ≡ (about (fitting q ps)).address
meant (at_address q) l ps m e h = sym (address_true (about (fitting (at_address q) ps)).address q (first_fits (lives_at q) (entries ps) e))
meant (of_user name) l ps m e h = only_named name l ps (fitting (of_user name) ps) refl m e h
