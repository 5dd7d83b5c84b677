-- The sessions with what lies outside a view taken out of them, and how the calls act on these.
use Rattle.std.proofs.Common.{◌≡◌, ℕ, zero, suc, Bool, true, false, cond, ◌&&◌, ◌||◌, List, [], ◌∷◌, map, get_or, set, is_some, Some, None, filter, Option, sym, refl, ap, ◌∙◌}
use Rattle.std.specs.Option.{option_map}
use Rattle.std.specs.Str.{bytes_eq}
use Rattle.std.proofs.lemmas.Bool.{or_parts}
use Rattle.fieldset.specs.Sets.{has}
use Rattle.rulebook.specs.Views.{view}
use Rattle.dictionary.specs.Addresses.{Address}
use Rattle.request.specs.Askings.{Subject, at_address, of_user}
use Rattle.model.specs.Values.{Sets, Session, value, lives_at, fits, in_view, with_value, some, entries}
use Rattle.model.specs.Places.{is_taken, free_place, has_room, put_at, placed, altered}
use Rattle.model.specs.Steps.{in_use, fitting, at_address_only}

-- what is true of both ways, with the test
pub by : (b : Bool) (P : Bool → Type 0) → (b ≡ true → P true) → (b ≡ false → P false) → P b
by true P h g = h refl
by false P h g = g refl

-- ---- values

abbrev seen : (ℕ → Bool) → List (List ℕ) → List (List ℕ)
seen p [] = []
seen p (v ∷ vs) = cond (p 0) v [] ∷ seen (λ i. p (suc i)) vs

twice : (b : Bool) (v : List ℕ) → cond b (cond b v []) [] ≡ cond b v []
twice true v = refl
twice false v = refl

seen_twice : (p : ℕ → Bool) (vs : List (List ℕ)) → seen p (seen p vs) ≡ seen p vs
seen_twice p [] = refl
seen_twice p (v ∷ vs) = λ i. twice (p 0) v i ∷ seen_twice (λ j. p (suc j)) vs i

seen_at : (p : ℕ → Bool) (vs : List (List ℕ)) (k : ℕ) → p k ≡ true → get_or (seen p vs) k [] ≡ get_or vs k []
seen_at p [] k h = refl
seen_at p (v ∷ vs) zero h = ap (λ b. cond b v []) h
seen_at p (v ∷ vs) (suc k) h = seen_at (λ j. p (suc j)) vs k h

seen_over : (p : ℕ → Bool) (vs : List (List ℕ)) (k : ℕ) (v : List ℕ) → seen p (set vs k v) ≡ seen p (set (seen p vs) k v)
seen_over p [] k v = refl
seen_over p (x ∷ vs) zero v = λ i. cond (p 0) v [] ∷ sym (seen_twice (λ j. p (suc j)) vs) i
seen_over p (x ∷ vs) (suc k) v = λ i. sym (twice (p 0) x) i ∷ seen_over (λ j. p (suc j)) vs k v i

seen_out : (p : ℕ → Bool) (vs : List (List ℕ)) (k : ℕ) (v : List ℕ) → p k ≡ false → seen p (set vs k v) ≡ seen p vs
seen_out p [] k v h = refl
seen_out p (x ∷ vs) zero v h = λ i. (ap (λ b. cond b v []) h ∙ sym (ap (λ b. cond b x []) h)) i ∷ seen (λ j. p (suc j)) vs
seen_out p (x ∷ vs) (suc k) v h = ap (λ l. cond (p 0) x [] ∷ l) (seen_out (λ j. p (suc j)) vs k v h)

-- the name is kept, for a request may name a user
abbrev keeps : Sets → ℕ → ℕ → Bool
keeps r w zero = true
keeps r w (suc k) = has (view r.allowed r.overriding w) (suc k)

keeps_seen : (r : Sets) (w k : ℕ) → has (view r.allowed r.overriding w) k ≡ true → keeps r w k ≡ true
keeps_seen r w zero h = refl
keeps_seen r w (suc k) h = h

abbrev pub veiled : Sets → Session → Session
veiled r s = record { address = s.address; withheld = s.withheld; fields = seen (keeps r s.withheld) s.fields }

abbrev pub veil : Sets → List (Option Session) → List (Option Session)
veil r ps = map (option_map (veiled r)) ps

-- ---- lists

pub some_map : {E : Type 0} (h : E → E) (p : E → Bool) → ((e : E) → p (h e) ≡ p e) → (l : List E) → some p (map h l) ≡ some p l
some_map h p g [] = refl
some_map h p g (e ∷ l) = λ i. g e i || some_map h p g l i

pub kept_map : {E : Type 0} (h : E → E) (p : E → Bool) → ((e : E) → p (h e) ≡ p e) → (l : List E) → filter p (map h l) ≡ map h (filter p l)
kept_map h p g [] = refl
kept_map h p g (e ∷ l) =
    (λ i. cond (g e i) (h e ∷ kept_map h p g l i) (kept_map h p g l i))
    ∙ by (p e) (λ b. cond b (h e ∷ map h (filter p l)) (map h (filter p l)) ≡ map h (cond b (e ∷ filter p l) (filter p l))) (λ _. refl) (λ _. refl)

pub entries_map : {E : Type 0} (h : E → E) (ps : List (Option E)) → entries (map (option_map h) ps) ≡ map h (entries ps)
entries_map h [] = refl
entries_map h (None ∷ ps) = entries_map h ps
entries_map h (Some e ∷ ps) = ap (λ l. h e ∷ l) (entries_map h ps)

taken_map : {E : Type 0} (h : E → E) (ps : List (Option E)) → is_taken (map (option_map h) ps) ≡ is_taken ps
taken_map h [] = refl
taken_map h (None ∷ ps) = ap (λ l. false ∷ l) (taken_map h ps)
taken_map h (Some e ∷ ps) = ap (λ l. true ∷ l) (taken_map h ps)

module _ (r : Sets) where
  pub value_veiled : (s : Session) (k : ℕ) → in_view r s k ≡ true → value (veiled r s) k ≡ value s k
  value_veiled s k h = seen_at (keeps r s.withheld) s.fields k (keeps_seen r s.withheld k h)

  fits_veiled : (q : Subject) (s : Session) → fits q (veiled r s) ≡ fits q s
  fits_veiled (at_address q) s = refl
  fits_veiled (of_user name) s = ap (λ v. bytes_eq v name) (seen_at (keeps r s.withheld) s.fields 0 refl)

  -- a test of what is in the view tells no difference
  pub seen_test : (s : Session) (k : ℕ) (p : List ℕ → Bool) → (in_view r s k && p (value (veiled r s) k)) ≡ (in_view r s k && p (value s k))
  seen_test s k p =
      by (in_view r s k) (λ b. in_view r s k ≡ b → (b && p (value (veiled r s) k)) ≡ (b && p (value s k))) (λ _ e. ap p (value_veiled s k e)) (λ _ e. refl) refl

  pub some_veil : (p : Session → Bool) → ((s : Session) → p (veiled r s) ≡ p s) → (ps : List (Option Session)) → some p (entries (veil r ps)) ≡ some p (entries ps)
  some_veil p g ps = ap (some p) (entries_map (veiled r) ps) ∙ some_map (veiled r) p g (entries ps)

  pub in_use_veil : (q : Address) (ps : List (Option Session)) → in_use q (veil r ps) ≡ in_use q ps
  in_use_veil q ps = some_veil (lives_at q) (λ s. refl) ps

  pub room_veil : (ps : List (Option Session)) → has_room (veil r ps) ≡ has_room ps
  room_veil ps = ap (λ l. is_some (free_place l)) (taken_map (veiled r) ps)

  pub fitting_veil : (q : Subject) (ps : List (Option Session)) → fitting q (veil r ps) ≡ map (veiled r) (fitting q ps)
  fitting_veil q ps = ap (filter (fits q)) (entries_map (veiled r) ps) ∙ kept_map (veiled r) (fits q) (fits_veiled q) (entries ps)

  veiled_twice : (s : Session) → veiled r (veiled r s) ≡ veiled r s
  veiled_twice s = λ i. record { address = s.address; withheld = s.withheld; fields = seen_twice (keeps r s.withheld) s.fields i }

  place_twice : (p : Option Session) → option_map (veiled r) (option_map (veiled r) p) ≡ option_map (veiled r) p
  place_twice None = refl
  place_twice (Some s) = ap Some (veiled_twice s)

  pub veil_twice : (ps : List (Option Session)) → veil r (veil r ps) ≡ veil r ps
  veil_twice [] = refl
  veil_twice (p ∷ ps) = λ i. place_twice p i ∷ veil_twice ps i

  set_veil : (ps : List (Option Session)) (i : ℕ) (e : Session) → veil r (set ps i (Some e)) ≡ veil r (set (veil r ps) i (Some e))
  set_veil [] i e = refl
  set_veil (p ∷ ps) zero e = λ j. Some (veiled r e) ∷ sym (veil_twice ps) j
  set_veil (p ∷ ps) (suc i) e = λ j. sym (place_twice p) j ∷ set_veil ps i e j

  put_veil : (m : Option ℕ) (e : Session) (ps : List (Option Session)) → veil r (put_at m e ps) ≡ veil r (put_at m e (veil r ps))
  put_veil None e ps = sym (veil_twice ps)
  put_veil (Some i) e ps = set_veil ps i e

  pub placed_veil : (e : Session) (ps : List (Option Session)) → veil r (placed e ps) ≡ veil r (placed e (veil r ps))
  placed_veil e ps = put_veil (free_place (is_taken ps)) e ps ∙ sym (λ i. veil r (put_at (free_place (taken_map (veiled r) ps i)) e (veil r ps)))

  pub altered_veil : (g : Session → Option Session) → ((s : Session) → option_map (veiled r) (g s) ≡ option_map (veiled r) (g (veiled r s))) → (ps : List (Option Session)) → veil r (altered g ps) ≡ veil r (altered g (veil r ps))
  altered_veil g h [] = refl
  altered_veil g h (None ∷ ps) = ap (λ l. None ∷ l) (altered_veil g h ps)
  altered_veil g h (Some s ∷ ps) = λ i. h s i ∷ altered_veil g h ps i

  pub set_one : (q : Address) (k : ℕ) (v : List ℕ) (s : Session) → option_map (veiled r) (at_address_only q (λ s. Some (with_value k v s)) s) ≡ option_map (veiled r) (at_address_only q (λ s. Some (with_value k v s)) (veiled r s))
  set_one q k v s =
      by (lives_at q s) (λ b. option_map (veiled r) (cond b (Some (with_value k v s)) (Some s)) ≡ option_map (veiled r) (cond b (Some (with_value k v (veiled r s))) (Some (veiled r s))))
      (λ _ i. Some (record { address = s.address; withheld = s.withheld; fields = seen_over (keeps r s.withheld) s.fields k v i }))
      (λ _. ap Some (sym (veiled_twice s)))

  pub leave_one : (q : Address) (s : Session) → option_map (veiled r) (at_address_only q (λ s. None) s) ≡ option_map (veiled r) (at_address_only q (λ s. None) (veiled r s))
  leave_one q s =
      by (lives_at q s) (λ b. option_map (veiled r) (cond b None (Some s)) ≡ option_map (veiled r) (cond b None (Some (veiled r s)))) (λ _. refl) (λ _. ap Some (sym (veiled_twice s)))

  -- a set outside the view leaves no trace
  pub set_hidden : (q : Address) (k : ℕ) (v : List ℕ) (ps : List (Option Session)) → some (λ s. lives_at q s && in_view r s (suc k)) (entries ps) ≡ false → veil r (altered (at_address_only q (λ s. Some (with_value (suc k) v s))) ps) ≡ veil r ps
  set_hidden q k v [] h = refl
  set_hidden q k v (None ∷ ps) h = ap (λ l. None ∷ l) (set_hidden q k v ps h)
  set_hidden q k v (Some s ∷ ps) h =
      let both = or_parts (lives_at q s && in_view r s (suc k)) (some (λ s. lives_at q s && in_view r s (suc k)) (entries ps)) h in
      let one : option_map (veiled r) (at_address_only q (λ s. Some (with_value (suc k) v s)) s) ≡ Some (veiled r s) =
      by (lives_at q s) (λ b. (b && in_view r s (suc k)) ≡ false → option_map (veiled r) (cond b (Some (with_value (suc k) v s)) (Some s)) ≡ Some (veiled r s))
      (λ _ e i. Some (record { address = s.address; withheld = s.withheld; fields = seen_out (keeps r s.withheld) s.fields (suc k) v e i }))
      (λ _ e. refl) both.0
      in
      λ i. one i ∷ set_hidden q k v ps both.1 i
