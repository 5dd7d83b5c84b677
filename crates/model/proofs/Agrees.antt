-- The ledger has the sessions that the places have.
use Rattle.std.proofs.Common.{◌≡◌, ℕ, zero, suc, ◌+◌, ◌^◌, Bool, true, false, cond, not, ◌&&◌, ◌||◌, eqb, ltb, leb, List, [], ◌∷◌, ◌++◌, get_or, set, replicate, is_some, Some, None, Option, sym, refl, ap, ◌∙◌, arith}
use Rattle.std.specs.Option.{option_map}
use Rattle.std.proofs.lemmas.Bool.{false≢true, true≢false, not-false, lt-ltb}
use Rattle.refusal.specs.declared.Refusal.TheVariants.{WrongArgument, AddressTaken, NoRoom}
use Rattle.model.specs.Values.{Sets, Book, Notice, Opening, Call, Arrive, Set, Leave, Clock, Ask, Take, Settle, Tell, refused, fresh, with_value, some, entries}
use Rattle.model.specs.Places.{is_taken, free_place, has_room, put_at, placed, altered}
use Rattle.model.specs.Ledger.{Ledger, through, kept_if, entered, set_in, not_at, on_ask, on_settle, with_settled, loses}
use Rattle.model.specs.Steps.{State, accepts, wrong_address, wrong_name, wrong_set, in_use, arrive_refusals, set_refusals, leave_refusals, at_address_only, sessions_after, reply}
use Rattle.model.proofs.Veil.{by}

-- ---- the laws of the free place

-- a place that is chosen is within, and it is free
abbrev pub Chosen : List Bool → Option ℕ → Type 0
Chosen marks None = Unit {0}
Chosen marks (Some i) = get_or marks i true ≡ false

behind : (marks : List Bool) (m : Option ℕ) → Chosen marks m → Chosen (true ∷ marks) (option_map suc m)
behind marks None h = h
behind marks (Some i) h = h

pub chosen : (marks : List Bool) → Chosen marks (free_place marks)
unfolding free_place
chosen [] = tt
chosen (true ∷ marks) = behind marks (free_place marks) (chosen marks)
chosen (false ∷ marks) = refl

-- ---- sums over entries, which tell no order

abbrev pub total : {E : Type 0} → (E → ℕ) → List E → ℕ
total f [] = 0
total f (e ∷ l) = f e + total f l

abbrev worth : {E : Type 0} → (E → ℕ) → Option E → ℕ
worth f None = 0
worth f (Some e) = f e

abbrev pub SameEntries : {E : Type 0} → List E → List (Option E) → Type 0
SameEntries {E} l ps = (f : E → ℕ) → total f l ≡ total f (entries ps)

module _ {E : Type 0} (f : E → ℕ) where
  set_total : (ps : List (Option E)) (i : ℕ) (e : E) → get_or (is_taken ps) i true ≡ false → total f (entries (set ps i (Some e))) ≡ f e + total f (entries ps)
  set_total [] i e h = absurd (true≢false h)
  set_total (None ∷ ps) zero e h = refl
  set_total (Some x ∷ ps) zero e h = absurd (true≢false h)
  set_total (None ∷ ps) (suc i) e h = set_total ps i e h
  set_total (Some x ∷ ps) (suc i) e h = let ih = set_total ps i e h in omega (arith, ih)

  put_total : (ps : List (Option E)) (m : Option ℕ) (e : E) → Chosen (is_taken ps) m → is_some m ≡ true → total f (entries (put_at m e ps)) ≡ f e + total f (entries ps)
  put_total ps None e c h = absurd (false≢true h)
  put_total ps (Some i) e c h = set_total ps i e c

  pub placed_total : (ps : List (Option E)) (e : E) → has_room ps ≡ true → total f (entries (placed e ps)) ≡ f e + total f (entries ps)
  placed_total ps e h = put_total ps (free_place (is_taken ps)) e (chosen (is_taken ps)) h

  first_total : (o : Option E) (ps : List (Option E)) → total f (entries (o ∷ ps)) ≡ worth f o + total f (entries ps)
  first_total None ps = omega arith
  first_total (Some e) ps = refl

  pub altered_total : (g : E → Option E) (ps : List (Option E)) → total f (entries (altered g ps)) ≡ total (λ e. worth f (g e)) (entries ps)
  altered_total g [] = refl
  altered_total g (None ∷ ps) = altered_total g ps
  altered_total g (Some e ∷ ps) = first_total (g e) (altered g ps) ∙ ap (λ n. worth f (g e) + n) (altered_total g ps)

  kept_total : (o : Option E) (l : List E) → total f (kept_if o l) ≡ worth f o + total f l
  kept_total None l = omega arith
  kept_total (Some e) l = refl

  pub through_total : (g : E → Option E) (l : List E) → total f (through g l) ≡ total (λ e. worth f (g e)) l
  through_total g [] = refl
  through_total g (e ∷ l) = kept_total (g e) (through g l) ∙ ap (λ n. worth f (g e) + n) (through_total g l)

  pub append_total : (l : List E) (e : E) → total f (l ++ (e ∷ [])) ≡ f e + total f l
  append_total [] e = refl
  append_total (x ∷ l) e = let ih = append_total l e in omega (arith, ih)

-- the same change on both sides
pub same_altered : {E : Type 0} (g : E → Option E) (l : List E) (ps : List (Option E)) → SameEntries l ps → SameEntries (through g l) (altered g ps)
same_altered g l ps h f = through_total f g l ∙ h (λ e. worth f (g e)) ∙ sym (altered_total f g ps)

pub some_agrees : {E : Type 0} (p : E → Bool) (l : List E) (ps : List (Option E)) → SameEntries l ps → some p l ≡ some p (entries ps)
some_agrees {E} p l ps h = some_total l ∙ ap (ltb 0) (h (λ e. cond (p e) 1 0)) ∙ sym (some_total (entries ps))
  where
    step : (b c : Bool) (n : ℕ) → c ≡ ltb 0 n → (b || c) ≡ ltb 0 (cond b 1 0 + n)
    step true c n e = sym (lt-ltb 0 (1 + n) (omega arith))
    step false c n e = e ∙ ap (ltb 0) (zero_add' n)
      where
        zero_add' : (n : ℕ) → n ≡ 0 + n
        zero_add' n = omega arith

    some_total : (l : List E) → some p l ≡ ltb 0 (total (λ e. cond (p e) 1 0) l)
    some_total [] = refl
    some_total (e ∷ l) = step (p e) (some p l) (total (λ e. cond (p e) 1 0) l) (some_total l)

-- ---- calls

-- an accepted arrival finds room
pub room_there : (b c d : Bool) → accepts ((WrongArgument, b) ∷ (AddressTaken, c) ∷ (NoRoom, d) ∷ []) ≡ true → d ≡ false
room_there true c d h = absurd (false≢true h)
room_there false true d h = absurd (false≢true h)
room_there false false true h = absurd (false≢true h)
room_there false false false h = refl

settle_keeps : (n : ℕ) (line : List Notice) (l : Ledger) → (on_settle n line l).sessions ≡ l.sessions
settle_keeps n [] l = refl
settle_keeps n (x ∷ line) l =
    by (eqb n 0) (λ b. (cond b (with_settled l.subs line (l.acknowledged + 1) l.given_up l) (cond (leb 3 (x.misses + 1)) (with_settled (through (loses x.address (2 ^ x.event)) l.subs) line l.acknowledged (l.given_up + 1) l) (with_settled l.subs (record { address = x.address; event = x.event; value = x.value; misses = x.misses + 1 } ∷ line) l.acknowledged l.given_up l))).sessions ≡ l.sessions)
    (λ _. refl)
    (λ _. by (leb 3 (x.misses + 1)) (λ b. (cond b (with_settled (through (loses x.address (2 ^ x.event)) l.subs) line l.acknowledged (l.given_up + 1) l) (with_settled l.subs (record { address = x.address; event = x.event; value = x.value; misses = x.misses + 1 } ∷ line) l.acknowledged l.given_up l)).sessions ≡ l.sessions) (λ _. refl) (λ _. refl))

pub agrees_after : (o : Opening) (R : Book) (r : Sets) (a : ℕ) (s : State) (l : Ledger) (c : Call) → SameEntries l.sessions s.sessions → SameEntries (entered r a l c (refused (reply o R s c))).sessions (sessions_after s.sessions c)
agrees_after o R r a s l (Arrive q name w) h =
    let ps = s.sessions in
    by (accepts (arrive_refusals q name w ps)) (λ b. accepts (arrive_refusals q name w ps) ≡ b → SameEntries (entered r a l (Arrive q name w) (not b)).sessions (cond b (placed (fresh q name w) ps) ps))
    (λ _ e f.
    let free = not-false (has_room ps) (room_there (wrong_address q || (wrong_name name || wrong_set w)) (in_use q ps) (not (has_room ps)) e) in
    append_total f l.sessions (fresh q name w) ∙ ap (λ n. f (fresh q name w) + n) (h f) ∙ sym (placed_total f ps (fresh q name w) free))
    (λ _ e. h) refl
agrees_after o R r a s l (Set q k v) h =
    let ps = s.sessions in
    by (accepts (set_refusals q k v ps)) (λ b. SameEntries (entered r a l (Set q k v) (not b)).sessions (cond b (altered (at_address_only q (λ s. Some (with_value k v s))) ps) ps))
    (λ _. same_altered (set_in q k v) l.sessions ps h)
    (λ _. h)
agrees_after o R r a s l (Leave q) h =
    let ps = s.sessions in
    by (accepts (leave_refusals q ps)) (λ b. SameEntries (entered r a l (Leave q) (not b)).sessions (cond b (altered (at_address_only q (λ s. None)) ps) ps))
    (λ _. same_altered (not_at q) l.sessions ps h)
    (λ _. h)
agrees_after o R r a s l (Clock n) h = h
agrees_after o R r a s l (Ask b room m) h =
    by (eqb b a && not (refused (reply o R s (Ask b room m)))) (λ t. SameEntries (cond t (on_ask m l) l).sessions s.sessions) (λ _. h) (λ _. h)
agrees_after o R r a s l (Take b room) h = h
agrees_after o R r a s l (Settle b serial n) h =
    by (eqb b a && not (refused (reply o R s (Settle b serial n)))) (λ t. SameEntries (cond t (on_settle n l.line l) l).sessions s.sessions)
    (λ _ f. ap (total f) (settle_keeps n l.line l) ∙ h f)
    (λ _. h)
agrees_after o R r a s l (Tell b) h = h

pub none_yet : {E : Type 0} (n : ℕ) → SameEntries {E = E} [] (replicate n None)
none_yet zero f = refl
none_yet (suc n) f = none_yet n f
