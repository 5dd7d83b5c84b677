-- What an AF is told is a function of what it sees and of the calls that are left for it.
use Rattle.std.proofs.Common.{◌≡◌, ℕ, zero, suc, Bool, true, false, cond, not, ◌&&◌, ◌||◌, eqb, ltb, List, [], ◌∷◌, ◌++◌, map, length, get_or, Some, None, Ok, Err, Option, Result, sym, refl, ap, ◌∙◌, arith}
use Rattle.std.specs.Str.{bytes_eq}
use Rattle.std.proofs.lemmas.Bool.{false≢true, not-true, or_parts, eqb-true}
use Rattle.std.proofs.lemmas.Bool.Decides.{nat_tests}
use Rattle.refusal.specs.declared.Refusal.TheVariants.{WrongArgument, AddressTaken, NoRoom, NoSuchAddress, UnsoundValue}
use Rattle.dictionary.specs.Addresses.{Address}
use Rattle.request.specs.Askings.{Asking, Rejected}
use Rattle.model.specs.Values.{Sets, Book, Session, Opening, Call, Arrive, Set, Leave, Clock, Ask, Take, Settle, Tell, Reply, Line, outcome, refused, lives_at, in_view, value, fresh, with_value, some, entries, holds}
use Rattle.model.specs.Places.{placed, altered}
use Rattle.model.specs.Ledger.{Ledger, blank, entered, struck, shows, left_from, left, is_own, own}
use Rattle.model.specs.Steps.{Af, State, new_af, opened, accepts, in_use, wrong_address, wrong_name, wrong_set, wrong_field, long_value, unsound_value, arrive_refusals, set_refusals, leave_refusals, at_address_only, sessions_after, now_after, af_after, af_asked, af_left, is_change, alters, notified, due_notice, and_then, heard, ask_verdict, is_subscription, recorded, subs_after, answered, reply_to, reply, each, after}
use Rattle.model.specs.Histories.{Leads, begun, next, Lived, transcript, Isolation}
use Rattle.model.proofs.Veil.{by, veiled, veil, seen_test, some_veil, in_use_veil, room_veil, placed_veil, altered_veil, set_one, leave_one, set_hidden, veil_twice}
use Rattle.model.proofs.Shown.{judged_veil, about_veil, answered_veil}
use Rattle.model.proofs.Agrees.{SameEntries, some_agrees, agrees_after, none_yet}

-- what a has: the time, the sessions as it sees them, and its own record
pub record Side : Type 0 where
  pub now : ℕ
  pub sessions : List (Option Session)
  pub af : Af

abbrev pub side : Sets → ℕ → State → Side
side r a s = record { now = s.now; sessions = veil r s.sessions; af = get_or s.afs a new_af }

-- a's side after a call; a has a record if `known`
abbrev pub side_after : Opening → Sets → ℕ → Bool → Side → Call → Side
side_after o r a known v c =
    record {
      now = now_after v.now c;
      sessions = veil r (sessions_after v.sessions c);
      af = cond known (af_after o r a v.now v.sessions c v.af) v.af;
    }

abbrev told : Opening → Sets → ℕ → Bool → Side → List Call → List Reply
told o r a known v [] = []
told o r a known v (c ∷ cs) =
    let rest = told o r a known (side_after o r a known v c) cs in
    cond (is_own a c) (reply_to o r a v.now v.sessions v.af c ∷ rest) rest

-- ---- each

pub length_each : {A : Type 0} (g : ℕ → A → A) (xs : List A) → length (each g xs) ≡ length xs
length_each g [] = refl
length_each g (x ∷ xs) = ap suc (length_each (λ b. g (suc b)) xs)

pub get_or_each : {A : Type 0} (g : ℕ → A → A) (xs : List A) (a : ℕ) (d : A) → get_or (each g xs) a d ≡ cond (ltb a (length xs)) (g a (get_or xs a d)) (get_or xs a d)
get_or_each g [] a d = grind (arith, nat_tests)
get_or_each g (x ∷ xs) zero d = grind (arith, nat_tests)
get_or_each g (x ∷ xs) (suc a) d = get_or_each (λ b. g (suc b)) xs a d ∙ ap (λ b. cond b (g (suc a) (get_or xs a d)) (get_or xs a d)) (below a (length xs))
  where
    below : (a n : ℕ) → ltb a n ≡ ltb (suc a) (suc n)
    below a n = grind (arith, nat_tests)

pub same : {A : Type 0} (b : Bool) (x : A) → x ≡ cond b x x
same true x = refl
same false x = refl

module _ (o : Opening) (r : Sets) (a : ℕ) where
  -- ---- what is seen decides

  sessions_on : (ps : List (Option Session)) (c : Call) → veil r (sessions_after ps c) ≡ veil r (sessions_after (veil r ps) c)
  sessions_on ps (Arrive q name w) =
      let e : arrive_refusals q name w (veil r ps) ≡ arrive_refusals q name w ps =
      λ i. (WrongArgument, wrong_address q || (wrong_name name || wrong_set w)) ∷ (AddressTaken, in_use_veil r q ps i) ∷ (NoRoom, not (room_veil r ps i)) ∷ []
      in
      by (accepts (arrive_refusals q name w ps)) (λ b. veil r (cond b (placed (fresh q name w) ps) ps) ≡ veil r (cond b (placed (fresh q name w) (veil r ps)) (veil r ps)))
      (λ _. placed_veil r (fresh q name w) ps)
      (λ _. sym (veil_twice r ps))
      ∙ sym (λ i. veil r (cond (accepts (e i)) (placed (fresh q name w) (veil r ps)) (veil r ps)))
  sessions_on ps (Set q k v) =
      let g = at_address_only q (λ s. Some (with_value k v s)) in
      let e : set_refusals q k v (veil r ps) ≡ set_refusals q k v ps =
      λ i. (WrongArgument, wrong_address q || (wrong_field k || long_value v)) ∷ (NoSuchAddress, not (in_use_veil r q ps i)) ∷ (UnsoundValue, unsound_value k v) ∷ []
      in
      by (accepts (set_refusals q k v ps)) (λ b. veil r (cond b (altered g ps) ps) ≡ veil r (cond b (altered g (veil r ps)) (veil r ps)))
      (λ _. altered_veil r g (set_one r q k v) ps)
      (λ _. sym (veil_twice r ps))
      ∙ sym (λ i. veil r (cond (accepts (e i)) (altered g (veil r ps)) (veil r ps)))
  sessions_on ps (Leave q) =
      let g = at_address_only q (λ s. None) in
      let e : leave_refusals q (veil r ps) ≡ leave_refusals q ps = λ i. (WrongArgument, wrong_address q) ∷ (NoSuchAddress, not (in_use_veil r q ps i)) ∷ [] in
      by (accepts (leave_refusals q ps)) (λ b. veil r (cond b (altered g ps) ps) ≡ veil r (cond b (altered g (veil r ps)) (veil r ps)))
      (λ _. altered_veil r g (leave_one r q) ps)
      (λ _. sym (veil_twice r ps))
      ∙ sym (λ i. veil r (cond (accepts (e i)) (altered g (veil r ps)) (veil r ps)))
  sessions_on ps (Clock n) = sym (veil_twice r ps)
  sessions_on ps (Ask b room m) = sym (veil_twice r ps)
  sessions_on ps (Take b room) = sym (veil_twice r ps)
  sessions_on ps (Settle b serial n) = sym (veil_twice r ps)
  sessions_on ps (Tell b) = sym (veil_twice r ps)

  verdict_on : (now : ℕ) (ps : List (Option Session)) (x : Af) (room : ℕ) (m : List ℕ) → ask_verdict o r a now ps x room m ≡ ask_verdict o r a now (veil r ps) x room m
  verdict_on now ps x room m = ap (and_then (heard o a now room m)) (λ i q. judged_veil r ps x q i)

  asked_on : (ps : List (Option Session)) (v : Result Asking Rejected) (x : Af) → af_asked ps v x ≡ af_asked (veil r ps) v x
  asked_on ps (Err e) x = refl
  asked_on ps (Ok q) x = sym (λ i. cond (is_subscription q.asked) (recorded q (subs_after q.asked (about_veil r q.subject ps i).address x.subs) x) x)

  alters_veiled : (q : Address) (k : ℕ) (v : List ℕ) (s : Session) → alters r q k v (veiled r s) ≡ alters r q k v s
  alters_veiled q k v s = ap (λ b. lives_at q s && b) (seen_test r s k (λ u. not (bytes_eq u v)))

  af_on : (now : ℕ) (ps : List (Option Session)) (c : Call) (x : Af) → af_after o r a now ps c x ≡ af_after o r a now (veil r ps) c x
  af_on now ps (Arrive q name w) x = refl
  af_on now ps (Set q k v) x =
      sym (λ i.
      cond (accepts ((WrongArgument, wrong_address q || (wrong_field k || long_value v)) ∷ (NoSuchAddress, not (in_use_veil r q ps i)) ∷ (UnsoundValue, unsound_value k v) ∷ [])
      && (is_change k && (some_veil r (alters r q k v) (alters_veiled q k v) ps i && some (holds q k) (entries x.subs))))
      (notified (due_notice q k v) x) x)
  af_on now ps (Leave q) x = sym (λ i. cond (accepts ((WrongArgument, wrong_address q) ∷ (NoSuchAddress, not (in_use_veil r q ps i)) ∷ [])) (af_left q x) x)
  af_on now ps (Clock n) x = refl
  af_on now ps (Ask b room m) x =
      ap (λ y. cond (eqb b a) y x) (asked_on ps (ask_verdict o r a now ps x room m) x ∙ ap (λ v. af_asked (veil r ps) v x) (verdict_on now ps x room m))
  af_on now ps (Take b room) x = refl
  af_on now ps (Settle b serial n) x = refl
  af_on now ps (Tell b) x = refl

  reply_on : (now : ℕ) (ps : List (Option Session)) (x : Af) (c : Call) → is_own a c ≡ true → reply_to o r a now ps x c ≡ reply_to o r a now (veil r ps) x c
  reply_on now ps x (Arrive q name w) h = absurd (false≢true h)
  reply_on now ps x (Set q k v) h = absurd (false≢true h)
  reply_on now ps x (Leave q) h = absurd (false≢true h)
  reply_on now ps x (Clock n) h = refl
  reply_on now ps x (Ask b room m) h =
      answered_veil r o m ps (ask_verdict o r a now ps x room m) ∙ ap (answered o r m (veil r ps)) (verdict_on now ps x room m)
  reply_on now ps x (Take b room) h = refl
  reply_on now ps x (Settle b serial n) h = refl
  reply_on now ps x (Tell b) h = refl

  -- ---- a call that is struck

  not_own : (l : Ledger) (c : Call) (rest : List (Call × Bool)) → struck r a l c rest ≡ true → is_own a c ≡ false
  not_own l (Arrive q name w) rest h = refl
  not_own l (Set q k v) rest h = refl
  not_own l (Leave q) rest h = refl
  not_own l (Clock n) rest h = refl
  not_own l (Ask b room m) rest h = not-true (eqb b a) h
  not_own l (Take b room) rest h = not-true (eqb b a) h
  not_own l (Settle b serial n) rest h = not-true (eqb b a) h
  not_own l (Tell b) rest h = not-true (eqb b a) h

  hidden : (l : Ledger) (ps : List (Option Session)) → SameEntries l.sessions ps → (q : Address) (k : ℕ) → not (some (shows r q k) l.sessions) ≡ true → some (shows r q k) (entries ps) ≡ false
  hidden l ps g q k h = sym (some_agrees (shows r q k) l.sessions ps g) ∙ not-true (some (shows r q k) l.sessions) h

  -- the name is not set
  name_stays : (b c : Bool) (v : List ℕ) → accepts ((WrongArgument, b || (wrong_field 0 || long_value v)) ∷ (NoSuchAddress, c) ∷ (UnsoundValue, unsound_value 0 v) ∷ []) ≡ false
  name_stays true c v = refl
  name_stays false c v = refl

  sessions_still : (l : Ledger) (ps : List (Option Session)) → SameEntries l.sessions ps → (c : Call) (rest : List (Call × Bool)) → struck r a l c rest ≡ true → veil r (sessions_after ps c) ≡ veil r ps
  sessions_still l ps g (Arrive q name w) rest h = absurd (false≢true h)
  sessions_still l ps g (Set q zero v) rest h =
      ap (λ b. veil r (cond b (altered (at_address_only q (λ s. Some (with_value zero v s))) ps) ps)) (name_stays (wrong_address q) (not (in_use q ps)) v)
  sessions_still l ps g (Set q (suc k) v) rest h =
      by (accepts (set_refusals q (suc k) v ps)) (λ b. veil r (cond b (altered (at_address_only q (λ s. Some (with_value (suc k) v s))) ps) ps) ≡ veil r ps)
      (λ _. set_hidden r q k v ps (hidden l ps g q (suc k) h))
      (λ _. refl)
  sessions_still l ps g (Leave q) rest h = absurd (false≢true h)
  sessions_still l ps g (Clock n) rest h = absurd (false≢true h)
  sessions_still l ps g (Ask b room m) rest h = refl
  sessions_still l ps g (Take b room) rest h = refl
  sessions_still l ps g (Settle b serial n) rest h = refl
  sessions_still l ps g (Tell b) rest h = refl

  now_still : (l : Ledger) (now : ℕ) (c : Call) (rest : List (Call × Bool)) → struck r a l c rest ≡ true → now_after now c ≡ now
  now_still l now (Arrive q name w) rest h = refl
  now_still l now (Set q k v) rest h = refl
  now_still l now (Leave q) rest h = refl
  now_still l now (Clock n) rest h = absurd (false≢true h)
  now_still l now (Ask b room m) rest h = refl
  now_still l now (Take b room) rest h = refl
  now_still l now (Settle b serial n) rest h = refl
  now_still l now (Tell b) rest h = refl

  -- nothing altered is seen where the field is not seen
  not_altered : (q : Address) (k : ℕ) (v : List ℕ) (l : List Session) → some (shows r q k) l ≡ false → some (alters r q k v) l ≡ false
  not_altered q k v [] h = refl
  not_altered q k v (s ∷ l) h =
      let both = or_parts (shows r q k s) (some (shows r q k) l) h in
      let tail = not_altered q k v l both.1 in
      (λ i. one (lives_at q s) (in_view r s k) (not (bytes_eq (value s k) v)) both.0 i || tail i)
    where
      one : (b c d : Bool) → (b && c) ≡ false → (b && (c && d)) ≡ false
      one true c d e = ap (λ b. b && d) e
      one false c d e = refl

  other : {A : Type 0} (b : ℕ) (t : Bool) (x y : A) → not (eqb b a) ≡ true → cond (eqb b a && t) x y ≡ y
  other b t x y h = ap (λ e. cond (e && t) x y) (not-true (eqb b a) h)

  no_change : (b c d : Bool) → (b && (c && (false && d))) ≡ false
  no_change true true d = refl
  no_change true false d = refl
  no_change false c d = refl

  af_still : (l : Ledger) (now : ℕ) (ps : List (Option Session)) → SameEntries l.sessions ps → (c : Call) (rest : List (Call × Bool)) (x : Af) → struck r a l c rest ≡ true → af_after o r a now ps c x ≡ x
  af_still l now ps g (Arrive q name w) rest x h = refl
  af_still l now ps g (Set q k v) rest x h =
      let none = not_altered q k v (entries ps) (hidden l ps g q k h) in
      let acc = accepts (set_refusals q k v ps) in
      ap (λ b. cond (acc && (is_change k && (b && some (holds q k) (entries x.subs)))) (notified (due_notice q k v) x) x) none
      ∙ ap (λ b. cond b (notified (due_notice q k v) x) x) (no_change acc (is_change k) (some (holds q k) (entries x.subs)))
  af_still l now ps g (Leave q) rest x h = absurd (false≢true h)
  af_still l now ps g (Clock n) rest x h = absurd (false≢true h)
  af_still l now ps g (Ask b room m) rest x h = ap (λ e. cond e (af_asked ps (ask_verdict o r a now ps x room m) x) x) (not-true (eqb b a) h)
  af_still l now ps g (Take b room) rest x h = other b _ _ _ h
  af_still l now ps g (Settle b serial n) rest x h = other b _ _ _ h
  af_still l now ps g (Tell b) rest x h = refl

-- ---- whole histories

at_caller : (o : Opening) (R : Book) (s : State) (a b : ℕ) (c : Call) → eqb b a ≡ true → reply_to o (R b) b s.now s.sessions (get_or s.afs b new_af) c ≡ reply_to o (R a) a s.now s.sessions (get_or s.afs a new_af) c
at_caller o R s a b c h = ap (λ n. reply_to o (R n) n s.now s.sessions (get_or s.afs n new_af) c) (eqb-true b a h)

-- the reply to a call of a
pub reply_own : (o : Opening) (R : Book) (s : State) (a : ℕ) (c : Call) → is_own a c ≡ true → reply o R s c ≡ reply_to o (R a) a s.now s.sessions (get_or s.afs a new_af) c
reply_own o R s a (Arrive q name w) h = absurd (false≢true h)
reply_own o R s a (Set q k v) h = absurd (false≢true h)
reply_own o R s a (Leave q) h = absurd (false≢true h)
reply_own o R s a (Clock n) h = absurd (false≢true h)
reply_own o R s a (Ask b room m) h = at_caller o R s a b (Ask b room m) h
reply_own o R s a (Take b room) h = at_caller o R s a b (Take b room) h
reply_own o R s a (Settle b serial n) h = at_caller o R s a b (Settle b serial n) h
reply_own o R s a (Tell b) h = at_caller o R s a b (Tell b) h

module _ (o : Opening) (R : Book) (a : ℕ) where
  pub side_still : (l : Ledger) (s : State) (c : Call) (rest : List (Call × Bool)) → SameEntries l.sessions s.sessions → struck (R a) a l c rest ≡ true → side (R a) a (after o R s c) ≡ side (R a) a s
  side_still l s c rest g h =
      let x = get_or s.afs a new_af in
      let n = now_still o (R a) a l s.now c rest h in
      let p = sessions_still o (R a) a l s.sessions g c rest h in
      let known = ltb a (length s.afs) in
      let q = get_or_each (λ b x. af_after o (R b) b s.now s.sessions c x) s.afs a new_af ∙ ap (λ y. cond known y x) (af_still o (R a) a l s.now s.sessions g c rest x h) ∙ sym (same known x) in
      λ i. record { now = n i; sessions = p i; af = q i }

  pub side_on : (s : State) (c : Call) → side (R a) a (after o R s c) ≡ side_after o (R a) a (ltb a (length s.afs)) (side (R a) a s) c
  side_on s c =
      let x = get_or s.afs a new_af in
      let p = sessions_on o (R a) a s.sessions c in
      let known = ltb a (length s.afs) in
      let q = get_or_each (λ b x. af_after o (R b) b s.now s.sessions c x) s.afs a new_af ∙ ap (λ y. cond known y x) (af_on o (R a) a s.now s.sessions c x) in
      λ i. record { now = now_after s.now c; sessions = p i; af = q i }

  all_told : (cs : List Call) (s : State) (l : Ledger) → SameEntries l.sessions s.sessions → own a (transcript o R s cs) ≡ told o (R a) a (ltb a (length s.afs)) (side (R a) a s) (left_from (R a) a l (map outcome (transcript o R s cs)))
  all_told [] s l g = refl
  all_told (c ∷ cs) s l g =
      let s' = after o R s c in
      let l' = entered (R a) a l c (refused (reply o R s c)) in
      let known = ltb a (length s.afs) in
      let later = map outcome (transcript o R s' cs) in
      let rest = left_from (R a) a l' later in
      let mine = own a (transcript o R s' cs) in
      let ih : mine ≡ told o (R a) a known (side (R a) a s') rest =
      all_told cs s' l' (agrees_after o R (R a) a s l c g)
      ∙ ap (λ n. told o (R a) a (ltb a n) (side (R a) a s') rest) (length_each (λ b x. af_after o (R b) b s.now s.sessions c x) s.afs)
      in
      by (struck (R a) a l c later) (λ b. struck (R a) a l c later ≡ b → cond (is_own a c) (reply o R s c ∷ mine) mine ≡ told o (R a) a known (side (R a) a s) (cond b rest (c ∷ rest)))
      (λ _ h. ap (λ b. cond b (reply o R s c ∷ mine) mine) (not_own o (R a) a l c later h) ∙ ih ∙ ap (λ v. told o (R a) a known v rest) (side_still l s c later g h))
      (λ _ h.
      let on : mine ≡ told o (R a) a known (side_after o (R a) a known (side (R a) a s) c) rest = ih ∙ ap (λ v. told o (R a) a known v rest) (side_on s c) in
      by (is_own a c) (λ b. is_own a c ≡ b → cond b (reply o R s c ∷ mine) mine ≡ cond b (reply_to o (R a) a s.now (veil (R a) s.sessions) (get_or s.afs a new_af) c ∷ told o (R a) a known (side_after o (R a) a known (side (R a) a s) c) rest) (told o (R a) a known (side_after o (R a) a known (side (R a) a s) c) rest))
      (λ _ e. let d = reply_own o R s a c e ∙ reply_on o (R a) a s.now s.sessions (get_or s.afs a new_af) c e in λ i. d i ∷ on i)
      (λ _ e. on) refl) refl

-- ---- a transcript is that of its calls

abbrev pub end : Opening → Book → State → List Call → State
end o R s [] = s
end o R s (c ∷ cs) = end o R (after o R s c) cs

module _ (o : Opening) (R : Book) where
  one_more : (cs : List Call) (s : State) (c : Call) → transcript o R s (cs ++ (c ∷ [])) ≡ transcript o R s cs ++ (record { call = c; said = reply o R (end o R s cs) c } ∷ [])
  one_more [] s c = refl
  one_more (d ∷ cs) s c = ap (λ l. record { call = d; said = reply o R s d } ∷ l) (one_more cs (after o R s d) c)

  end_more : (cs : List Call) (s : State) (c : Call) → end o R s (cs ++ (c ∷ [])) ≡ after o R (end o R s cs) c
  end_more [] s c = refl
  end_more (d ∷ cs) s c = end_more cs (after o R s d) c

  pub made : (ls : List Line) (s : State) → Leads o R ls s → (cs : List Call) × (ls ≡ transcript o R (opened o) cs) × (s ≡ end o R (opened o) cs)
  made ls s begun = ([], refl, refl)
  made ls s (next {ls = before} {s = t} d c) =
      let k = made before t d in (
        k.0 ++ (c ∷ []),
        (λ i. k.1 i ++ (record { call = c; said = reply o R (k.2 i) c } ∷ [])) ∙ sym (one_more k.0 (opened o) c),
        ap (λ u. after o R u c) k.2 ∙ sym (end_more k.0 (opened o) c),
      )

  pub lived_told : (a : ℕ) (ls : List Line) → Lived o R ls → own a ls ≡ told o (R a) a (ltb a (length (opened o).afs)) (side (R a) a (opened o)) (left (R a) a (map outcome ls))
  lived_told a ls h =
      let k = made ls h.0 h.1 in
      let start = side (R a) a (opened o) in
      let known = ltb a (length (opened o).afs) in
      ap (own a) k.1
      ∙ all_told o R a k.0 (opened o) blank (none_yet o.places)
      ∙ sym (ap (λ l. told o (R a) a known start (left (R a) a (map outcome l))) k.1)

pub isolation : Isolation
isolation a o p R Q ls ms h g e =
    let w : o ≡ p = λ i. record { names = e.names i; host = e.host i; realm = e.realm i; places = e.places i } in
    lived_told o R a ls h
    ∙ (λ i. told (w i) (e.sets i) a (ltb a (length (opened (w i)).afs)) (side (e.sets i) a (opened (w i))) (e.calls i))
    ∙ sym (lived_told p Q a ms g)
