-- The counts of an AF are those of its ledger, and sum up to what fell due.
use Rattle.std.proofs.Common.{◌≡◌, ℕ, zero, suc, ◌+◌, ◌-◌, ◌^◌, ◌<◌, ◌≤◌, max, Bool, true, false, cond, not, ◌&&◌, eqb, ltb, List, [], ◌∷◌, ◌++◌, map, length, get_or, replicate, Ok, Err, Option, Result, sym, refl, ap, ◌∙◌, subst, arith, length-append}
use lib.ListN.{length-replicate}
use Rattle.std.proofs.lemmas.Bool.{false≢true, not-false, lt-ltb}
use Rattle.std.proofs.lemmas.Bool.Decides.{nat_tests}
use Rattle.refusal.specs.declared.Refusal.TheVariants.{UnknownAf}
use Rattle.dictionary.specs.Addresses.{Address}
use Rattle.request.specs.Askings.{Asking, Rejected}
use Rattle.request.specs.Askings.{Asked, UserData, Subscribe, Unsubscribe}
use Rattle.model.specs.Values.{Sets, Book, Session, Subscription, Notice, Opening, Call, Arrive, Set, Leave, Clock, Ask, Take, Settle, Tell, Reply, Done, Counts, Line, outcome, refused, at_place, holds, some, entries}
use Rattle.model.specs.Places.{placed, altered, has_room}
use Rattle.model.specs.Ledger.{Ledger, blank, with_sessions, with_subs as with_wants, through, due_event, change_falls_due, on_set, not_of, not_over, on_ask, subs_asked, address_meant, replaced, loses, on_settle, with_settled, entered, ledger_from, ledger}
use Rattle.model.specs.Steps.{Af, State, new_af, opened, accepts, number_of, arrive_refusals, set_refusals, leave_refusals, take_refusals, settle_refusals, now_after, af_after, raised, with_subs, notified, due_notice, alters, is_change, change_due, logoff, unless_lapsed, renewed, lessened, subs_after, recorded, is_subscription, no_place, af_asked, af_left, handed, back, missed, hopeless, settled, answered, ask_verdict, about, fitting, reply, each, after}
use Rattle.model.specs.Histories.{transcript, Accounts}
use Rattle.model.proofs.Veil.{by}
use Rattle.model.proofs.Agrees.{SameEntries, same_altered, some_agrees, agrees_after, placed_total, none_yet}
use Rattle.model.proofs.Isolated.{length_each, get_or_each, reply_own, made}
use Rattle.model.proofs.Granted.{counted_from_one, granted, meant}

-- ---- counts that stop

abbrev full : ℕ
full = 2 ^ 64 - 1

abbrev cap : ℕ → ℕ
cap n = cond (ltb n full) n full

stops : (f n : ℕ) → cond (ltb (cond (ltb n f) n f) f) (cond (ltb n f) n f + 1) (cond (ltb n f) n f) ≡ cond (ltb (n + 1) f) (n + 1) f
stops f n = grind (arith, nat_tests)

raised_cap : (n : ℕ) → raised (cap n) ≡ cap (n + 1)
raised_cap n = stops full n

-- ---- the ledger fits the record

pub record Fit (l : Ledger) (now : ℕ) (x : Af) : Type 0 where
  pub time : now ≡ l.now
  pub subs : SameEntries l.subs x.subs
  pub line : x.line ≡ l.line
  pub acknowledged : x.acknowledged ≡ cap l.acknowledged
  pub given_up : x.given_up ≡ cap l.given_up
  pub lost : x.lost ≡ cap l.lost

fit_sessions : {l : Ledger} {now : ℕ} {x : Af} (ss : List Session) → Fit l now x → Fit (with_sessions ss l) now x
fit_sessions ss h = record { time = h.time; subs = h.subs; line = h.line; acknowledged = h.acknowledged; given_up = h.given_up; lost = h.lost }

fit_subs : {l : Ledger} {now : ℕ} {x : Af} (ws : List Subscription) (subs : List (Option Subscription)) → SameEntries ws subs → Fit l now x → Fit (with_wants ws l) now (with_subs subs x)
fit_subs ws subs e h = record { time = h.time; subs = e; line = h.line; acknowledged = h.acknowledged; given_up = h.given_up; lost = h.lost }

fit_due : {l : Ledger} {now : ℕ} {x : Af} (q : Address) (event : ℕ) (v : List ℕ) → Fit l now x → Fit (due_event q event v l) now (notified (due_notice q event v) x)
fit_due {l} {now} {x} q event v h =
    record {
      time = h.time;
      subs = h.subs;
      line = λ i. cond (ltb (length (h.line i)) 16) (h.line i ++ (due_notice q event v ∷ [])) (h.line i);
      acknowledged = h.acknowledged;
      given_up = h.given_up;
      lost =
          (λ i. cond (ltb (length (h.line i)) 16) (h.lost i) (raised (h.lost i)))
          ∙ by (ltb (length l.line) 16) (λ b. cond b (cap l.lost) (raised (cap l.lost)) ≡ cap (cond b l.lost (l.lost + 1))) (λ _. refl) (λ _. raised_cap l.lost);
    }

fit_settled : {now : ℕ} (n : ℕ) (l : Ledger) (x : Af) (ln : List Notice) → l.line ≡ ln → Fit l now x → Fit (on_settle n ln l) now (settled n ln x)
fit_settled n l x [] e h = record { time = h.time; subs = h.subs; line = sym e; acknowledged = h.acknowledged; given_up = h.given_up; lost = h.lost }
fit_settled {now} n l x (t ∷ later) e h =
    by (eqb n 0) (λ b.
    Fit
    (cond b (with_settled l.subs later (l.acknowledged + 1) l.given_up l) (cond (hopeless t) (with_settled (through (loses t.address (2 ^ t.event)) l.subs) later l.acknowledged (l.given_up + 1) l) (with_settled l.subs (missed t ∷ later) l.acknowledged l.given_up l)))
    now
    (cond b (back x.subs later (raised x.acknowledged) x.given_up x) (cond (hopeless t) (back (altered (lessened t.address (2 ^ t.event)) x.subs) later x.acknowledged (raised x.given_up) x) (back x.subs (missed t ∷ later) x.acknowledged x.given_up x))))
    (λ _. record { time = h.time; subs = h.subs; line = refl; acknowledged = ap raised h.acknowledged ∙ raised_cap l.acknowledged; given_up = h.given_up; lost = h.lost })
    (λ _.
    by (hopeless t) (λ b.
    Fit
    (cond b (with_settled (through (loses t.address (2 ^ t.event)) l.subs) later l.acknowledged (l.given_up + 1) l) (with_settled l.subs (missed t ∷ later) l.acknowledged l.given_up l))
    now
    (cond b (back (altered (lessened t.address (2 ^ t.event)) x.subs) later x.acknowledged (raised x.given_up) x) (back x.subs (missed t ∷ later) x.acknowledged x.given_up x)))
    (λ _. record { time = h.time; subs = same_altered (loses t.address (2 ^ t.event)) l.subs x.subs h.subs; line = refl; acknowledged = h.acknowledged; given_up = ap raised h.given_up ∙ raised_cap l.given_up; lost = h.lost })
    (λ _. record { time = h.time; subs = h.subs; line = refl; acknowledged = h.acknowledged; given_up = h.given_up; lost = h.lost }))

fit_recorded : {l : Ledger} {now : ℕ} {x : Af} (q : Asking) (ws : List Subscription) (subs : List (Option Subscription)) → SameEntries ws subs → Fit l now x → Fit (with_wants ws l) now (recorded q subs x)
fit_recorded q ws subs e h = record { time = h.time; subs = e; line = h.line; acknowledged = h.acknowledged; given_up = h.given_up; lost = h.lost }

-- ---- asking

same_asked : (asked : Asked) (q : Address) (ws : List Subscription) (subs : List (Option Subscription)) → no_place asked q subs ≡ false → SameEntries ws subs → SameEntries (subs_asked asked q ws) (subs_after asked q subs)
same_asked (UserData named) q ws subs p h = h
same_asked (Subscribe events end) q ws subs p h =
    let new : Subscription = record { address = q; events = events; end = end } in
    subst (λ b. SameEntries (cond b (through (replaced q events end) ws) (new ∷ ws)) (cond (some (at_place q) (entries subs)) (altered (renewed q events end) subs) (placed new subs))) (sym (some_agrees (at_place q) ws subs h))
    (by (some (at_place q) (entries subs)) (λ b. (not b && not (has_room subs)) ≡ false → SameEntries (cond b (through (replaced q events end) ws) (new ∷ ws)) (cond b (altered (renewed q events end) subs) (placed new subs)))
    (λ _ _. same_altered (replaced q events end) ws subs h)
    (λ _ e f. ap (λ n. f new + n) (h f) ∙ sym (placed_total f subs new (not-false (has_room subs) e)))
    p)
same_asked (Unsubscribe events) q ws subs p h = same_altered (loses q events) ws subs h

fit_asked : {l : Ledger} {now : ℕ} {x : Af} (q : Asking) (asked : Asked) (w : Address) (subs : List (Option Subscription)) → SameEntries (subs_asked asked w l.subs) (subs_after asked w x.subs) → Fit l now x → Fit (with_wants (subs_asked asked w l.subs) l) now (cond (is_subscription asked) (recorded q (subs_after asked w x.subs) x) x)
fit_asked q (UserData named) w subs e h = record { time = h.time; subs = h.subs; line = h.line; acknowledged = h.acknowledged; given_up = h.given_up; lost = h.lost }
fit_asked {l} q (Subscribe events end) w subs e h = fit_recorded q _ _ e h
fit_asked {l} q (Unsubscribe events) w subs e h = fit_recorded q _ _ e h

fit_ask : {l : Ledger} {now : ℕ} {x : Af} (o : Opening) (r : Sets) (a room : ℕ) (m : List ℕ) (ps : List (Option Session)) → SameEntries l.sessions ps → Fit l now x → (v : Result Asking Rejected) → ask_verdict o r a now ps x room m ≡ v → Fit (cond (not (refused (answered o r m ps v))) (on_ask m l) l) now (af_asked ps v x)
fit_ask {l} {now} {x} o r a room m ps g h (Err e) k =
    subst (λ b. Fit (cond (not (not b)) (on_ask m l) l) now x) (sym (counted_from_one e.refusal)) h
fit_ask {l} {now} {x} o r a room m ps g h (Ok q) k =
    let ok = granted o r a now ps x room m q k in
    let w = (about (fitting q.subject ps)).address in
    let place : address_meant q.subject l.sessions ≡ w = meant q.subject l.sessions ps ok.plain ok.found g in
    let fits : Fit (with_wants (subs_asked q.asked w l.subs) l) now (af_asked ps (Ok q) x) =
    fit_asked q q.asked w x.subs (same_asked q.asked w l.subs x.subs ok.place h.subs) h
    in
    subst (λ (u : Asking). Fit (with_wants (subs_asked u.asked (address_meant u.subject l.sessions) l.subs) l) now (af_asked ps (Ok q) x)) (sym ok.asks)
    (subst (λ u. Fit (with_wants (subs_asked q.asked u l.subs) l) now (af_asked ps (Ok q) x)) (sym place) fits)

-- ---- one call

fit_after : (o : Opening) (R : Book) (a : ℕ) (s : State) (l : Ledger) (c : Call) → let x = get_or s.afs a new_af in
    SameEntries l.sessions s.sessions → Fit l s.now x → Fit (entered (R a) a l c (refused (reply o R s c))) (now_after s.now c) (af_after o (R a) a s.now s.sessions c x)
fit_after o R a s l (Arrive q name w) g h =
    let x = get_or s.afs a new_af in
    by (accepts (arrive_refusals q name w s.sessions)) (λ b. Fit (entered (R a) a l (Arrive q name w) (not b)) s.now x) (λ _. fit_sessions _ h) (λ _. h)
fit_after o R a s l (Set q k v) g h =
    let x = get_or s.afs a new_af in
    let ps = s.sessions in
    let due : change_due (R a) ps q k v x ≡ change_falls_due (R a) l q k v =
    sym (λ i. is_change k && (some_agrees (alters (R a) q k v) l.sessions ps g i && some_agrees (holds q k) l.subs x.subs h.subs i))
    in
    by (accepts (set_refusals q k v ps)) (λ b. Fit (entered (R a) a l (Set q k v) (not b)) s.now (cond (b && change_due (R a) ps q k v x) (notified (due_notice q k v) x) x))
    (λ _.
    subst (λ b. Fit (on_set (R a) q k v l) s.now (cond b (notified (due_notice q k v) x) x)) (sym due)
    (fit_sessions _ (by (change_falls_due (R a) l q k v) (λ b. Fit (cond b (due_event q k v l) l) s.now (cond b (notified (due_notice q k v) x) x)) (λ _. fit_due q k v h) (λ _. h))))
    (λ _. h)
fit_after o R a s l (Leave q) g h =
    let x = get_or s.afs a new_af in
    let ps = s.sessions in
    let due = some_agrees (holds q logoff) l.subs x.subs h.subs in
    by (accepts (leave_refusals q ps)) (λ b. Fit (entered (R a) a l (Leave q) (not b)) s.now (cond b (af_left q x) x))
    (λ _.
    fit_sessions _ (fit_subs _ _ (same_altered (not_of q) l.subs x.subs h.subs)
    (subst (λ b. Fit (cond (some (holds q logoff) l.subs) (due_event q logoff [] l) l) s.now (cond b (notified (due_notice q logoff []) x) x)) due
    (by (some (holds q logoff) l.subs) (λ b. Fit (cond b (due_event q logoff [] l) l) s.now (cond b (notified (due_notice q logoff []) x) x)) (λ _. fit_due q logoff [] h) (λ _. h)))))
    (λ _. h)
fit_after o R a s l (Clock n) g h =
    let x = get_or s.afs a new_af in
    record {
      time = ap (λ t. max t n) h.time;
      subs = subst (λ t. SameEntries (through (not_over (max l.now n)) l.subs) (altered (unless_lapsed (max t n)) x.subs)) (sym h.time) (same_altered (not_over (max l.now n)) l.subs x.subs h.subs);
      line = h.line;
      acknowledged = h.acknowledged;
      given_up = h.given_up;
      lost = h.lost;
    }
fit_after o R a s l (Ask b room m) g h =
    let x = get_or s.afs a new_af in
    let ps = s.sessions in
    let v = ask_verdict o (R a) a s.now ps x room m in
    by (eqb b a) (λ t. eqb b a ≡ t → Fit (cond (t && not (refused (reply o R s (Ask b room m)))) (on_ask m l) l) s.now (cond t (af_asked ps v x) x))
    (λ _ e. subst (λ y. Fit (cond (not (refused y)) (on_ask m l) l) s.now (af_asked ps v x)) (sym (reply_own o R s a (Ask b room m) e)) (fit_ask o (R a) a room m ps g h v refl))
    (λ _ e. h) refl
fit_after o R a s l (Take b room) g h =
    let x = get_or s.afs a new_af in
    by (eqb b a && accepts (take_refusals o a room x)) (λ t. Fit l s.now (cond t (handed x) x))
    (λ _. record { time = h.time; subs = h.subs; line = h.line; acknowledged = h.acknowledged; given_up = h.given_up; lost = h.lost })
    (λ _. h)
fit_after o R a s l (Settle b serial n) g h =
    let x = get_or s.afs a new_af in
    let ok = accepts (settle_refusals o a serial x) in
    by (eqb b a) (λ t. eqb b a ≡ t → Fit (cond (t && not (refused (reply o R s (Settle b serial n)))) (on_settle n l.line l) l) s.now (cond (t && ok) (settled n x.line x) x))
    (λ _ e.
    subst (λ y. Fit (cond (not (refused y)) (on_settle n l.line l) l) s.now (cond ok (settled n x.line x) x)) (sym (reply_own o R s a (Settle b serial n) e))
    (by ok (λ t. Fit (cond (not (not t)) (on_settle n l.line l) l) s.now (cond t (settled n x.line x) x))
    (λ _. subst (λ ln. Fit (on_settle n l.line l) s.now (settled n ln x)) (sym h.line) (fit_settled n l x l.line refl h))
    (λ _. h)))
    (λ _ e. h) refl
fit_after o R a s l (Tell b) g h = h

-- ---- the ledger by itself

pub record Sum (l : Ledger) (n : ℕ) : Type 0 where
  pub level : l.acknowledged + l.given_up + l.lost + length l.line ≡ l.due
  pub few : l.due ≤ n

sum_more : {l : Ledger} {n : ℕ} → Sum l n → Sum l (suc n)
sum_more {l} {n} h = let f = h.few in record { level = h.level; few = omega (arith, f) }

sum_sessions : {l : Ledger} {n : ℕ} (ss : List Session) → Sum l n → Sum (with_sessions ss l) n
sum_sessions ss h = record { level = h.level; few = h.few }

sum_subs : {l : Ledger} {n : ℕ} (ws : List Subscription) → Sum l n → Sum (with_wants ws l) n
sum_subs ws h = record { level = h.level; few = h.few }

sum_due : {l : Ledger} {n : ℕ} (q : Address) (event : ℕ) (v : List ℕ) → Sum l n → Sum (due_event q event v l) (suc n)
sum_due {l} {n} q event v h =
    let lv = h.level in
    let f = h.few in
    record {
      level =
          by (ltb (length l.line) 16) (λ b. l.acknowledged + l.given_up + cond b l.lost (l.lost + 1) + length (cond b (l.line ++ (due_notice q event v ∷ [])) l.line) ≡ l.due + 1)
          (λ _. let e = length-append l.line (due_notice q event v ∷ []) in omega (arith, lv, e))
          (λ _. omega (arith, lv));
      few = omega (arith, f);
    }

sum_settled : {n : ℕ} (m : ℕ) (l : Ledger) (ln : List Notice) → l.line ≡ ln → Sum l n → Sum (on_settle m ln l) n
sum_settled m l [] e h = h
sum_settled {n} m l (t ∷ later) e h =
    let lv : l.acknowledged + l.given_up + l.lost + length (t ∷ later) ≡ l.due = subst (λ ln. l.acknowledged + l.given_up + l.lost + length ln ≡ l.due) e h.level in
    by (eqb m 0) (λ b. Sum (cond b (with_settled l.subs later (l.acknowledged + 1) l.given_up l) (cond (hopeless t) (with_settled (through (loses t.address (2 ^ t.event)) l.subs) later l.acknowledged (l.given_up + 1) l) (with_settled l.subs (missed t ∷ later) l.acknowledged l.given_up l))) n)
    (λ _. record { level = omega (arith, lv); few = h.few })
    (λ _. by (hopeless t) (λ b. Sum (cond b (with_settled (through (loses t.address (2 ^ t.event)) l.subs) later l.acknowledged (l.given_up + 1) l) (with_settled l.subs (missed t ∷ later) l.acknowledged l.given_up l)) n)
    (λ _. record { level = omega (arith, lv); few = h.few })
    (λ _. record { level = lv; few = h.few }))

sum_either : {n : ℕ} (b : Bool) (k l : Ledger) → Sum k n → Sum l n → Sum (cond b k l) n
sum_either true k l h g = h
sum_either false k l h g = g

sum_after : (r : Sets) (a : ℕ) (l : Ledger) (c : Call) (out : Bool) (n : ℕ) → Sum l n → Sum (entered r a l c out) (suc n)
sum_after r a l (Arrive q name w) out n h = sum_either out _ _ (sum_more h) (sum_sessions _ (sum_more h))
sum_after r a l (Set q k v) out n h = sum_either out _ _ (sum_more h) (sum_sessions _ (sum_either (change_falls_due r l q k v) _ _ (sum_due q k v h) (sum_more h)))
sum_after r a l (Leave q) out n h = sum_either out _ _ (sum_more h) (sum_sessions _ (sum_subs _ (sum_either (some (holds q 10) l.subs) _ _ (sum_due q 10 [] h) (sum_more h))))
sum_after r a l (Clock t) out n h = let g = sum_more h in sum_either out _ _ g (record { level = g.level; few = g.few })
sum_after r a l (Ask b room m) out n h = sum_either (eqb b a && not out) _ _ (sum_subs _ (sum_more h)) (sum_more h)
sum_after r a l (Take b room) out n h = sum_more h
sum_after r a l (Settle b serial m) out n h = sum_either (eqb b a && not out) _ _ (sum_settled m l l.line refl (sum_more h)) (sum_more h)
sum_after r a l (Tell b) out n h = sum_more h

summed : (r : Sets) (a : ℕ) (ls : List Line) (l : Ledger) (n : ℕ) → Sum l n → Sum (ledger_from r a l (map outcome ls)) (length ls + n)
summed r a [] l n h = record { level = h.level; few = let f = h.few in omega (arith, f) }
summed r a (y ∷ ls) l n h =
    let ih = summed r a ls (entered r a l y.call (refused y.said)) (suc n) (sum_after r a l y.call (refused y.said) n h) in
    let f = ih.few in
    record { level = ih.level; few = omega (arith, f) }

-- ---- whole histories

head_or : Line → List Line → Line
head_or d [] = d
head_or d (l ∷ ls) = l

tail_of : List Line → List Line
tail_of [] = []
tail_of (l ∷ ls) = ls

filled : List Line → Bool
filled [] = false
filled (l ∷ ls) = true

-- what tell returns, but for counts that stop
abbrev Exact : Reply → Ledger → Type 0
Exact x k = x ≡ Counts (cap k.acknowledged) (cap k.given_up) (cap k.lost) (length k.line)

module _ (o : Opening) (R : Book) (a : ℕ) (known : ltb a (length o.names) ≡ true) where
  tells_counts : (s : State) (l : Ledger) → Fit l s.now (get_or s.afs a new_af) → Exact (reply o R s (Tell a)) l
  tells_counts s l h =
      let x = get_or s.afs a new_af in
      ap (λ b. cond (accepts ((UnknownAf, not b) ∷ [])) (Counts x.acknowledged x.given_up x.lost (length x.line)) (Done (number_of ((UnknownAf, not b) ∷ [])))) known
      ∙ (λ i. Counts (h.acknowledged i) (h.given_up i) (h.lost i) (length (h.line i)))

  exact_from : (pre post : List Line) (x : Reply) (cs : List Call) (s : State) (l : Ledger) → a < length s.afs → SameEntries l.sessions s.sessions → Fit l s.now (get_or s.afs a new_af) → transcript o R s cs ≡ pre ++ (record { call = Tell a; said = x } ∷ post) → Exact x (ledger_from (R a) a l (map outcome pre))
  unfolding head_or tail_of filled
  exact_from [] post x [] s l lt g h e = absurd (false≢true (ap filled e))
  exact_from (y ∷ pre) post x [] s l lt g h e = absurd (false≢true (ap filled e))
  exact_from [] post x (c ∷ cs) s l lt g h e =
      let d : Line = record { call = c; said = reply o R s c } in
      let said : reply o R s c ≡ x = ap (λ ls. (head_or d ls).said) e in
      let call : c ≡ Tell a = ap (λ ls. (head_or d ls).call) e in
      sym said ∙ ap (reply o R s) call ∙ tells_counts s l h
  exact_from (y ∷ pre) post x (c ∷ cs) s l lt g h e =
      let d : Line = record { call = c; said = reply o R s c } in
      let first : d ≡ y = ap (head_or d) e in
      let later : transcript o R (after o R s c) cs ≡ pre ++ (record { call = Tell a; said = x } ∷ post) = ap tail_of e in
      let f : ℕ → Af → Af = λ b x. af_after o (R b) b s.now s.sessions c x in
      let x0 = get_or s.afs a new_af in
      let is : get_or (each f s.afs) a new_af ≡ f a x0 = get_or_each f s.afs a new_af ∙ ap (λ b. cond b (f a x0) x0) (lt-ltb a (length s.afs) lt) in
      let l' = entered (R a) a l c (refused (reply o R s c)) in
      let fit : Fit l' (after o R s c).now (get_or (after o R s c).afs a new_af) = subst (Fit l' (now_after s.now c)) (sym is) (fit_after o R a s l c g h) in
      let rest : Exact x (ledger_from (R a) a l' (map outcome pre)) =
      exact_from pre post x cs (after o R s c) l' (subst (λ n. a < n) (sym (length_each f s.afs)) lt) (agrees_after o R (R a) a s l c g) fit later
      in
      subst (λ (y : Line). Exact x (ledger_from (R a) a (entered (R a) a l y.call (refused y.said)) (map outcome pre))) first rest

new_each : (n a : ℕ) → get_or (replicate n new_af) a new_af ≡ new_af
new_each zero a = refl
new_each (suc n) zero = refl
new_each (suc n) (suc a) = new_each n a

cap_small : (n : ℕ) → n < 2 ^ 63 → cap n ≡ n
cap_small n h = ap (λ b. cond b n full) (lt-ltb n full (omega (arith, h)))

pub accounts : Accounts
accounts o R ls h a pre post x lt e small =
    let k = made o R ls h.0 h.1 in
    let l = ledger (R a) a (map outcome pre) in
    let start : Fit blank 0 (get_or (replicate (length o.names) new_af) a new_af) =
    subst (Fit blank 0) (sym (new_each (length o.names) a)) (record { time = refl; subs = none_yet 16; line = refl; acknowledged = refl; given_up = refl; lost = refl })
    in
    let exact : Exact x l =
    exact_from o R a (lt-ltb a (length o.names) lt) pre post x k.0 (opened o) blank (subst (λ n. a < n) (sym (length-replicate (length o.names) new_af)) lt) (none_yet o.places) start (sym k.1 ∙ e)
    in
    let sum = summed (R a) a pre blank 0 (record { level = refl; few = omega arith }) in
    let lv = sum.level in
    let few = sum.few in (
      exact
          ∙ (λ i.
          Counts (cap_small l.acknowledged (omega (arith, lv, few, small)) i) (cap_small l.given_up (omega (arith, lv, few, small)) i) (cap_small l.lost (omega (arith, lv, few, small)) i) (length l.line)),
      lv,
    )
