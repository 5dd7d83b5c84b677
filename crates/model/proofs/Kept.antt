-- Laws of single calls.
use Rattle.std.proofs.Common.{◌≡◌, ℕ, suc, Bool, true, false, cond, ◌&&◌, eqb, List, [], ◌∷◌, get_or, is_some, Ok, Err, Option, Result, sym, refl, ap, ◌∙◌}
use Rattle.std.proofs.lemmas.Bool.{false≢true, not-true}
use Rattle.refusal.specs.declared.Refusal.TheVariants.{UnknownAf, ShortBuffer, NoticeOut, NothingWaiting}
use Rattle.request.specs.Askings.{Asking, Rejected}
use Rattle.model.specs.Values.{Sets, Book, Session, Opening, Call, Arrive, Set, Leave, Clock, Ask, Take, Settle, Tell, Done, Taken, refused}
use Rattle.model.specs.Steps.{Af, State, new_af, accepts, number_of, arrive_refusals, set_refusals, leave_refusals, take_refusals, settle_refusals, off_sheet, short_buffer, is_empty, sessions_after, now_after, af_after, af_asked, af_left, change_due, notified, due_notice, handed, settled, ask_verdict, answered, oldest_bytes, each, reply}
use Rattle.model.specs.Laws.{RefusedKeeps, NothingIsWaiting}
use Rattle.model.proofs.Veil.{by}
use Rattle.model.proofs.Isolated.{reply_own}

shut : {A : Type 0} (b : Bool) (x y : A) → b ≡ false → cond b x y ≡ y
shut b x y h = ap (λ t. cond t x y) h

each_kept : {A : Type 0} (d : A) (g : ℕ → A → A) (xs : List A) → ((b : ℕ) → g b (get_or xs b d) ≡ get_or xs b d) → each g xs ≡ xs
each_kept d g [] h = refl
each_kept d g (x ∷ xs) h = λ i. h 0 i ∷ each_kept d (λ b. g (suc b)) xs (λ b. h (suc b)) i

asked_kept : (o : Opening) (r : Sets) (m : List ℕ) (ps : List (Option Session)) (v : Result Asking Rejected) (x : Af) → refused (answered o r m ps v) ≡ true → af_asked ps v x ≡ x
asked_kept o r m ps (Err e) x h = refl
asked_kept o r m ps (Ok q) x h = absurd (false≢true h)

module _ (o : Opening) (R : Book) (s : State) where
  af_kept : (c : Call) → refused (reply o R s c) ≡ true → (b : ℕ) → let x = get_or s.afs b new_af in af_after o (R b) b s.now s.sessions c x ≡ x
  af_kept (Arrive q name w) h b = refl
  af_kept (Set q k v) h b =
      let x = get_or s.afs b new_af in
      ap (λ t. cond (t && change_due (R b) s.sessions q k v x) (notified (due_notice q k v) x) x) (not-true (accepts (set_refusals q k v s.sessions)) h)
  af_kept (Leave q) h b =
      let x = get_or s.afs b new_af in
      ap (λ t. cond t (af_left q x) x) (not-true (accepts (leave_refusals q s.sessions)) h)
  af_kept (Clock n) h b = absurd (false≢true h)
  af_kept (Ask a room m) h b =
      let x = get_or s.afs b new_af in
      let v = ask_verdict o (R b) b s.now s.sessions x room m in
      by (eqb a b) (λ t. eqb a b ≡ t → cond t (af_asked s.sessions v x) x ≡ x)
      (λ _ e. asked_kept o (R b) m s.sessions v x (sym (ap refused (reply_own o R s b (Ask a room m) e)) ∙ h))
      (λ _ e. refl) refl
  af_kept (Take a room) h b =
      let x = get_or s.afs b new_af in
      let table = take_refusals o b room x in
      by (eqb a b) (λ t. eqb a b ≡ t → cond (t && accepts table) (handed x) x ≡ x)
      (λ _ e.
      let g : refused (cond (accepts table) (Taken b x.serial (oldest_bytes o b x x.line)) (Done (number_of table))) ≡ true = sym (ap refused (reply_own o R s b (Take a room) e)) ∙ h in
      by (accepts table) (λ t. refused (cond t (Taken b x.serial (oldest_bytes o b x x.line)) (Done (number_of table))) ≡ true → cond t (handed x) x ≡ x) (λ _ k. absurd (false≢true k)) (λ _ k. refl) g)
      (λ _ e. refl) refl
  af_kept (Settle a serial n) h b =
      let x = get_or s.afs b new_af in
      let table = settle_refusals o b serial x in
      by (eqb a b) (λ t. eqb a b ≡ t → cond (t && accepts table) (settled n x.line x) x ≡ x)
      (λ _ e. ap (λ t. cond t (settled n x.line x) x) (not-true (accepts table) (sym (ap refused (reply_own o R s b (Settle a serial n) e)) ∙ h)))
      (λ _ e. refl) refl
  af_kept (Tell a) h b = refl

  sessions_kept : (c : Call) → refused (reply o R s c) ≡ true → sessions_after s.sessions c ≡ s.sessions
  sessions_kept (Arrive q name w) h = shut _ _ _ (not-true (accepts (arrive_refusals q name w s.sessions)) h)
  sessions_kept (Set q k v) h = shut _ _ _ (not-true (accepts (set_refusals q k v s.sessions)) h)
  sessions_kept (Leave q) h = shut _ _ _ (not-true (accepts (leave_refusals q s.sessions)) h)
  sessions_kept (Clock n) h = refl
  sessions_kept (Ask a room m) h = refl
  sessions_kept (Take a room) h = refl
  sessions_kept (Settle a serial n) h = refl
  sessions_kept (Tell a) h = refl

  now_kept : (c : Call) → refused (reply o R s c) ≡ true → now_after s.now c ≡ s.now
  now_kept (Arrive q name w) h = refl
  now_kept (Set q k v) h = refl
  now_kept (Leave q) h = refl
  now_kept (Clock n) h = absurd (false≢true h)
  now_kept (Ask a room m) h = refl
  now_kept (Take a room) h = refl
  now_kept (Settle a serial n) h = refl
  now_kept (Tell a) h = refl

pub refused_keeps : RefusedKeeps
refused_keeps o R s c h =
    let xs = each_kept new_af (λ b x. af_after o (R b) b s.now s.sessions c x) s.afs (af_kept o R s c h) in
    λ i. record { now = now_kept o R s c h i; sessions = sessions_kept o R s c h i; afs = xs i }

-- ---- take

only_empty : (b c d e : Bool) → number_of ((UnknownAf, b) ∷ (ShortBuffer, c) ∷ (NoticeOut, d) ∷ (NothingWaiting, e) ∷ []) ≡ 24 → (b ≡ false) × (c ≡ false) × (d ≡ false) × (e ≡ true)
only_empty true c d e h = absurd (false≢true (ap (λ n. eqb n 24) h))
only_empty false true d e h = absurd (false≢true (ap (λ n. eqb n 24) h))
only_empty false false true e h = absurd (false≢true (ap (λ n. eqb n 24) h))
only_empty false false false true h = (refl, refl, refl, refl)
only_empty false false false false h = absurd (false≢true (ap (λ n. eqb n 24) h))

pub nothing_waiting : NothingIsWaiting
nothing_waiting o a room x = (
  only_empty (off_sheet o a) (short_buffer room) (is_some x.out) (is_empty x.line),
  λ h i. number_of ((UnknownAf, h.0 i) ∷ (ShortBuffer, h.1 i) ∷ (NoticeOut, h.2 i) ∷ (NothingWaiting, h.3 i) ∷ []),
)
