-- Only the calls that are left: alike.
use Rattle.std.proofs.Common.{◌≡◌, ℕ, Bool, false, cond, not, ltb, List, [], ◌∷◌, map, length, sym, refl, ap, ◌∙◌}
use Rattle.model.specs.Values.{Book, Opening, Call, Arrive, Set, Leave, Clock, Ask, Take, Settle, Tell, outcome, refused, some, entries}
use Rattle.model.specs.Ledger.{Ledger, blank, entered, struck, shows, left_from}
use Rattle.model.specs.Steps.{State, opened, af_after, after, reply}
use Rattle.model.specs.Histories.{transcript}
use Rattle.model.specs.Guards.{LeftAlike}
use Rattle.model.proofs.Veil.{by, some_veil}
use Rattle.model.proofs.Agrees.{SameEntries, some_agrees, agrees_after, none_yet}
use Rattle.model.proofs.Isolated.{Side, side, side_after, side_still, side_on, length_each}

module _ (o : Opening) (R : Book) (a : ℕ) where
  -- what is struck is told by a's side
  struck_same : (s t : State) (l k : Ledger) → SameEntries l.sessions s.sessions → SameEntries k.sessions t.sessions → side (R a) a s ≡ side (R a) a t → (c : Call) (xs ys : List (Call × Bool)) → struck (R a) a l c xs ≡ struck (R a) a k c ys
  struck_same s t l k g h e (Arrive q name w) xs ys = refl
  struck_same s t l k g h e (Set q f v) xs ys =
      let p = shows (R a) q f in
      ap not (some_agrees p l.sessions s.sessions g
      ∙ sym (some_veil (R a) p (λ x. refl) s.sessions)
      ∙ ap (λ (d : Side). some p (entries d.sessions)) e
      ∙ some_veil (R a) p (λ x. refl) t.sessions
      ∙ sym (some_agrees p k.sessions t.sessions h))
  struck_same s t l k g h e (Leave q) xs ys = refl
  struck_same s t l k g h e (Clock n) xs ys = refl
  struck_same s t l k g h e (Ask b room m) xs ys = refl
  struck_same s t l k g h e (Take b room) xs ys = refl
  struck_same s t l k g h e (Settle b serial n) xs ys = refl
  struck_same s t l k g h e (Tell b) xs ys = refl

  again : (cs : List Call) (s t : State) (l k : Ledger) → SameEntries l.sessions s.sessions → SameEntries k.sessions t.sessions → side (R a) a s ≡ side (R a) a t → length s.afs ≡ length t.afs → let d = left_from (R a) a l (map outcome (transcript o R s cs)) in d ≡ left_from (R a) a k (map outcome (transcript o R t d))
  again [] s t l k g h e n = refl
  again (c ∷ cs) s t l k g h e n =
      let s' = after o R s c in
      let t' = after o R t c in
      let l' = entered (R a) a l c (refused (reply o R s c)) in
      let k' = entered (R a) a k c (refused (reply o R t c)) in
      let later = map outcome (transcript o R s' cs) in
      let rest = left_from (R a) a l' later in
      let g' = agrees_after o R (R a) a s l c g in
      let len : length s'.afs ≡ length s.afs = length_each (λ b x. af_after o (R b) b s.now s.sessions c x) s.afs in
      let len' : length t'.afs ≡ length t.afs = length_each (λ b x. af_after o (R b) b t.now t.sessions c x) t.afs in
      by (struck (R a) a l c later) (λ b. struck (R a) a l c later ≡ b → cond b rest (c ∷ rest) ≡ left_from (R a) a k (map outcome (transcript o R t (cond b rest (c ∷ rest)))))
      (λ _ x. again cs s' t l' k g' h (side_still o R a l s c later g x ∙ e) (len ∙ n))
      (λ _ x.
      let after_t = map outcome (transcript o R t' rest) in
      let not_struck : struck (R a) a k c after_t ≡ false = sym (struck_same s t l k g h e c later after_t) ∙ x in
      let both : side (R a) a s' ≡ side (R a) a t' = side_on o R a s c ∙ (λ i. side_after o (R a) a (ltb a (n i)) (e i) c) ∙ sym (side_on o R a t c) in
      let ih : rest ≡ left_from (R a) a k' after_t = again cs s' t' l' k' g' (agrees_after o R (R a) a t k c h) both (len ∙ n ∙ sym len') in
      ap (λ r. c ∷ r) ih ∙ sym (ap (λ b. cond b (left_from (R a) a k' after_t) (c ∷ left_from (R a) a k' after_t)) not_struck)) refl

pub left_alike : LeftAlike
left_alike a o R cs =
    record {
      names = refl;
      host = refl;
      realm = refl;
      places = refl;
      sets = refl;
      calls = again o R a cs (opened o) (opened o) blank blank (none_yet o.places) (none_yet o.places) refl refl;
    }
