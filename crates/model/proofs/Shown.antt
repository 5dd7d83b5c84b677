-- What an AF is answered does not hang on what lies outside its view.
use Rattle.std.proofs.Common.{◌≡◌, ℕ, zero, suc, ◌+◌, ◌*◌, ◌/◌, ◌%◌, ◌^◌, ◌<◌, ◌≤◌, Bool, true, false, cond, not, ◌&&◌, eqb, leb, List, [], ◌∷◌, ◌++◌, map, length, Some, None, Ok, Err, Option, Result, sym, refl, ap, ◌∙◌, arith}
use lib.Count.{ones}
use Rattle.std.proofs.lemmas.Bool.{false≢true, and_parts, eq-eqb}
use Rattle.refusal.specs.declared.Refusal.TheVariants.{AmbiguousUser, NoSession, NothingToShow, NoPlace}
use Rattle.refusal.specs.declared.ResultCode.TheVariants.{Base}
use Rattle.diameter.specs.Headers.{header_of}
use Rattle.fieldset.specs.Sets.{has, members}
use Rattle.std.proofs.lemmas.Nat.Bits.{bit_at-suc}
use Rattle.request.specs.Askings.{Subject, at_address, of_user, Asking, nothing, Rejected}
use Rattle.request.specs.Askings.{Asked, UserData, Subscribe, Unsubscribe}
use Rattle.writer.specs.Headers.{message_header}
use Rattle.writer.specs.Parts.{parts_bytes}
use Rattle.answer.specs.Answers.{answer_bytes, answer_front, answer_flags}
use Rattle.answer.specs.Faults.{failed_avp}
use Rattle.message.specs.Fields.{field_part, field_parts}
use Rattle.model.specs.Values.{Sets, Session, Opening, Reply, Answered, value, in_view}
use Rattle.model.specs.Steps.{Af, those, requested, shown, is_empty, is_stored, nothing_to_show, no_place, ambiguous, about, fitting, subject_refusals, judged_asking, plainly, session_of, success_bytes, shown_to, answered}
use Rattle.refusal.specs.Verdicts.{judged}
use Rattle.model.specs.Laws.{ShownExactly}
use Rattle.model.proofs.Veil.{veiled, veil, value_veiled, seen_test, fitting_veil}

-- ---- sets

has_low : (b : Bool) (n : ℕ) → has (cond b 1 0 + 2 * n) 0 ≡ b
has_low true n = eq-eqb ((1 + 2 * n) / 2 ^ 0 % 2) 1 (omega arith)
has_low false n = ap (λ m. eqb m 1) (zero_rest n)
  where
    zero_rest : (n : ℕ) → (0 + 2 * n) / 2 ^ 0 % 2 ≡ 0
    zero_rest n = omega arith

half : (b : Bool) (n : ℕ) → (cond b 1 0 + 2 * n) / 2 ≡ n
half true n = omega arith
half false n = omega arith

has_high : (b : Bool) (n k : ℕ) → has (cond b 1 0 + 2 * n) (suc k) ≡ has n k
has_high b n k = ap (λ m. eqb m 1) (bit_at-suc (cond b 1 0 + 2 * n) k ∙ ap (λ m. m / 2 ^ k % 2) (half b n))

none_in : (k : ℕ) → has 0 k ≡ false
none_in zero = refl
none_in (suc k) = ap (λ m. eqb m 1) (bit_at-suc 0 k) ∙ none_in k

-- what is in the set passed the test
in_those : (d : ℕ) (p : ℕ → Bool) (k : ℕ) → has (those d p) k ≡ true → p k ≡ true
in_those zero p k h = absurd (false≢true (sym (none_in k) ∙ h))
in_those (suc d) p zero h = sym (has_low (p 0) (those d (λ k. p (suc k)))) ∙ h
in_those (suc d) p (suc k) h = in_those d (λ k. p (suc k)) k (sym (has_high (p 0) (those d (λ k. p (suc k))) k) ∙ h)

in_below : (d : ℕ) (p : ℕ → Bool) (k : ℕ) → k < d → has (those d p) k ≡ p k
in_below zero p k h = absurd (no_less k h)
  where
    no_less : (k : ℕ) → k < 0 → ⊥
    no_less k h = omega (arith, h)
in_below (suc d) p zero h = has_low (p 0) (those d (λ k. p (suc k)))
in_below (suc d) p (suc k) h = has_high (p 0) (those d (λ k. p (suc k))) k ∙ in_below d (λ k. p (suc k)) k (omega (arith, h))

none_above : (d : ℕ) (p : ℕ → Bool) (k : ℕ) → d ≤ k → has (those d p) k ≡ false
none_above zero p k h = none_in k
none_above (suc d) p zero h = absurd (not_above d h)
  where
    not_above : (d : ℕ) → suc d ≤ 0 → ⊥
    not_above d h = omega (arith, h)
none_above (suc d) p (suc k) h = has_high (p 0) (those d (λ k. p (suc k))) k ∙ none_above d (λ k. p (suc k)) k (omega (arith, h))

pub shown_exactly : ShownExactly
shown_exactly r named s k =
    let p : ℕ → Bool = λ k. has (requested named) k && (in_view r s k && is_stored s k) in
    (in_below 10 p k, none_above 10 p k)

-- ---- bytes

parts_append : (vs : ℕ → List ℕ) (xs ys : List ℕ) → field_parts vs (xs ++ ys) ≡ field_parts vs xs ++ field_parts vs ys
parts_append vs [] ys = refl
parts_append vs (x ∷ xs) ys = ap (λ l. field_part x (vs x) ∷ l) (parts_append vs xs ys)

one_part : (vs ws : ℕ → List ℕ) (k : ℕ) (b : Bool) → (b ≡ true → vs k ≡ ws k) → field_parts vs (cond b (k ∷ []) []) ≡ field_parts ws (cond b (k ∷ []) [])
one_part vs ws k true h = λ i. field_part k (h refl i) ∷ []
one_part vs ws k false h = refl

same_parts : (vs ws : ℕ → List ℕ) (bits d : ℕ) → ((k : ℕ) → has bits k ≡ true → vs k ≡ ws k) → field_parts vs (members d bits) ≡ field_parts ws (members d bits)
unfolding members
same_parts vs ws bits zero h = refl
same_parts vs ws bits (suc d) h =
    parts_append vs (members d bits) (cond (has bits d) (d ∷ []) [])
    ∙ (λ i. same_parts vs ws bits d h i ++ one_part vs ws d (has bits d) (h d) i)
    ∙ sym (parts_append ws (members d bits) (cond (has bits d) (d ∷ []) []))

same_bytes : (o : Opening) (m : List ℕ) (bits : ℕ) (s t : Session) → ((k : ℕ) → has bits k ≡ true → value s k ≡ value t k) → success_bytes o m bits s ≡ success_bytes o m bits t
unfolding answer_bytes
same_bytes o m bits s t h =
    let parts = same_parts (value s) (value t) bits 10 h in
    let front = answer_front (session_of m) (Base 2001) o.host o.realm in
    let head = header_of m in
    λ i.
    message_header (20 + length (front ++ (parts_bytes (parts i) ++ failed_avp nothing))) (answer_flags head.flags (Base 2001)) head.command head.application head.hop_by_hop head.end_to_end
    ++ (front ++ (parts_bytes (parts i) ++ failed_avp nothing))

module _ (r : Sets) where
  shown_veiled : (named : Option ℕ) (s : Session) → shown r named (veiled r s) ≡ shown r named s
  shown_veiled named s = λ i. those 10 (λ k. has (requested named) k && seen_test r s k (λ v. not (is_empty v)) i)

  shown_to_veiled : (q : Asked) (s : Session) → shown_to r q (veiled r s) ≡ shown_to r q s
  shown_to_veiled (UserData named) s = shown_veiled named s
  shown_to_veiled (Subscribe events end) s = refl
  shown_to_veiled (Unsubscribe events) s = refl

  -- a field that is shown is in the view
  shown_in_view : (q : Asked) (s : Session) (k : ℕ) → has (shown_to r q s) k ≡ true → in_view r s k ≡ true
  shown_in_view (UserData named) s k h =
      let p = in_those 10 (λ k. has (requested named) k && (in_view r s k && is_stored s k)) k h in
      (and_parts (in_view r s k) (is_stored s k) (and_parts (has (requested named) k) (in_view r s k && is_stored s k) p).1).0
  shown_in_view (Subscribe events end) s k h = absurd (false≢true (sym (none_in k) ∙ h))
  shown_in_view (Unsubscribe events) s k h = absurd (false≢true (sym (none_in k) ∙ h))

  nothing_veiled : (q : Asked) (s : Session) → nothing_to_show r q (veiled r s) ≡ nothing_to_show r q s
  nothing_veiled (UserData None) s = refl
  nothing_veiled (UserData (Some named)) s = ap (λ n. eqb n 0) (shown_veiled (Some named) s)
  nothing_veiled (Subscribe events end) s = refl
  nothing_veiled (Unsubscribe events) s = refl

  length_veiled : (l : List Session) → length (map (veiled r) l) ≡ length l
  length_veiled [] = refl
  length_veiled (s ∷ l) = ap suc (length_veiled l)

  ambiguous_veiled : (q : Subject) (l : List Session) → ambiguous q (map (veiled r) l) ≡ ambiguous q l
  ambiguous_veiled (at_address q) l = refl
  ambiguous_veiled (of_user name) l = ap (leb 2) (length_veiled l)

  empty_veiled : (l : List Session) → is_empty (map (veiled r) l) ≡ is_empty l
  empty_veiled [] = refl
  empty_veiled (s ∷ l) = refl

  -- the session that a request is about, and what is seen of it
  about_veiled : (l : List Session) → about (map (veiled r) l) ≡ veiled r (about l)
  about_veiled [] = refl
  about_veiled (s ∷ l) = refl

  refusals_veiled : (q : Asking) (l : List Session) (x : Af) → subject_refusals r q (map (veiled r) l) x ≡ subject_refusals r q l x
  refusals_veiled q l x =
      let e = about_veiled l in
      λ i.
      (AmbiguousUser, ambiguous_veiled q.subject l i)
      ∷ (NoSession, empty_veiled l i)
      ∷ (NothingToShow, (ap (nothing_to_show r q.asked) e ∙ nothing_veiled q.asked (about l)) i)
      ∷ (NoPlace, no_place q.asked (e i).address x.subs)
      ∷ []

  pub judged_veil : (ps : List (Option Session)) (x : Af) (q : Asking) → judged_asking r ps x q ≡ judged_asking r (veil r ps) x q
  judged_veil ps x q =
      let l = fitting q.subject ps in
      sym (ap (λ t. plainly (judged t q)) (ap (λ l. subject_refusals r q l x) (fitting_veil r q.subject ps) ∙ refusals_veiled q l x))

  pub about_veil : (q : Subject) (ps : List (Option Session)) → about (fitting q (veil r ps)) ≡ veiled r (about (fitting q ps))
  about_veil q ps = ap about (fitting_veil r q ps) ∙ about_veiled (fitting q ps)

  pub answered_veil : (o : Opening) (m : List ℕ) (ps : List (Option Session)) (v : Result Asking Rejected) → answered o r m ps v ≡ answered o r m (veil r ps) v
  answered_veil o m ps (Err e) = refl
  answered_veil o m ps (Ok q) =
      let s = about (fitting q.subject ps) in
      let bits = shown_to r q.asked s in
      let e = shown_to_veiled q.asked s in
      let whole : Session → Reply = λ t. Answered 0 (ones (shown_to r q.asked t)) (success_bytes o m (shown_to r q.asked t) t) in
      let bytes : success_bytes o m (shown_to r q.asked (veiled r s)) (veiled r s) ≡ success_bytes o m bits s =
      ap (λ b. success_bytes o m b (veiled r s)) e ∙ same_bytes o m bits (veiled r s) s (λ k h. value_veiled r s k (shown_in_view q.asked s k h))
      in
      sym (ap whole (about_veil q.subject ps) ∙ (λ i. Answered 0 (ones (e i)) (bytes i)))
