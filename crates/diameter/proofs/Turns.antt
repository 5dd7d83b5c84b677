-- One turn of a loop over AVPs: what a split says of the list of AVPs and of soundness.
use Rattle.std.proofs.Common.{◌≡◌, ℕ, zero, suc, ◌-◌, ◌<◌, ◌≤◌, Bool, true, false, cond, ◌&&◌, List, [], ◌∷◌, length, drop, sym, refl, ap, ◌∙◌, arith}
use Rattle.std.proofs.lemmas.Bool.{true≢false}
use Rattle.diameter.specs.Avps.{code, vendor, stands, step, group}
use Rattle.diameter.specs.Lists.{Avp, front, cut, avps}
use Rattle.diameter.specs.Soundness.{sound}
use Rattle.diameter.specs.Views.{Splits, avp_of}
use Rattle.diameter.specs.declared.avp.AvpView.{AvpView}
use Rattle.diameter.proofs.Fronts.{stands_step, drop_tail}
use Rattle.diameter.proofs.Walks.{sound_plain, sound_deep, sound_group}

cut_skip : (k : ℕ) (xs : List ℕ) → k ≤ length xs → cut k xs ≡ cut 0 (drop k xs)
unfolding cut
cut_skip zero xs h = refl
cut_skip (suc k) [] h = absurd (omega arith)
cut_skip (suc k) (x ∷ xs) h = cut_skip k xs (omega arith)

pub avps_stop : (xs : List ℕ) → stands xs ≡ false → avps xs ≡ []
unfolding cut
avps_stop [] h = refl
avps_stop (x ∷ xs) h = ap (λ b. cond b (front (x ∷ xs) ∷ cut (step (x ∷ xs) - 1) xs) []) h

pub avps_more : (xs : List ℕ) → stands xs ≡ true → avps xs ≡ front xs ∷ avps (drop (step xs) xs)
unfolding cut
avps_more [] h = absurd (true≢false (sym h))
avps_more (x ∷ xs) h =
    let f = stands_step (x ∷ xs) h in
    let k : ℕ = step (x ∷ xs) in
    ap (λ b. cond b (front (x ∷ xs) ∷ cut (k - 1) xs) []) h
    ∙ ap (λ l. front (x ∷ xs) ∷ l) (cut_skip (k - 1) xs (omega arith) ∙ ap (cut 0) (drop_tail k x xs (omega arith)))

module _ {v : AvpView} {rest xs : List ℕ} (s : Splits v rest xs) where
  pub split_more : avps xs ≡ avp_of v ∷ avps rest
  split_more = avps_more xs s.there ∙ (λ i. sym s.view i ∷ avps (sym s.rest_is i))

  -- the name that the view shows is the one at the front
  name_is : (b : Bool) → b ≡ group v.code v.vendor → group (code xs) (vendor xs) ≡ b
  name_is b g = sym (ap (λ (a : Avp). group a.code a.vendor) s.view) ∙ sym g

  pub split_plain : (n : ℕ) → false ≡ group v.code v.vendor → sound n rest ≡ sound n xs
  split_plain n g = ap (sound n) s.rest_is ∙ sym (sound_plain n xs s.there (name_is _ g))

  pub split_deep : (n : ℕ) → true ≡ group v.code v.vendor → n ≡ 0 → false ≡ sound n xs
  split_deep n g e = sym (sound_deep n xs s.there (name_is _ g) e)

  -- the data of the group at the front were judged b
  pub split_group : (n : ℕ) (b : Bool) → true ≡ group v.code v.vendor → 0 < n → b ≡ sound (n - 1) v.payload.now → sound n xs ≡ (b && sound n rest)
  split_group zero b g l e = absurd (omega arith)
  split_group (suc n) b g l e =
      let k : suc n - 1 ≡ n = omega arith in
      sound_group n xs s.there (name_is _ g)
      ∙ (λ i. sym (e ∙ (λ j. sound (k j) (s.view j).payload)) i && sound (suc n) (sym s.rest_is i))
