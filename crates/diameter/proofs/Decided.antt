-- Soundness as the rule words it, and as it is computed.
use Rattle.std.proofs.Common.{◌≡◌, ℕ, zero, suc, ◌<◌, ◌≤◌, Bool, true, false, ◌&&◌, List, [], ◌∷◌, ◌++◌, length, take, drop, Decides, sym, refl, ap, ◌∙◌, subst, ⊎_elim, arith, take-append-drop}
use Rattle.std.specs.List.{flat_map}
use Rattle.std.proofs.lemmas.Bool.{cases_Bool, and_parts, true≢false}
use Rattle.diameter.specs.Avps.{group, code, vendor, step, payload, stands}
use Rattle.diameter.specs.Lists.{Avp, avps, cut}
use Rattle.diameter.specs.Soundness.{sound, walk}
use Rattle.diameter.specs.Laws.{Piece, Sound, none, plain, nested, stating}
use Rattle.diameter.proofs.Fronts.{rest_shorter, payload_shorter}
use Rattle.diameter.proofs.Walks.{sound_none, sound_broken, sound_plain, sound_group, sound_deep}
use Rattle.diameter.proofs.Turns.{avps_more}
use Rattle.diameter.proofs.Pieces.{group_is, stands_is, payload_is, rest_is, piece_of}

computed : {n : ℕ} {xs : List ℕ} → Sound n xs → sound n xs ≡ true
computed {n} none = sound_none n
computed (plain {n} {p} {rest} w g s) =
    sound_plain n (p ++ rest) (stands_is p rest w) (group_is p rest w ∙ g) ∙ ap (sound n) (rest_is p rest w) ∙ computed s
computed (nested {n} {p} {rest} w g i s) =
    let inner : sound n (payload (p ++ rest)) ≡ true = ap (sound n) (payload_is p rest w) ∙ computed i in
    let later : sound (suc n) (drop (step (p ++ rest)) (p ++ rest)) ≡ true = ap (sound (suc n)) (rest_is p rest w) ∙ computed s in
    sound_group n (p ++ rest) (stands_is p rest w) (group_is p rest w ∙ g) ∙ (λ j. inner j && later j)

-- the AVP at the front, as a piece
module _ (xs : List ℕ) (h : stands xs ≡ true) where
  head : List ℕ
  head = take (step xs) xs

  tail : List ℕ
  tail = drop (step xs) xs

  whole : head ++ tail ≡ xs
  unfolding head tail
  whole = take-append-drop (step xs) xs

  piece : Piece head
  unfolding head
  piece = piece_of xs h

  named_alike : (b : Bool) → group (code xs) (vendor xs) ≡ b → group (code head) (vendor head) ≡ b
  named_alike b g = sym (group_is head tail piece) ∙ ap (λ l. group (code l) (vendor l)) whole ∙ g

  payload_alike : payload head ≡ payload xs
  payload_alike = sym (payload_is head tail piece) ∙ ap payload whole

  put_plain : {n : ℕ} → group (code xs) (vendor xs) ≡ false → Sound n (drop (step xs) xs) → Sound n xs
  unfolding tail
  put_plain {n} g s = subst (Sound n) whole (plain piece (named_alike false g) s)

  put_nested : {n : ℕ} → group (code xs) (vendor xs) ≡ true → Sound n (payload xs) → Sound (suc n) (drop (step xs) xs) → Sound (suc n) xs
  unfolding tail
  put_nested {n} g i s = subst (Sound (suc n)) whole (nested piece (named_alike true g) (subst (Sound n) (sym payload_alike) i) s)

-- what holds of shorter sequences holds of this one
module _ (k : ℕ) (rec : (m : ℕ) (ys : List ℕ) → length ys ≤ k → sound m ys ≡ true → Sound m ys) where
  of_group : (n : ℕ) (xs : List ℕ) → length xs ≤ suc k → stands xs ≡ true → group (code xs) (vendor xs) ≡ true → sound n xs ≡ true → Sound n xs
  of_group zero xs l f g h = absurd (true≢false (sym h ∙ sound_deep 0 xs f g refl))
  of_group (suc n) xs l f g h =
      let both = and_parts _ _ (sym (sound_group n xs f g) ∙ h) in
      let s = rest_shorter xs f in
      let t = payload_shorter xs f in
      put_nested xs f g (rec n (payload xs) (omega arith) both.0) (rec (suc n) (drop (step xs) xs) (omega arith) both.1)

  of_any : (n : ℕ) (xs : List ℕ) → 0 < length xs → length xs ≤ suc k → sound n xs ≡ true → Sound n xs
  of_any n xs some l h =
      ⊎_elim
      (λ f. ⊎_elim
      (λ g. of_group n xs l f g h)
      (λ g. let s = rest_shorter xs f in put_plain xs f g (rec n (drop (step xs) xs) (omega arith) (sym (sound_plain n xs f g) ∙ h)))
      (cases_Bool (group (code xs) (vendor xs))))
      (λ f. absurd (true≢false (sym h ∙ sound_broken n xs some f)))
      (cases_Bool (stands xs))

-- by the length
derived : (k n : ℕ) (xs : List ℕ) → length xs ≤ k → sound n xs ≡ true → Sound n xs
derived k n [] l h = none
derived zero n (x ∷ xs) l h = absurd (omega arith)
derived (suc k) n (x ∷ xs) l h = of_any k (λ m ys. derived k m ys) n (x ∷ xs) (omega arith) l h

pub decided : (n : ℕ) (xs : List ℕ) → Decides (sound n xs) (Sound n xs)
decided n xs = (derived (length xs) n xs (omega arith), computed)

-- the AVPs of a sequence whose first AVP is a piece
joined_more : (p rest : List ℕ) → Piece p → flat_map (λ (a : Avp). a.octets) (avps rest) ≡ rest → flat_map (λ (a : Avp). a.octets) (avps (p ++ rest)) ≡ p ++ rest
joined_more p rest w e =
    ap (flat_map (λ (a : Avp). a.octets)) (avps_more (p ++ rest) (stands_is p rest w))
    ∙ ap (λ l. take (step (p ++ rest)) (p ++ rest) ++ flat_map (λ (a : Avp). a.octets) (avps l)) (rest_is p rest w)
    ∙ ap (λ l. take (step (p ++ rest)) (p ++ rest) ++ l) (e ∙ sym (rest_is p rest w))
    ∙ take-append-drop (step (p ++ rest)) (p ++ rest)

end_to_end : {n : ℕ} {xs : List ℕ} → Sound n xs → flat_map (λ (a : Avp). a.octets) (avps xs) ≡ xs
unfolding cut
end_to_end none = refl
end_to_end (plain {n} {p} {rest} w g s) = joined_more p rest w (end_to_end s)
end_to_end (nested {n} {p} {rest} w g i s) = joined_more p rest w (end_to_end s)

pub sound_whole : (n : ℕ) (xs : List ℕ) → sound n xs ≡ true → flat_map (λ (a : Avp). a.octets) (avps xs) ≡ xs
sound_whole n xs h = end_to_end ((decided n xs).0 h)

pub judged_lengths : (n : ℕ) → (sound n (stating 9) ≡ true) × (sound n (stating 13) ≡ false) × (sound n (stating 7) ≡ false)
unfolding sound walk
judged_lengths zero = (refl, refl, refl)
judged_lengths (suc n) = (refl, refl, refl)
