-- Soundness, one AVP at a time.
use Rattle.std.proofs.Common.{◌≡◌, ℕ, zero, suc, ◌-◌, ◌<◌, ◌≤◌, Bool, true, false, not, ◌&&◌, ◌||◌, eqb, List, [], ◌∷◌, length, drop, sym, refl, ap, ◌∙◌, arith}
use Rattle.std.proofs.lemmas.Bool.Decides.{nat_tests}
use Rattle.diameter.specs.Avps.{stands, step, payload, group, code, vendor}
use Rattle.diameter.specs.Soundness.{walk, sound}
use Rattle.diameter.proofs.Fronts.{stands_step, drop_tail}

-- the bytes still to pass over are dropped
walk_skip : (inner : List ℕ → Bool) (k : ℕ) (xs : List ℕ) → k ≤ length xs → walk inner k xs ≡ walk inner 0 (drop k xs)
unfolding walk
walk_skip inner zero xs h = refl
walk_skip inner (suc k) [] h = absurd (omega arith)
walk_skip inner (suc k) (x ∷ xs) h = walk_skip inner k xs (omega arith)

walk_more : (inner : List ℕ → Bool) (xs : List ℕ) → stands xs ≡ true → walk inner 0 xs ≡ ((not (group (code xs) (vendor xs)) || inner (payload xs)) && walk inner 0 (drop (step xs) xs))
unfolding walk
walk_more inner [] h = refl
walk_more inner (x ∷ xs) h =
    let f = stands_step (x ∷ xs) h in
    let k : ℕ = step (x ∷ xs) in
    let e : walk inner (k - 1) xs ≡ walk inner 0 (drop k (x ∷ xs)) = walk_skip inner (k - 1) xs (omega arith) ∙ ap (walk inner 0) (drop_tail k x xs (omega arith)) in
    ap (λ b. b && ((not (group (code (x ∷ xs)) (vendor (x ∷ xs))) || inner (payload (x ∷ xs))) && walk inner (k - 1) xs)) h
    ∙ ap (λ b. (not (group (code (x ∷ xs)) (vendor (x ∷ xs))) || inner (payload (x ∷ xs))) && b) e

walk_broken : (inner : List ℕ → Bool) (xs : List ℕ) → 0 < length xs → stands xs ≡ false → walk inner 0 xs ≡ false
unfolding walk
walk_broken inner [] l h = absurd (omega arith)
walk_broken inner (x ∷ xs) l h = rw h refl

pub sound_none : (n : ℕ) → sound n [] ≡ true
unfolding sound walk
sound_none zero = refl
sound_none (suc n) = refl

pub sound_broken : (n : ℕ) (xs : List ℕ) → 0 < length xs → stands xs ≡ false → sound n xs ≡ false
unfolding sound
sound_broken zero xs l h = walk_broken _ xs l h
sound_broken (suc n) xs l h = walk_broken _ xs l h

-- where no AVP stands, only the end is sound
pub sound_stop : (n : ℕ) (xs : List ℕ) → stands xs ≡ false → eqb (length xs) 0 ≡ sound n xs
sound_stop n [] h = sym (sound_none n)
sound_stop n (x ∷ xs) h = grind (arith, nat_tests, sound_broken n (x ∷ xs) (omega arith) h)

-- the data of a group, with one level less
deeper : ℕ → List ℕ → Bool
deeper zero xs = false
deeper (suc n) xs = sound n xs

sound_more : (n : ℕ) (xs : List ℕ) → stands xs ≡ true → sound n xs ≡ ((not (group (code xs) (vendor xs)) || deeper n (payload xs)) && sound n (drop (step xs) xs))
unfolding sound deeper
sound_more zero xs h = walk_more _ xs h
sound_more (suc n) xs h = walk_more _ xs h

pub sound_plain : (n : ℕ) (xs : List ℕ) → stands xs ≡ true → group (code xs) (vendor xs) ≡ false → sound n xs ≡ sound n (drop (step xs) xs)
sound_plain n xs h g = sound_more n xs h ∙ ap (λ b. (not b || deeper n (payload xs)) && sound n (drop (step xs) xs)) g

pub sound_deep : (n : ℕ) (xs : List ℕ) → stands xs ≡ true → group (code xs) (vendor xs) ≡ true → n ≡ 0 → sound n xs ≡ false
unfolding deeper
sound_deep zero xs h g e = sound_more 0 xs h ∙ ap (λ b. (not b || false) && sound 0 (drop (step xs) xs)) g
sound_deep (suc n) xs h g e = absurd (omega arith)

pub sound_group : (n : ℕ) (xs : List ℕ) → stands xs ≡ true → group (code xs) (vendor xs) ≡ true → sound (suc n) xs ≡ (sound n (payload xs) && sound (suc n) (drop (step xs) xs))
unfolding deeper
sound_group n xs h g = sound_more (suc n) xs h ∙ ap (λ b. (not b || sound n (payload xs)) && sound (suc n) (drop (step xs) xs)) g
