-- The lowest member taken off a set by the number below it.
use Rattle.std.proofs.Common.{◌≡◌, ℕ, zero, suc, ◌-◌, ◌*◌, ◌/◌, ◌%◌, ◌<◌, ◌≤◌, Bool, true, false, cond, eqb, List, [], ◌∷◌, ◌++◌, map, sym, refl, ap, ◌∙◌, inl, inr, append_assoc, append-nil, arith}
use mathlib.Core.List.{map-append}
use lib.Bits.{bit_and, and_step, and_self}
use lib.Count.{count_trailing_zeros, under}
use Rattle.std.proofs.lemmas.Bool.{cases_eq}
use Rattle.std.proofs.lemmas.Bool.Decides.{nat_tests}
use Rattle.std.proofs.lemmas.Nat.Bits.{bit_at-suc}
use Rattle.fieldset.specs.Sets.{has, members}

-- zero as a list, where it is a member
abbrev lowest_of : ℕ → List ℕ
lowest_of n = cond (has n 0) (0 ∷ []) []

map_cond : (b : Bool) (d : ℕ) → map suc (cond b (d ∷ []) []) ≡ cond b (suc d ∷ []) []
map_cond true d = refl
map_cond false d = refl

-- zero apart, the others from the halved number
members_step : (d n : ℕ) → members (suc d) n ≡ lowest_of n ++ map suc (members d (n / 2))
unfolding members
members_step zero n = sym (append-nil (lowest_of n))
members_step (suc d) n =
    let h : has n (suc d) ≡ has (n / 2) d = ap (λ (b : ℕ). eqb b 1) (bit_at-suc n d) in
    (λ i. members_step d n i ++ cond (h i) (suc d ∷ []) [])
    ∙ append_assoc (lowest_of n) (map suc (members d (n / 2))) (cond (has (n / 2) d) (suc d ∷ []) [])
    ∙ ap (λ (xs : List ℕ). lowest_of n ++ (map suc (members d (n / 2)) ++ xs)) (sym (map_cond (has (n / 2) d) d))
    ∙ ap (λ (xs : List ℕ). lowest_of n ++ xs) (sym (map-append suc (members d (n / 2)) (cond (has (n / 2) d) (d ∷ []) [])))

odd_step : (d n : ℕ) → n % 2 ≡ 1 → members (suc d) n ≡ 0 ∷ map suc (members d (n / 2))
odd_step d n o =
    let h : has n 0 ≡ true = grind (arith, nat_tests) in
    members_step d n ∙ ap (λ (b : Bool). cond b (0 ∷ []) [] ++ map suc (members d (n / 2))) h

even_step : (d n : ℕ) → n % 2 ≡ 0 → members (suc d) n ≡ map suc (members d (n / 2))
even_step d n e =
    let h : has n 0 ≡ false = grind (arith, nat_tests) in
    members_step d n ∙ ap (λ (b : Bool). cond b (0 ∷ []) [] ++ map suc (members d (n / 2))) h

trailing_odd : (w n : ℕ) → n % 2 ≡ 1 → count_trailing_zeros (suc w) n ≡ 0
unfolding count_trailing_zeros
trailing_odd w n o = ap (λ (b : ℕ). under b (count_trailing_zeros w (n / 2))) o

trailing_even : (w n : ℕ) → n % 2 ≡ 0 → count_trailing_zeros (suc w) n ≡ suc (count_trailing_zeros w (n / 2))
unfolding count_trailing_zeros
trailing_even w n e = ap (λ (b : ℕ). under b (count_trailing_zeros w (n / 2))) e

-- n without its lowest member
abbrev cleared : ℕ → ℕ
cleared n = bit_and n (n - 1)

cleared_odd : (n : ℕ) → n % 2 ≡ 1 → cleared n ≡ n - 1
cleared_odd n o =
    let e : (n - 1) / 2 ≡ n / 2 = omega arith in
    omega (arith, and_step n (n - 1), ap (bit_and (n / 2)) e, and_self (n / 2))

cleared_even : (n : ℕ) → n % 2 ≡ 0 → cleared n ≡ cleared (n / 2) * 2
cleared_even n o =
    let e : (n - 1) / 2 ≡ n / 2 - 1 = omega arith in
    omega (arith, and_step n (n - 1), ap (bit_and (n / 2)) e)

pub lowest_cleared : (d w n : ℕ) → d ≤ w → count_trailing_zeros w n < d → members d n ≡ count_trailing_zeros w n ∷ members d (bit_and n (n - 1))
lowest_cleared zero w n l h = absurd (omega arith)
lowest_cleared (suc d) zero n l h = absurd (omega arith)
lowest_cleared (suc d) (suc w) n l h =
    elim (cases_eq (n % 2) 1) [
      | inl o ↦
          let z : count_trailing_zeros (suc w) n ≡ 0 = trailing_odd w n o in
          let c = cleared_odd n o in
          let half : cleared n / 2 ≡ n / 2 = omega arith in
          odd_step d n o
          ∙ (λ i. sym z i ∷ map suc (members d (sym half i)))
          ∙ ap (λ (xs : List ℕ). count_trailing_zeros (suc w) n ∷ xs) (sym (even_step d (cleared n) (omega arith)))
      | inr ne ↦
          let e : n % 2 ≡ 0 = omega arith in
          let z : count_trailing_zeros (suc w) n ≡ suc (count_trailing_zeros w (n / 2)) = trailing_even w n e in
          let c = cleared_even n e in
          let half : cleared n / 2 ≡ cleared (n / 2) = omega arith in
          even_step d n e
          ∙ ap (map suc) (lowest_cleared d w (n / 2) (omega arith) (omega arith))
          ∙ (λ i. sym z i ∷ map suc (members d (sym half i)))
          ∙ ap (λ (xs : List ℕ). count_trailing_zeros (suc w) n ∷ xs) (sym (even_step d (cleared n) (omega arith)))
    ]
