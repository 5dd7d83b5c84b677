-- The members of a set in ascending order, taken off from the lowest.
use Rattle.std.proofs.Common.{◌≡◌, ℕ, zero, suc, ◌+◌, ◌^◌, ◌<◌, ◌≤◌, Bool, true, false, not, ◌&&◌, cond, eqb, [], ◌∷◌, ◌++◌, length, sym, refl, ap, ◌∙◌, inl, inr, arith, length-append}
use lib.Count.{count_trailing_zeros, trailing_of_zero}
use Rattle.std.specs.Int.{bit_at, w16}
use Rattle.std.proofs.lemmas.Bool.{cases_eq}
use Rattle.std.proofs.lemmas.Bool.Decides.{nat_tests}
use Rattle.std.proofs.lemmas.Nat.Bits.{bit_at-zero, bit_at-pow_same, bit_at-pow_other, bit_at-trailing_zeros}
use Rattle.fieldset.specs.Sets.{has, how_many, members}

pub none_below : (d n : ℕ) → ((k : ℕ) → k < d → has n k ≡ false) → members d n ≡ []
unfolding members
none_below zero n none = refl
none_below (suc d) n none =
    λ i. none_below d n (λ k h. none k (omega arith)) i ++ cond (none d (omega arith) i) (d ∷ []) []

has_pow : (k j : ℕ) → has (2 ^ k) j ≡ eqb j k
has_pow k j =
    elim (cases_eq j k) [
      | inl e ↦ let b : bit_at (2 ^ k) j ≡ 1 = ap (bit_at (2 ^ k)) e ∙ bit_at-pow_same k in grind (arith, nat_tests)
      | inr ne ↦ let b = bit_at-pow_other k j ne in grind (arith, nat_tests)
    ]

-- k is the lowest member of n, and m has the others
pub lowest_first : (d n m k : ℕ) → k < d → has n k ≡ true → ((j : ℕ) → j < k → has n j ≡ false)
    → ((j : ℕ) → has m j ≡ (has n j && not (eqb j k))) → members d n ≡ k ∷ members d m
unfolding members
lowest_first zero n m k l here none others = absurd (omega arith)
lowest_first (suc d) n m k l here none others =
    elim (cases_eq d k) [
      | inl e ↦
          let last : has n d ≡ true = ap (has n) e ∙ here in
          let gone : has m d ≡ false = let o = others d in grind (arith, nat_tests) in
          let before : members d n ≡ [] = none_below d n (λ j h. none j (omega arith)) in
          let after : members d m ≡ [] = none_below d m (λ j h. let o = others j in let z = none j (omega arith) in grind (arith, nat_tests)) in
          (λ i. before i ++ cond (last i) (e i ∷ []) []) ∙ sym (λ i. k ∷ (after i ++ cond (gone i) (d ∷ []) []))
      | inr ne ↦
          let same : has n d ≡ has m d = let o = others d in grind (arith, nat_tests) in
          λ i. lowest_first d n m k (omega arith) here none others i ++ cond (same i) (d ∷ []) []
    ]

-- a set of sixteen bits has no member below d where its lowest is from d on
pub none_in : (d n : ℕ) → n < 65536 → d ≤ count_trailing_zeros 16 n → members d n ≡ []
none_in d n h l =
    none_below d n (λ k j. elim (cases_eq n 0) [
      | inl z ↦ let e : bit_at n k ≡ 0 = ap (λ (m : ℕ). bit_at m k) z ∙ bit_at-zero k in grind (arith, nat_tests)
      | inr ne ↦ let e : bit_at n k ≡ 0 = (bit_at-trailing_zeros w16 n (omega arith) h).2 k (omega arith) in grind (arith, nat_tests)
    ])

-- m is n without its lowest member k
pub lowest_in : (d n m k : ℕ) → n < 65536 → k ≡ count_trailing_zeros 16 n → k < d → d ≤ 16
    → ((j : ℕ) → has m j ≡ (has n j && not (has (2 ^ k) j))) → members d n ≡ k ∷ members d m
lowest_in d n m k h e l w others =
    let some : 0 < n =
    elim (cases_eq n 0) [
      | inl z ↦ absurd (omega (arith, ap (count_trailing_zeros 16) z, trailing_of_zero 16))
      | inr ne ↦ omega arith
    ] in
    let low = bit_at-trailing_zeros w16 n some h in
    let here : has n k ≡ true = let b : bit_at n k ≡ 1 = ap (bit_at n) e ∙ low.1 in grind (arith, nat_tests) in
    lowest_first d n m k l here
    (λ j i. let b : bit_at n j ≡ 0 = low.2 j (omega arith) in grind (arith, nat_tests))
    (λ j. others j ∙ ap (λ (b : Bool). has n j && not b) (has_pow k j))

cond_length : (b : Bool) (d : ℕ) → length (cond b (d ∷ []) []) ≡ cond b 1 0
cond_length true d = refl
cond_length false d = refl

pub members_count : (d n : ℕ) → length (members d n) ≡ how_many d n
unfolding members
members_count zero n = refl
members_count (suc d) n =
    length-append (members d n) (cond (has n d) (d ∷ []) []) ∙ (λ i. members_count d n i + cond_length (has n d) d i)
