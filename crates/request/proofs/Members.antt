-- Sets of bits with at most one member.
use Rattle.std.proofs.Common.{◌≡◌, ℕ, suc, ◌+◌, ◌-◌, ◌/◌, ◌%◌, ◌^◌, ◌<◌, false, eqb, ltb, ap, ◌∙◌, subst, ⊎_elim, arith, pow-add, ltb-false, ltb-true}
use Rattle.std.proofs.lemmas.Nat.{pow_pos, shl-shr, div_below, pow_below}
use Rattle.std.proofs.lemmas.Bool.{cases_Bool}
use Rattle.std.proofs.lemmas.Bool.Decides.{nat_tests}
use Rattle.fieldset.specs.Sets.{has}

-- sets of bits with one member
pow_same : (k : ℕ) → 2 ^ k / 2 ^ k ≡ 1
pow_same k = ap (λ (n : ℕ). n / 2 ^ k) (omega arith) ∙ shl-shr 1 k

pow_less : (d j : ℕ) → (2 ^ (suc d + j)) / 2 ^ j % 2 ≡ 0
pow_less d j =
    let e : 2 ^ (suc d + j) / 2 ^ j ≡ 2 ^ suc d = ap (λ (n : ℕ). n / 2 ^ j) (pow-add 2 (suc d) j) ∙ shl-shr (2 ^ suc d) j in
    omega (arith, e)

pow_more : (k j : ℕ) → k < j → 2 ^ k / 2 ^ j ≡ 0
pow_more k j h = omega (arith, div_below (2 ^ k) (2 ^ j) 1 (pow_pos j) (omega (arith, pow_below k j h)))

pub has_power : (k j : ℕ) → has (2 ^ k) j ≡ eqb j k
has_power k j =
    ⊎_elim
    (λ h.
    let lt : j < k = omega (arith, ltb-true) in
    let e : suc (k - suc j) + j ≡ k = omega arith in
    let p : 2 ^ k / 2 ^ j % 2 ≡ 0 = subst (λ (n : ℕ). 2 ^ n / 2 ^ j % 2 ≡ 0) e (pow_less (k - suc j) j) in
    grind (arith, nat_tests))
    (λ h.
    ⊎_elim
    (λ f.
    let lt : k < j = omega (arith, ltb-true) in
    let p : 2 ^ k / 2 ^ j ≡ 0 = pow_more k j lt in
    grind (arith, nat_tests))
    (λ f.
    let e : k ≡ j = omega (arith, ltb-false) in
    let p : 2 ^ k / 2 ^ j ≡ 1 = subst (λ (n : ℕ). 2 ^ k / 2 ^ n ≡ 1) e (pow_same k) in
    grind (arith, nat_tests))
    (cases_Bool (ltb k j)))
    (cases_Bool (ltb j k))

pub has_nothing : (k : ℕ) → has 0 k ≡ false
has_nothing k =
    let e : 0 / 2 ^ k ≡ 0 = omega (arith, div_below 0 (2 ^ k) 1 (pow_pos k) (omega (arith, pow_pos k))) in
    ap (λ (n : ℕ). eqb (n % 2) 1) e
