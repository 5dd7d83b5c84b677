-- The fields that a rank reaches.
use Rattle.std.proofs.Common.{◌≡◌, ℕ, zero, suc, ◌+◌, ◌*◌, ◌/◌, ◌%◌, ◌^◌, ◌<◌, ◌≤◌, cond, eqb, leb, List, [], ◌∷◌, ◌++◌, length, get_or, take, ap, ◌∙◌, arith, length-take, pow_pos}
use lib.Bits.{bit_or, or_shifted_r}
use Rattle.std.proofs.lemmas.Bool.Decides.{nat_tests}
use Rattle.std.proofs.lemmas.List.{take_more}
use Rattle.std.proofs.lemmas.Nat.{one_shl}
use Rattle.std.proofs.lemmas.Nat.Bits.{bit_at-suc}
use Rattle.fieldset.specs.Sets.{has}
use Rattle.rulebook.specs.Books.{reached}

pub reached_below : (rank : ℕ) (ns : List ℕ) (m : ℕ) → length ns ≤ m → reached rank ns < 2 ^ m
reached_below rank [] m h = pow_pos m
reached_below rank (n ∷ ns) zero h = absurd (omega arith)
reached_below rank (n ∷ ns) (suc m) h =
    let i : reached rank ns < 2 ^ m = reached_below rank ns m (omega arith) in
    let c : cond (leb n rank) 1 0 ≤ 1 = grind (arith, nat_tests) in
    omega arith

reached-push : (rank : ℕ) (ns : List ℕ) (n : ℕ) → reached rank (ns ++ n ∷ []) ≡ reached rank ns + cond (leb n rank) (2 ^ length ns) 0
reached-push rank [] n = grind (arith, nat_tests)
reached-push rank (m ∷ ns) n = let i = reached-push rank ns n in grind (arith, nat_tests)

reached_more : (rank : ℕ) (ns : List ℕ) (k : ℕ) → k < length ns
    → reached rank (take (k + 1) ns) ≡ reached rank (take k ns) + cond (leb (get_or ns k 0) rank) (2 ^ k) 0
reached_more rank ns k l =
    let e : length (take k ns) ≡ k = omega (arith, length-take k ns) in
    ap (reached rank) (take_more ns k 0 l) ∙ reached-push rank (take k ns) (get_or ns k 0)
    ∙ ap (λ (n : ℕ). reached rank (take k ns) + cond (leb (get_or ns k 0) rank) (2 ^ n) 0) e

-- the need of field k is small enough
pub reached_here : (rank : ℕ) (ns : List ℕ) (k bits : ℕ) → k < length ns → k < 16 → get_or ns k 0 ≤ rank → bits ≡ reached rank (take k ns)
    → bit_or bits (1 * 2 ^ k % 2 ^ 16) ≡ reached rank (take (k + 1) ns)
reached_here rank ns k bits l m n e =
    let below : bits < 2 ^ k = omega (arith, reached_below rank (take k ns) k (omega (arith, length-take k ns))) in
    let one : 1 * 2 ^ k % 2 ^ 16 ≡ 1 * 2 ^ k = omega (arith, one_shl k 16 m) in
    let more = reached_more rank ns k l in
    ap (bit_or bits) one ∙ or_shifted_r 1 k bits below ∙ grind (arith, nat_tests)

-- and here too large
pub reached_not : (rank : ℕ) (ns : List ℕ) (k bits : ℕ) → k < length ns → rank < get_or ns k 0 → bits ≡ reached rank (take k ns)
    → bits ≡ reached rank (take (k + 1) ns)
reached_not rank ns k bits l n e = let m = reached_more rank ns k l in grind (arith, nat_tests)

-- a field is reached where its need is at most the rank
pub reached_each : (rank : ℕ) (ns : List ℕ) (k : ℕ) → k < length ns → has (reached rank ns) k ≡ leb (get_or ns k 0) rank
reached_each rank [] k h = absurd (omega arith)
reached_each rank (n ∷ ns) zero h = grind (arith, nat_tests)
reached_each rank (n ∷ ns) (suc k) h =
    let half : reached rank (n ∷ ns) / 2 ≡ reached rank ns = let c : cond (leb n rank) 1 0 ≤ 1 = grind (arith, nat_tests) in omega arith in
    ap (λ (b : ℕ). eqb b 1) (bit_at-suc (reached rank (n ∷ ns)) k) ∙ ap (λ (m : ℕ). has m k) half ∙ reached_each rank ns k (omega arith)

-- what one more need says of the fields that are reached
pub ruleset reaching = (reached_here, reached_not, reached_below)
