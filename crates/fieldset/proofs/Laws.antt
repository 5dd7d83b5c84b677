-- Laws of the sets: what each operation on bits says of the members, and how many there are.
use Rattle.std.proofs.Common.{◌≡◌, ℕ, zero, suc, ◌+◌, ◌-◌, ◌/◌, ◌%◌, ◌^◌, ◌<◌, ◌≤◌, true, false, not, ◌&&◌, ◌||◌, sym, ap, ◌∙◌, arith}
use lib.Bits.{bit_and, bit_or, and_step, and_le_l}
use lib.Count.{ones, ones_step, ones-le}
use Rattle.std.specs.Int.{bit_at, w16}
use Rattle.std.proofs.lemmas.Bool.Decides.{nat_tests}
use Rattle.std.proofs.lemmas.Nat.Bits.{bit_at-suc, bit_at_and, bit_at_or, bit_at_not, bit_at_ones, bit_at_above, same_from_bits_below}
use Rattle.fieldset.specs.Sets.{has, minus, inside, how_many}

pub has_or : (a b k : ℕ) → has (bit_or a b) k ≡ (has a k || has b k)
has_or a b k = let e = bit_at_or a b k in grind (arith, nat_tests)

pub has_and : (a b k : ℕ) → has (bit_and a b) k ≡ (has a k && has b k)
has_and a b k = let e = bit_at_and a b k in grind (arith, nat_tests)

pub has_high : (n k : ℕ) → n < 65536 → 16 ≤ k → has n k ≡ false
has_high n k h l = let e = bit_at_above n 16 k h l in grind (arith, nat_tests)

minus_half : (a b : ℕ) → minus a b / 2 ≡ minus (a / 2) (b / 2)
minus_half a b = omega (arith, and_step a b, and_le_l (a / 2) (b / 2))

bit_minus : (k a b : ℕ) → bit_at (minus a b) k ≡ bit_at a k - bit_at b k
bit_minus zero a b = omega (arith, and_step a b, and_le_l a b)
bit_minus (suc k) a b =
    bit_at-suc (minus a b) k ∙ ap (λ (n : ℕ). bit_at n k) (minus_half a b) ∙ bit_minus k (a / 2) (b / 2)
    ∙ (λ i. sym (bit_at-suc a k) i - sym (bit_at-suc b k) i)

pub has_minus : (a b k : ℕ) → has (minus a b) k ≡ (has a k && not (has b k))
has_minus a b k = let e = bit_minus k a b in grind (arith, nat_tests)

-- what the code computes by `&` and `!`
pub minus_is : (a b : ℕ) → a < 65536 → b < 65536 → bit_and a (65535 - b) ≡ minus a b
minus_is a b h l =
    same_from_bits_below 16 (bit_and a (65535 - b)) (minus a b) (omega (arith, and_le_l a (65535 - b))) (omega arith)
    (λ i j. omega (arith, bit_at_and a (65535 - b) i, bit_at_not w16 b i l j, bit_minus i a b))

pub inside_each : (a b : ℕ) → inside a b ≡ true → (k : ℕ) → has a k ≡ true → has b k ≡ true
inside_each a b h k m =
    let e : bit_and a b ≡ a = grind (arith, nat_tests) in
    let f : has (bit_and a b) k ≡ has a k = ap (λ (n : ℕ). has n k) e in
    let g = has_and a b k in
    grind (arith, nat_tests)

pub inside_all : (d a b : ℕ) → a < 2 ^ d → ((k : ℕ) → has a k ≡ true → has b k ≡ true) → inside a b ≡ true
inside_all d a b h each =
    let e : bit_and a b ≡ a =
    same_from_bits_below d (bit_and a b) a (omega (arith, and_le_l a b)) h
    (λ i j. let e = bit_at_and a b i in let f = each i in grind (arith, nat_tests)) in
    grind (arith, nat_tests)

-- the lowest number counted apart
count_step : (d n : ℕ) → how_many (suc d) n ≡ n % 2 + how_many d (n / 2)
count_step zero n = grind (arith, nat_tests)
count_step (suc d) n =
    let e = count_step d n in
    let f = bit_at-suc n d in
    grind (arith, nat_tests)

pub ones_count : (d n : ℕ) → n < 2 ^ d → ones n ≡ how_many d n
ones_count zero n h = omega (arith, ones-le 0 n h)
ones_count (suc d) n h =
    omega (arith, ones_step n, ones_count d (n / 2) (omega arith), count_step d n)

-- a number of ten ones has all ten
pub has_ten : (n k : ℕ) → n ≡ 1023 → k < 10 → has n k ≡ true
has_ten n k e h = let b : bit_at 1023 k ≡ 1 = bit_at_ones 10 k h in grind (arith, nat_tests)
