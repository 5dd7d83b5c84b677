-- The AVP at the front: how far it reaches.
use Rattle.std.proofs.Common.{◌≡◌, ℕ, zero, suc, ◌-◌, ◌<◌, ◌≤◌, true, List, ◌∷◌, length, drop, ap, arith, length-drop, length-take}
use Rattle.std.proofs.lemmas.Bool.Decides.{nat_tests}
use Rattle.diameter.specs.Avps.{stands, header, size, step, payload}

-- it is at least a header long, and ends inside
pub stands_step : (xs : List ℕ) → stands xs ≡ true → (8 ≤ step xs) × (step xs ≤ length xs) × (header xs ≤ size xs) × (size xs ≤ step xs)
stands_step xs h = grind (arith, nat_tests)

pub drop_tail : (k x : ℕ) (xs : List ℕ) → 0 < k → drop (k - 1) xs ≡ drop k (x ∷ xs)
drop_tail zero x xs h = absurd (omega arith)
drop_tail (suc k) x xs h = ap (λ n. drop n xs) (omega arith)

pub rest_shorter : (xs : List ℕ) → stands xs ≡ true → length (drop (step xs) xs) < length xs
rest_shorter xs h = let f = stands_step xs h in simp length-drop (omega arith)

pub payload_shorter : (xs : List ℕ) → stands xs ≡ true → length (payload xs) < length xs
payload_shorter xs h = let f = stands_step xs h in simp (length-take, length-drop) (grind (arith, nat_tests))
