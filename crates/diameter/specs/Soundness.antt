-- Soundness of a sequence of AVPs, computed.
--     sound n xs         xs is all AVPs, and groups nest at most n deep in it
--     walk inner k xs    k bytes of the AVP before are still to pass over, the rest is all AVPs, and the data of each group pass the test `inner`
use Rattle.std.specs.Prelude.{ℕ, zero, suc, ◌-◌, Bool, false, not, ◌&&◌, ◌||◌, List, [], ◌∷◌, ◌==◌}
use Rattle.diameter.specs.Avps.{code, vendor, step, payload, stands, group}

unfoldable pub walk : (List ℕ → Bool) → ℕ → List ℕ → Bool
walk inner k [] = k == 0
walk inner (suc k) (x ∷ xs) = walk inner k xs
walk inner zero (x ∷ xs) =
    stands (x ∷ xs)
    && ((not (group (code (x ∷ xs)) (vendor (x ∷ xs))) || inner (payload (x ∷ xs)))
    && walk inner (step (x ∷ xs) - 1) xs)

unfoldable pub sound : ℕ → List ℕ → Bool
sound zero xs = walk (λ _. false) 0 xs
sound (suc n) xs = walk (sound n) 0 xs
