-- Parts of the right length.
use Rattle.std.proofs.Common.{◌≡◌, ℕ, ◌≤◌, true, leb, List, length}
use Rattle.std.proofs.lemmas.Bool.{and_parts, leb-true}
use Rattle.dictionary.specs.Addresses.{sized}

pub sized_within : (least most : ℕ) (xs : List ℕ) → sized least most xs ≡ true → (least ≤ length xs) × (length xs ≤ most)
sized_within least most xs h =
    let p = and_parts (leb least (length xs)) (leb (length xs) most) h in
    (leb-true least (length xs) p.0, leb-true (length xs) most p.1)
