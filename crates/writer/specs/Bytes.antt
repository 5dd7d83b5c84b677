-- Numbers as bytes, the highest first, and runs of zeros.
--     bytes24 x   the number x in three bytes
--     bytes32 x   the number x in four bytes
--     zeros n     n zero bytes
use Rattle.std.specs.Prelude.{ℕ, ◌/◌, ◌%◌, List, [], ◌∷◌, replicate}

abbrev pub bytes24 : ℕ → List ℕ
bytes24 x = (x / 65536 % 256) ∷ (x / 256 % 256) ∷ (x % 256) ∷ []

abbrev pub bytes32 : ℕ → List ℕ
bytes32 x = (x / 16777216 % 256) ∷ (x / 65536 % 256) ∷ (x / 256 % 256) ∷ (x % 256) ∷ []

abbrev pub zeros : ℕ → List ℕ
zeros n = replicate n 0
