-- What is promised of hexadecimal text above its definition.
--     upper n, lower n    the digit of n
--     written digit bs    the bytes bs, two digits each
use Rattle.std.specs.Prelude.{◌≡◌, ℕ, ◌+◌, ◌/◌, ◌%◌, ◌<◌, cond, List, [], ◌∷◌, None, nat_lt, slice_index}
use Rattle.hexadecimal.specs.Spelling.{spelled}

abbrev pub upper : ℕ → ℕ
upper n = cond (nat_lt n 10) (n + 0x30) (n + 0x37)

abbrev pub lower : ℕ → ℕ
lower n = cond (nat_lt n 10) (n + 0x30) (n + 0x57)

abbrev pub written : (ℕ → ℕ) → List ℕ → List ℕ
written digit_of [] = []
written digit_of (b ∷ bs) = digit_of (b / 16) ∷ (digit_of (b % 16) ∷ written digit_of bs)

-- whatever bytes are written in digits of either case are what is read back
abbrev pub ReadBack : Type 0
ReadBack =
    (k : ℕ) (bs : List ℕ)
    → ((i : ℕ) → slice_index bs i < 256)
    → (spelled k None (written upper bs) ≡ record { bytes = bs; fault = None }) × (spelled k None (written lower bs) ≡ record { bytes = bs; fault = None })
