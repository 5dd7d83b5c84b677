-- Numbers and flags in a list of bytes. A byte past the end of the list counts as 0.
--     be24 xs i           the number in the three bytes from place i on, the highest first
--     be32 xs i           the same in four bytes
--     flagged mask byte   some bit of the mask is set in the byte
--     padded n            n, or the next multiple of four
use Rattle.std.specs.Prelude.{ℕ, ◌+◌, ◌*◌, ◌/◌, Bool, not, List, ◌==◌, bit_and, slice_index}

abbrev pub be24 : List ℕ → ℕ → ℕ
be24 xs i = slice_index xs i * 65536 + slice_index xs (i + 1) * 256 + slice_index xs (i + 2)

abbrev pub be32 : List ℕ → ℕ → ℕ
be32 xs i = slice_index xs i * 16777216 + slice_index xs (i + 1) * 65536 + slice_index xs (i + 2) * 256 + slice_index xs (i + 3)

abbrev pub flagged : ℕ → ℕ → Bool
flagged mask byte = not (bit_and byte mask == 0)

abbrev pub padded : ℕ → ℕ
padded n = (n + 3) / 4 * 4
