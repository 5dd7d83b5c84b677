-- The AVP at the front of a list of bytes.
--     code, flags, size, vendor   what its header says; without flag 80 the vendor is 0
--     header xs    how long its header is: 12 bytes with flag 80, else 8
--     step xs      how far the next AVP is: its size with the padding
--     payload xs   its data
--     stands xs    an AVP stands here: its header is there, its length covers the header, and with its padding it ends inside
--     group c v    the AVP of code c and vendor v is a group: its data are AVPs
use Rattle.std.specs.Prelude.{ℕ, ◌-◌, Bool, cond, ◌&&◌, ◌||◌, List, length, take, drop, ◌==◌, nat_le, slice_index}
use Rattle.diameter.specs.Bytes.{be24, be32, flagged, padded}

abbrev pub code : List ℕ → ℕ
code xs = be32 xs 0

abbrev pub flags : List ℕ → ℕ
flags xs = slice_index xs 4

-- header and data, without the padding
abbrev pub size : List ℕ → ℕ
size xs = be24 xs 5

abbrev pub header : List ℕ → ℕ
header xs = cond (flagged 0x80 (flags xs)) 12 8

abbrev pub vendor : List ℕ → ℕ
vendor xs = cond (flagged 0x80 (flags xs)) (be32 xs 8) 0

abbrev pub step : List ℕ → ℕ
step xs = padded (size xs)

abbrev pub payload : List ℕ → List ℕ
payload xs = take (size xs - header xs) (drop (header xs) xs)

abbrev pub stands : List ℕ → Bool
stands xs = nat_le 8 (length xs) && (nat_le (header xs) (size xs) && nat_le (step xs) (length xs))

-- of the base protocol, and of ETSI
abbrev pub group : ℕ → ℕ → Bool
group c v =
    (v == 0 && (c == 260 || (c == 279 || (c == 284 || c == 297))))
    || (v == 13019 && (c == 300 || (c == 303 || (c == 304 || (c == 306 || (c == 350 || (c == 357 || c == 358)))))))
