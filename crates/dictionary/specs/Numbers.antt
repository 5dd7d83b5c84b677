-- The numbers that AVPs of four bytes carry, and what they stand for. Each meaning is given here and nowhere else.
--     word xs      the number in data of four bytes, 0 in data of another length
--     field_of n   the field that Requested-Information n asks for
--     event_of n   the event that Event-Type n names
--     time_of n    the time that Expiry-Time n names, in seconds since 1900
use Rattle.std.specs.Prelude.{ℕ, cond, List, length, Some, None, Option, ◌==◌, nat_le}
use Rattle.diameter.specs.Bytes.{be32}

abbrev pub word : List ℕ → ℕ
word xs = cond (length xs == 4) (be32 xs 0) 0

abbrev pub field_of : ℕ → Option ℕ
field_of n = cond (nat_le n 9) (Some n) None

abbrev pub event_of : ℕ → Option ℕ
event_of n = cond (nat_le n 10) (Some n) None

abbrev pub time_of : ℕ → ℕ
time_of n = n
