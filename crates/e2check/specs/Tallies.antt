-- The counts of lines, one more at a time. A count that is full stays.
--     none_counted  the counts before the first line
--     counted j t   the counts t after a line that is judged j
use Rattle.std.specs.Prelude.{ℕ, ◌+◌, ◌-◌, ◌^◌, min, replicate, slice_index, slice_set}
use Rattle.refusal.specs.Refusals.{number}
use Rattle.e2check.specs.declared.line.Judged.{Judged}
use Rattle.e2check.specs.declared.line.Judged.TheVariants.{Nothing, Sound, Refused, NotHex}
use Rattle.e2check.specs.declared.tally.Tally.{Tally}

abbrev pub none_counted : Tally
none_counted = record { sound = 0; refused = replicate 64 0; unreadable = 0 }

abbrev pub more : ℕ → ℕ
more n = min (n + 1) (2 ^ 64 - 1)

abbrev pub counted : Judged → Tally → Tally
counted Nothing t = t
counted (Sound command size) t = record { sound = more t.sound; refused = t.refused; unreadable = t.unreadable }
counted (Refused r) t = record { sound = t.sound; refused = slice_set t.refused (number r) (more (slice_index t.refused (number r))); unreadable = t.unreadable }
counted (NotHex column) t = record { sound = t.sound; refused = t.refused; unreadable = more t.unreadable }
