-- What is said of a line of input.
--     content line   the line up to its comment, which `#` begins, or to its end
--     judged line    what is said of it
use Rattle.std.specs.Prelude.{ℕ, Bool, true, false, cond, not, ◌||◌, List, length, Some, None, Ok, Err, Option, Result, ◌==◌}
use Rattle.std.specs.List.{take_while}
use Rattle.refusal.specs.declared.Refusal.{Refusal}
use Rattle.hexadecimal.specs.Spelling.{spelled}
use Rattle.request.specs.Askings.{Asking, Rejected}
use Rattle.e2.specs.Checks.{checked}
use Rattle.e2.specs.declared.Command.{Command}
use Rattle.e2check.specs.declared.line.Judged.{Judged}
use Rattle.e2check.specs.declared.line.Judged.TheVariants.{Nothing, Sound, Refused, NotHex}

abbrev pub content : List ℕ → List ℕ
content line = take_while (λ c. not (c == 0x23 || c == 0x0A)) line

abbrev pub verdict : ℕ → Result Command Refusal → Judged
verdict size (Ok command) = Sound command size
verdict size (Err refusal) = Refused refusal

abbrev pub of_bytes : List ℕ → Judged
of_bytes m = cond (length m == 0) Nothing (verdict (length m) (checked m))

abbrev pub of_text : Option ℕ → List ℕ → Judged
of_text None m = of_bytes m
of_text (Some column) m = NotHex column

abbrev pub judged : List ℕ → Judged
judged line = of_text (spelled 1 None (content line)).fault (spelled 1 None (content line)).bytes

abbrev pub has_message : Judged → Bool
has_message Nothing = false
has_message (Sound command size) = true
has_message (Refused refusal) = true
has_message (NotHex column) = false

-- what is said of a message once it is read to its end
abbrev pub read_further : Judged → Result Asking Rejected → Judged
read_further j (Ok asking) = j
read_further j (Err rejected) = Refused rejected.refusal
