use Rattle.std.proofs.Common.{◌≡◌, ◌+◌, length, take, drop, None, vec_items}
use Rattle.hexadecimal.specs.Spelling.{spelled, after}
use Rattle.hexadecimal.proofs.Turns.{Small}
use Rattle.hexadecimal.proofs.decode.Given as goal

-- what is appended, and what the rest of the text spells after it, is what the whole text spells
abbrev pub invariant-loop-i : goal.invariant-loop-i
invariant-loop-i l =
    (after (vec_items l.out) (spelled (l.i + 1) l.high (drop l.i l.text)) ≡ after (vec_items l.initial.out) (spelled 1 None l.text))
    × (take (length (vec_items l.initial.out)) (vec_items l.out) ≡ vec_items l.initial.out)
    × Small l.high
