-- Hexadecimal text, read into bytes.
--     digit c               what the character c says as a digit, in either case
--     blank c               a character that is passed over
--     spelled k high text   what the text spells, where its first character is in column k and `high` is a digit that waits for its second one
use Rattle.std.specs.Prelude.{ℕ, ◌+◌, ◌-◌, ◌*◌, Bool, cond, ◌&&◌, ◌||◌, List, [], ◌∷◌, ◌++◌, Some, None, Option, ◌==◌, nat_le}

abbrev pub digit : ℕ → Option ℕ
digit c =
    cond (nat_le 0x30 c && nat_le c 0x39) (Some (c - 0x30))
    (cond (nat_le 0x61 c && nat_le c 0x66) (Some (c - 0x57))
    (cond (nat_le 0x41 c && nat_le c 0x46) (Some (c - 0x37)) None))

-- a space, a tab or a carriage return
abbrev pub blank : ℕ → Bool
blank c = c == 0x20 || (c == 0x09 || c == 0x0D)

-- the bytes up to the first character that cannot be read, and the column of that
pub record Spelled : Type 0 where
  pub bytes : List ℕ
  pub fault : Option ℕ

abbrev pub after : List ℕ → Spelled → Spelled
after bs s = record { bytes = bs ++ s.bytes; fault = s.fault }

-- the byte that a digit completes, and what waits then
abbrev pub completed : Option ℕ → ℕ → List ℕ
completed None d = []
completed (Some h) d = (h * 16 + d) ∷ []

abbrev pub waiting : Option ℕ → ℕ → Option ℕ
waiting None d = Some d
waiting (Some h) d = None

-- at the end no digit may wait
abbrev pub ended : ℕ → Option ℕ → Option ℕ
ended k None = None
ended k (Some h) = Some k

abbrev pub by_digit : Option ℕ → ℕ → (ℕ → Spelled) → Spelled
by_digit None k later = record { bytes = []; fault = Some k }
by_digit (Some d) k later = later d

unfoldable pub spelled : ℕ → Option ℕ → List ℕ → Spelled
spelled k high [] = record { bytes = []; fault = ended k high }
spelled k high (c ∷ text) =
    cond (blank c) (spelled (k + 1) high text) (by_digit (digit c) k (λ d. after (completed high d) (spelled (k + 1) (waiting high d) text)))
