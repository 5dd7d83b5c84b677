-- Rows of rights.
--     blank          the row without rights
--     wrong_row r    r has bits past the ten fields, or overrides what it does not allow
use Rattle.std.specs.Prelude.{Bool, not, ◌||◌, nat_le}
use Rattle.fieldset.specs.Sets.{inside}
use Rattle.rulebook.specs.declared.row.Row.{Row}

abbrev pub blank : Row
blank = record { allowed = 0; overriding = 0 }

abbrev pub wrong_row : Row → Bool
wrong_row r = nat_le 1024 r.allowed || (nat_le 1024 r.overriding || not (inside r.overriding r.allowed))
