-- What holds of the AVPs that every message carries, and of the AVPs of fields.
--     is_group_field k   the AVP of field k is a group
use Rattle.std.specs.Prelude.{◌≡◌, ℕ, ◌<◌, Bool, ◌||◌, [], ◌∷◌, ◌==◌}
use Rattle.diameter.specs.Avps.{group}
use Rattle.message.specs.Fields.{field_code, field_vendor}
use Rattle.message.specs.Messages.{application_avp}

abbrev pub is_group_field : ℕ → Bool
is_group_field k = k == 1 || (k == 3 || (k == 7 || k == 8))

-- the groups among the fields are 1, 3, 7 and 8
abbrev pub GroupFields : Type 0
GroupFields = (k : ℕ) → k < 10 → group (field_code k) (field_vendor k) ≡ is_group_field k

-- the 32 bytes that every message carries
abbrev pub ApplicationWorked : Type 0
ApplicationWorked =
    application_avp
    ≡ 0x00 ∷ 0x00 ∷ 0x01 ∷ 0x04 ∷ 0x40 ∷ 0x00 ∷ 0x00 ∷ 0x20 ∷ 0x00 ∷ 0x00 ∷ 0x01 ∷ 0x0A ∷ 0x40 ∷ 0x00 ∷ 0x00 ∷ 0x0C ∷ 0x00 ∷ 0x00 ∷ 0x32 ∷ 0xDB ∷ 0x00 ∷ 0x00 ∷ 0x01 ∷ 0x02 ∷ 0x40 ∷ 0x00 ∷ 0x00 ∷ 0x0C ∷ 0x01 ∷ 0x00 ∷ 0x00 ∷ 0x0F ∷ []
