-- The AVPs that show the fields of a session, by the number of the field.
--     field_code k, field_vendor k, field_flags k   the name of field k's AVP, and the flags that we write with it
--     field_part k xs          the AVP of field k with the value xs
--     field_size k n           how long it is where the value has n bytes
--     field_parts values ks    the AVPs of the fields ks, each with its value
--     limits_size ks           how long these are with values as long as they may be, and fields_most the same of all ten
--     is_field a               the AVP a has the name of a field
use Rattle.std.specs.Prelude.{ℕ, ◌+◌, Bool, cond, ◌||◌, List, [], ◌∷◌, map, ◌==◌}
use Rattle.diameter.specs.Lists.{Avp, named}
use Rattle.writer.specs.Avps.{avp_size}
use Rattle.writer.specs.Parts.{Part}
use Rattle.message.specs.Limits.{field_limit}

abbrev pub field_code : ℕ → ℕ
field_code k =
    cond (k == 0) 1
    (cond (k == 1) 350
    (cond (k == 2) 351
    (cond (k == 3) 306
    (cond (k == 4) 352
    (cond (k == 5) 302
    (cond (k == 6) 313
    (cond (k == 7) 303
    (cond (k == 8) 304 361))))))))

abbrev pub field_vendor : ℕ → ℕ
field_vendor k = cond (k == 0) 0 13019

abbrev pub field_flags : ℕ → ℕ
field_flags k = cond (k == 0) 0x40 0x80

abbrev pub field_part : ℕ → List ℕ → Part
field_part k xs = record { code = field_code k; flags = field_flags k; vendor = field_vendor k; payload = xs }

abbrev pub field_size : ℕ → ℕ → ℕ
field_size k n = avp_size (field_flags k) n

abbrev pub field_parts : (ℕ → List ℕ) → List ℕ → List Part
field_parts values ks = map (λ k. field_part k (values k)) ks

abbrev pub limits_size : List ℕ → ℕ
limits_size [] = 0
limits_size (k ∷ ks) = field_size k (field_limit k) + limits_size ks

abbrev pub fields_most : ℕ
fields_most = limits_size (0 ∷ 1 ∷ 2 ∷ 3 ∷ 4 ∷ 5 ∷ 6 ∷ 7 ∷ 8 ∷ 9 ∷ [])

abbrev pub is_field : Avp → Bool
is_field a =
    named 1 0 a
    || (named 350 13019 a
    || (named 351 13019 a
    || (named 306 13019 a
    || (named 352 13019 a
    || (named 302 13019 a || (named 313 13019 a || (named 303 13019 a || (named 304 13019 a || named 361 13019 a))))))))
