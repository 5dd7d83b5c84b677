-- The same AVPs as values.
--     one c xs           the AVP c of the base protocol with these data, flag M set
--     application_part   the Vendor-Specific-Application-Id
--     sender_parts       the Auth-Session-State, the Origin-Host and the Origin-Realm
use Rattle.std.specs.Prelude.{ℕ, List, [], ◌∷◌, ◌++◌}
use Rattle.writer.specs.Bytes.{bytes32}
use Rattle.writer.specs.Avps.{avp}
use Rattle.writer.specs.Parts.{Part}

abbrev pub one : ℕ → List ℕ → Part
one c xs = record { code = c; flags = 0x40; vendor = 0; payload = xs }

abbrev pub application_part : Part
application_part = one 260 (avp 266 0x40 0 (bytes32 13019) ++ avp 258 0x40 0 (bytes32 16777231))

abbrev pub sender_parts : List ℕ → List ℕ → List Part
sender_parts host realm = one 277 (bytes32 1) ∷ one 264 host ∷ one 296 realm ∷ []
