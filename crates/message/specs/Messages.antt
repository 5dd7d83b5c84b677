-- The AVPs that every message of ours carries.
--     application_avp   the Vendor-Specific-Application-Id of e2: the same 32 bytes in every message
--     sender_avps       the Auth-Session-State, which says that no state is kept, and our Origin-Host and Origin-Realm
--     sender_size       how long these three are
use Rattle.std.specs.Prelude.{ℕ, ◌+◌, List, ◌++◌, length}
use Rattle.writer.specs.Bytes.{bytes32}
use Rattle.writer.specs.Avps.{avp_size, avp}

abbrev pub application_avp : List ℕ
application_avp = avp 260 0x40 0 (avp 266 0x40 0 (bytes32 13019) ++ avp 258 0x40 0 (bytes32 16777231))

abbrev pub sender_avps : List ℕ → List ℕ → List ℕ
sender_avps host realm = avp 277 0x40 0 (bytes32 1) ++ (avp 264 0x40 0 host ++ avp 296 0x40 0 realm)

abbrev pub sender_size : List ℕ → List ℕ → ℕ
sender_size host realm = 12 + (avp_size 0x40 (length host) + avp_size 0x40 (length realm))
