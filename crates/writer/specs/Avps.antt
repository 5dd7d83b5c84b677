-- An AVP as bytes.
--     head_size flags                 how long its header is: 12 bytes with flag 80, else 8
--     padding n                       how many zeros fill n bytes up to a multiple of four
--     avp_size flags n                how long the AVP with n bytes of data is: header, data and padding
--     avp_header code flags vendor n  its header before n bytes of data; the vendor is written with flag 80
--     avp code flags vendor payload   the whole AVP: header, data, and zeros up to a multiple of four
use Rattle.std.specs.Prelude.{ℕ, ◌+◌, ◌-◌, cond, List, [], ◌∷◌, ◌++◌, length}
use Rattle.diameter.specs.Bytes.{flagged, padded}
use Rattle.writer.specs.Bytes.{bytes24, bytes32, zeros}

abbrev pub head_size : ℕ → ℕ
head_size flags = cond (flagged 0x80 flags) 12 8

abbrev pub padding : ℕ → ℕ
padding n = padded n - n

abbrev pub avp_size : ℕ → ℕ → ℕ
avp_size flags n = padded (head_size flags + n)

abbrev pub avp_header : ℕ → ℕ → ℕ → ℕ → List ℕ
avp_header code flags vendor n = bytes32 code ++ (flags ∷ (bytes24 (head_size flags + n) ++ cond (flagged 0x80 flags) (bytes32 vendor) []))

abbrev pub avp : ℕ → ℕ → ℕ → List ℕ → List ℕ
avp code flags vendor payload = avp_header code flags vendor (length payload) ++ (payload ++ zeros (padding (length payload)))
