-- What an answer tells of the AVPs of a refused request.
--     kept a         how many bytes of the AVP a are copied: its header and its data
--     copy a         the copy: header and data as received, and zeros up to a multiple of four
--     blank k        the missing AVP k: its header, and zeros of the shortest length
--     failed_avp f   the Failed-AVP, or nothing
--     failed_size f  how long it is
--     kept_of f, held_of f   how many bytes are copied for the fault f, and how many there are to copy from
use Rattle.std.specs.Prelude.{ℕ, ◌+◌, List, [], ◌++◌, length, take}
use Rattle.diameter.specs.Lists.{Avp}
use Rattle.dictionary.specs.Names.{code, vendor, flags, shortest}
use Rattle.dictionary.specs.declared.known.Known.{Known}
use Rattle.request.specs.Askings.{Fault, nothing, copied, lacks}
use Rattle.writer.specs.Bytes.{zeros}
use Rattle.writer.specs.Avps.{head_size, padding, avp_size, avp}

abbrev pub kept : Avp → ℕ
kept a = head_size a.flags + length a.payload

abbrev pub copy : Avp → List ℕ
copy a = take (kept a) a.octets ++ zeros (padding (kept a))

abbrev pub blank : Known → List ℕ
blank k = avp (code k) (flags k) (vendor k) (zeros (shortest k))

abbrev pub failed_avp : Fault → List ℕ
failed_avp nothing = []
failed_avp (copied a) = avp 279 0x40 0 (copy a)
failed_avp (lacks k) = avp 279 0x40 0 (blank k)

abbrev pub failed_size : Fault → ℕ
failed_size nothing = 0
failed_size (copied a) = 8 + avp_size a.flags (length a.payload)
failed_size (lacks k) = 8 + avp_size (flags k) (shortest k)

abbrev pub kept_of : Fault → ℕ
kept_of nothing = 0
kept_of (copied a) = kept a
kept_of (lacks k) = 0

abbrev pub held_of : Fault → ℕ
held_of nothing = 0
held_of (copied a) = length a.octets
held_of (lacks k) = 0
