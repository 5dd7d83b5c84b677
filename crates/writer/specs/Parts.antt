-- AVPs to be written, as values.
--     Part              an AVP to be written: its code, flags, vendor and data
--     part_bytes p      its bytes
--     parts_bytes ps    the bytes of parts put end to end
--     parts_size ps     how long these are
--     part_vendor p     the vendor that the part's header names: 0 without flag 80
--     part_avp p        the AVP that is to be read from its bytes
--     Encodable p       its numbers fit their bytes
--     SoundPart n p    it is no group, or a group whose data are sound one level below n
use Rattle.std.specs.Prelude.{◌≡◌, ℕ, suc, ◌+◌, ◌^◌, ◌<◌, true, false, cond, List, [], ◌∷◌, length}
use Rattle.std.specs.List.{flat_map}
use Rattle.diameter.specs.Bytes.{flagged}
use Rattle.diameter.specs.Avps.{group}
use Rattle.diameter.specs.Lists.{Avp}
use Rattle.diameter.specs.Laws.{Sound}
use Rattle.writer.specs.Avps.{head_size, avp_size, avp}

pub record Part : Type 0 where
  pub code : ℕ
  pub flags : ℕ
  pub vendor : ℕ
  pub payload : List ℕ

abbrev pub part_bytes : Part → List ℕ
part_bytes p = avp p.code p.flags p.vendor p.payload

abbrev pub parts_bytes : List Part → List ℕ
parts_bytes ps = flat_map part_bytes ps

abbrev pub parts_size : List Part → ℕ
parts_size [] = 0
parts_size (p ∷ ps) = avp_size p.flags (length p.payload) + parts_size ps

abbrev pub part_vendor : Part → ℕ
part_vendor p = cond (flagged 0x80 p.flags) p.vendor 0

abbrev pub part_avp : Part → Avp
part_avp p = record { code = p.code; vendor = part_vendor p; flags = p.flags; payload = p.payload; octets = part_bytes p }

pub record Encodable (p : Part) : Type 0 where
  pub code_fits : p.code < 2 ^ 32
  pub vendor_fits : p.vendor < 2 ^ 32
  pub size_fits : head_size p.flags + length p.payload < 2 ^ 24

pub data SoundPart : ℕ → Part → Type 0 where
  plain : {n : ℕ} {p : Part} → group p.code (part_vendor p) ≡ false → SoundPart n p
  nested : {n : ℕ} {p : Part} → group p.code (part_vendor p) ≡ true → Sound n p.payload → SoundPart (suc n) p
