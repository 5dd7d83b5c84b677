-- What holds of all that is written.
--     Stored before at bytes after upto   a store byte by byte: `bytes` stand from `at` to `upto`, and all else as before
--     ReadBackAt xs p rest              the AVP of the part p stands at the front of xs, and is followed by rest
use Rattle.std.specs.Prelude.{◌≡◌, ℕ, suc, ◌+◌, ◌^◌, ◌<◌, ◌≤◌, true, false, List, ◌∷◌, ◌++◌, map, length, drop, slice_index}
use Rattle.std.specs.List.{All}
use Rattle.diameter.specs.Avps.{stands, step, group}
use Rattle.diameter.specs.Headers.{header_of, body}
use Rattle.diameter.specs.Lists.{front, avps}
use Rattle.diameter.specs.Laws.{Sound}
use Rattle.diameter.specs.Soundness.{sound}
use Rattle.writer.specs.declared.writer.Writer.{Writer}
use Rattle.writer.specs.Stores.{Appends, room}
use Rattle.writer.specs.Parts.{Part, part_bytes, parts_bytes, part_vendor, part_avp, Encodable, SoundPart}
use Rattle.writer.specs.Headers.{message_header}

pub record Stored (before : List ℕ) (at : ℕ) (bytes after : List ℕ) (upto : ℕ) : Type 0 where
  pub earlier : (i : ℕ) → i < at → slice_index after i ≡ slice_index before i
  pub inside : (i : ℕ) → i < length bytes → slice_index after (at + i) ≡ slice_index bytes i
  pub later : (i : ℕ) → upto ≤ i → slice_index after i ≡ slice_index before i

-- a store changes no byte before the end reached, and none past its own
abbrev pub StoresOnlyAppend : Type 0
StoresOnlyAppend = (w w' : Writer) (bytes : List ℕ) → room (length bytes) w → Appends w bytes w' → Stored w.buffer.now w.end bytes w'.buffer.now w'.end

-- two stores in a row are one of both
abbrev pub StoresCompose : Type 0
StoresCompose = (w₀ w₁ w₂ : Writer) (xs ys : List ℕ) → Appends w₀ xs w₁ → Appends w₁ ys w₂ → Appends w₀ (xs ++ ys) w₂

pub record ReadBackAt (xs : List ℕ) (p : Part) (rest : List ℕ) : Type 0 where
  pub there : stands xs ≡ true
  pub same : front xs ≡ part_avp p
  pub rest_is : drop (step xs) xs ≡ rest
  pub list_is : avps xs ≡ part_avp p ∷ avps rest

-- what is read back is what was written
abbrev pub ReadBack : Type 0
ReadBack = (p : Part) (rest : List ℕ) → Encodable p → ReadBackAt (part_bytes p ++ rest) p rest

-- an AVP that is no group leaves soundness to what follows it
abbrev pub PlainKeepsSound : Type 0
PlainKeepsSound =
    (n : ℕ) (p : Part) (rest : List ℕ) → Encodable p → group p.code (part_vendor p) ≡ false → sound n (part_bytes p ++ rest) ≡ sound n rest

-- and so does a group whose data are sound one level below
abbrev pub GroupKeepsSound : Type 0
GroupKeepsSound =
    (n : ℕ) (p : Part) (rest : List ℕ) → Encodable p → group p.code (part_vendor p) ≡ true → sound n p.payload ≡ true
    → sound (suc n) (part_bytes p ++ rest) ≡ sound (suc n) rest

-- parts put end to end are a sound sequence, as the rule words it
abbrev pub PartsSound : Type 0
PartsSound = (n : ℕ) (ps : List Part) → All (λ p. Encodable p × SoundPart n p) ps → Sound n (parts_bytes ps)

-- and are read back one by one
abbrev pub PartsReadBack : Type 0
PartsReadBack = (ps : List Part) → All Encodable ps → avps (parts_bytes ps) ≡ map part_avp ps

-- the header of a message says what was written, in version 1
abbrev pub HeaderReadBack : Type 0
HeaderReadBack =
    (size flags command application hop end : ℕ) (rest : List ℕ)
    → size < 2 ^ 24 → command < 2 ^ 24 → application < 2 ^ 32 → hop < 2 ^ 32 → end < 2 ^ 32
    → (header_of (message_header size flags command application hop end ++ rest)
    ≡ record { version = 1; length = size; flags = flags; command = command; application = application; hop_by_hop = hop; end_to_end = end })
    × (body (message_header size flags command application hop end ++ rest) ≡ rest)
