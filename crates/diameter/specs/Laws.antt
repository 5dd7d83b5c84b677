-- What is promised of sequences above their definitions.
--     Piece p      p is one AVP: it has a header, its length covers the header, and with its padding it is all of p
--     Sound n xs   in the words of the rule: xs is AVPs end to end, and the data of each group are sound in turn, one level less; a group
--                  with no level left is unsound
use Rattle.std.specs.Prelude.{◌≡◌, ℕ, suc, ◌≤◌, true, false, List, [], ◌∷◌, ◌++◌, length, Decides}
use Rattle.std.specs.List.{flat_map}
use Rattle.diameter.specs.Bytes.{padded}
use Rattle.diameter.specs.Avps.{code, vendor, header, size, payload, group}
use Rattle.diameter.specs.Lists.{Avp, avps}
use Rattle.diameter.specs.Soundness.{sound}

pub record Piece (p : List ℕ) : Type 0 where
  pub headed : 8 ≤ length p
  pub covers : header p ≤ size p
  pub exact : length p ≡ padded (size p)

pub data Sound : ℕ → List ℕ → Type 0 where
  none : {n : ℕ} → Sound n []
  plain : {n : ℕ} {p rest : List ℕ} → Piece p → group (code p) (vendor p) ≡ false → Sound n rest → Sound n (p ++ rest)
  nested : {n : ℕ} {p rest : List ℕ} → Piece p → group (code p) (vendor p) ≡ true → Sound n (payload p) → Sound (suc n) rest → Sound (suc n) (p ++ rest)

-- the computed test answers exactly whether the rule holds
abbrev pub SoundnessDecided : Type 0
SoundnessDecided = (n : ℕ) (xs : List ℕ) → Decides (sound n xs) (Sound n xs)

-- a sound sequence is its AVPs put end to end
abbrev pub SoundIsWhole : Type 0
SoundIsWhole = (n : ℕ) (xs : List ℕ) → sound n xs ≡ true → flat_map (λ (a : Avp). a.octets) (avps xs) ≡ xs

-- the AVP of code 1 and vendor 0 that states the length n, in twelve bytes
abbrev pub stating : ℕ → List ℕ
stating n = 0 ∷ 0 ∷ 0 ∷ 1 ∷ 0x40 ∷ 0 ∷ 0 ∷ n ∷ 0x61 ∷ 0 ∷ 0 ∷ 0 ∷ []

-- in twelve bytes the length 9 is sound, 13 passes the end, and 7 does not cover the header
abbrev pub LengthsJudged : Type 0
LengthsJudged = (n : ℕ) → (sound n (stating 9) ≡ true) × (sound n (stating 13) ≡ false) × (sound n (stating 7) ≡ false)
