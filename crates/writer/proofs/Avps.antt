-- AVPs as bytes: how long they are, and what their header says.
use Rattle.std.proofs.Common.{◌≡◌, ℕ, ◌+◌, ◌-◌, ◌%◌, ◌^◌, ◌<◌, Bool, true, false, cond, List, [], ◌∷◌, ◌++◌, length, take, drop, sym, refl, ap, ◌∙◌, arith, length-append}
use lib.ListN.{length-replicate}
use Rattle.std.proofs.lemmas.List.{take_at}
use Rattle.std.proofs.lemmas.Bool.Decides.{nat_tests}
use Rattle.diameter.specs.Bytes.{be32, flagged, padded}
use Rattle.diameter.specs.Avps as at_front
use Rattle.diameter.specs.Laws.{Piece}
use Rattle.writer.proofs.Numbers.{be24_bytes24, be32_bytes32}
use Rattle.writer.specs.Bytes.{bytes24, bytes32, zeros}
use Rattle.writer.specs.Avps.{head_size, padding, avp_size, avp_header, avp}

-- an AVP with a vendor or without
abbrev laid : Bool → ℕ → ℕ → ℕ → List ℕ → List ℕ
laid b code flags vendor payload =
    bytes32 code ++ (flags ∷ (bytes24 (cond b 12 8 + length payload) ++ (cond b (bytes32 vendor) [] ++ (payload ++ zeros (padding (length payload))))))

length_laid : (b : Bool) (code flags vendor : ℕ) (payload : List ℕ) → length (laid b code flags vendor payload) ≡ padded (cond b 12 8 + length payload)
length_laid true code flags vendor payload = simp (length-append, length-replicate) (omega arith)
length_laid false code flags vendor payload = simp (length-append, length-replicate) (omega arith)

pub length_avp : (code flags vendor : ℕ) (payload : List ℕ) → length (avp code flags vendor payload) ≡ avp_size flags (length payload)
length_avp code flags vendor payload = length_laid (flagged 0x80 flags) code flags vendor payload

-- AVPs fill whole words
pub avp_size_whole : (flags n : ℕ) → avp_size flags n % 4 ≡ 0
avp_size_whole flags n = omega arith

-- an AVP whose header was written with the length n, before its data
pub sized_avp : (code flags vendor n : ℕ) (payload : List ℕ) → n ≡ length payload → avp_header code flags vendor n ++ (payload ++ zeros (padding n)) ≡ avp code flags vendor payload
sized_avp code flags vendor n payload e = λ i. avp_header code flags vendor (e i) ++ (payload ++ zeros (padding (e i)))

module _ (code flags vendor : ℕ) (payload rest : List ℕ) where
  pub code_avp : code < 2 ^ 32 → at_front.code (avp code flags vendor payload ++ rest) ≡ code
  code_avp h = be32_bytes32 code rest h

  vendor_laid : (b : Bool) → vendor < 2 ^ 32 → cond b (be32 (laid b code flags vendor payload ++ rest) 8) 0 ≡ cond b vendor 0
  vendor_laid true h = be32_bytes32 vendor rest h
  vendor_laid false h = refl

  pub vendor_avp : vendor < 2 ^ 32 → at_front.vendor (avp code flags vendor payload ++ rest) ≡ cond (flagged 0x80 flags) vendor 0
  vendor_avp h = vendor_laid (flagged 0x80 flags) h

module _ (code flags vendor : ℕ) (payload : List ℕ) (fits : head_size flags + length payload < 2 ^ 24) where
  size_alone : at_front.size (avp code flags vendor payload) ≡ head_size flags + length payload
  size_alone = be24_bytes24 (head_size flags + length payload) [] fits

  pub piece_avp : Piece (avp code flags vendor payload)
  piece_avp =
      let l = length_avp code flags vendor payload in
      let s = size_alone in
      record { headed = grind (arith, nat_tests); covers = omega arith; exact = l ∙ ap padded (sym s) }

  data_laid : (b : Bool) → take (length payload) (drop (cond b 12 8) (laid b code flags vendor payload)) ≡ payload
  data_laid true = take_at payload (zeros (padding (length payload))) (length payload) refl
  data_laid false = take_at payload (zeros (padding (length payload))) (length payload) refl

  pub payload_avp : at_front.payload (avp code flags vendor payload) ≡ payload
  payload_avp =
      let n : at_front.size (avp code flags vendor payload) - head_size flags ≡ length payload = let s = size_alone in omega arith in
      (λ i. take (n i) (drop (head_size flags) (avp code flags vendor payload))) ∙ data_laid (flagged 0x80 flags)
