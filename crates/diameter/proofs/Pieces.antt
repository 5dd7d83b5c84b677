-- An AVP as a piece of a sequence: what its header says does not depend on what follows it.
use Rattle.std.proofs.Common.{◌≡◌, ℕ, ◌+◌, ◌-◌, ◌*◌, ◌<◌, ◌≤◌, true, cond, List, ◌++◌, length, get_or, take, drop, sym, ap, ◌∙◌, ⊎_elim, arith, length-append, length-drop}
use Rattle.std.proofs.lemmas.List.{get_or_append_left, get_or-take, take-append-le, drop-append-le, drop_at, length-take-le}
use Rattle.std.proofs.lemmas.Bool.{cases_Bool}
use Rattle.std.proofs.lemmas.Bool.Decides.{nat_tests}
use Rattle.diameter.specs.Bytes.{be32, flagged, padded}
use Rattle.diameter.specs.Avps.{code, vendor, flags, header, size, step, payload, stands, group}
use Rattle.diameter.specs.Laws.{Piece}
use Rattle.diameter.proofs.Fronts.{stands_step}

-- two sequences whose first k bytes agree, with the header of the second inside those
module _ (xs ys : List ℕ) (k : ℕ) (same : (i : ℕ) → i < k → get_or xs i 0 ≡ get_or ys i 0) (eight : 8 ≤ k) (inside : header ys ≤ k) where
  flags_agree : flags xs ≡ flags ys
  flags_agree = same 4 (omega arith)

  code_agree : code xs ≡ code ys
  code_agree =
      λ i. same 0 (omega arith) i * 16777216 + same 1 (omega arith) i * 65536 + same 2 (omega arith) i * 256 + same 3 (omega arith) i

  size_agree : size xs ≡ size ys
  size_agree = λ i. same 5 (omega arith) i * 65536 + same 6 (omega arith) i * 256 + same 7 (omega arith) i

  header_agree : header xs ≡ header ys
  header_agree = λ i. cond (flagged 0x80 (flags_agree i)) 12 8

  vendor_agree : vendor xs ≡ vendor ys
  vendor_agree =
      ⊎_elim
      (λ h.
      let twelve : 12 ≤ k = let n : header ys ≡ 12 = ap (λ b. cond b 12 8) h in omega arith in
      let number : be32 xs 8 ≡ be32 ys 8 = λ i. same 8 (omega arith) i * 16777216 + same 9 (omega arith) i * 65536 + same 10 (omega arith) i * 256 + same 11 (omega arith) i in
      λ i. cond (flagged 0x80 (flags_agree i)) (number i) 0)
      (λ h. ap (λ f. cond (flagged 0x80 f) (be32 xs 8) 0) flags_agree ∙ ap (λ b. cond b (be32 xs 8) 0) h ∙ sym (ap (λ b. cond b (be32 ys 8) 0) h))
      (cases_Bool (flagged 0x80 (flags ys)))

-- a piece with something after it
module _ (p rest : List ℕ) (w : Piece p) where
  inside : header p ≤ length p
  inside = let a = w.covers in let b = w.exact in omega arith

  kept : (i : ℕ) → i < length p → get_or (p ++ rest) i 0 ≡ get_or p i 0
  kept i l = get_or_append_left p rest 0 i l

  pub step_is : step (p ++ rest) ≡ length p
  step_is = ap padded (size_agree (p ++ rest) p (length p) kept w.headed inside) ∙ sym w.exact

  pub group_is : group (code (p ++ rest)) (vendor (p ++ rest)) ≡ group (code p) (vendor p)
  group_is = λ i. group (code_agree (p ++ rest) p (length p) kept w.headed inside i) (vendor_agree (p ++ rest) p (length p) kept w.headed inside i)

  pub stands_is : stands (p ++ rest) ≡ true
  stands_is =
      let h = header_agree (p ++ rest) p (length p) kept w.headed inside in
      let s = size_agree (p ++ rest) p (length p) kept w.headed inside in
      let k = step_is in
      let l = length-append p rest in
      let a = w.headed in
      let b = w.covers in
      let covers : header (p ++ rest) ≤ size (p ++ rest) = omega arith in
      let ends : step (p ++ rest) ≤ length (p ++ rest) = omega arith in
      let eight : 8 ≤ length (p ++ rest) = omega arith in
      grind (arith, nat_tests)

  pub payload_is : payload (p ++ rest) ≡ payload p
  payload_is =
      let h = header_agree (p ++ rest) p (length p) kept w.headed inside in
      let s = size_agree (p ++ rest) p (length p) kept w.headed inside in
      let l : size p - header p ≤ length (drop (header p) p) = let e = w.exact in simp length-drop (omega arith) in
      (λ i. take (s i - h i) (drop (h i) (p ++ rest)))
      ∙ ap (take (size p - header p)) (drop-append-le (header p) p rest inside)
      ∙ take-append-le (size p - header p) (drop (header p) p) rest l

  pub rest_is : drop (step (p ++ rest)) (p ++ rest) ≡ rest
  rest_is = drop_at p rest (step (p ++ rest)) (sym step_is)

-- the AVP at the front of a sequence is a piece of it
pub piece_of : (xs : List ℕ) → stands xs ≡ true → Piece (take (step xs) xs)
piece_of xs h =
    let f = stands_step xs h in
    let p : List ℕ = take (step xs) xs in
    let l : length p ≡ step xs = length-take-le (step xs) xs f.1 in
    let same : (i : ℕ) → i < step xs → get_or p i 0 ≡ get_or xs i 0 = λ i b. get_or-take (step xs) xs i 0 b in
    let hs : header p ≡ header xs = header_agree p xs (step xs) same f.0 (omega arith) in
    let ss : size p ≡ size xs = size_agree p xs (step xs) same f.0 (omega arith) in
    record { headed = omega arith; covers = omega arith; exact = l ∙ ap padded (sym ss) }
