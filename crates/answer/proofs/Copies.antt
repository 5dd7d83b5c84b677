-- AVPs of a request, copied.
use Rattle.std.proofs.Common.{◌≡◌, ℕ, suc, ◌+◌, ◌-◌, ◌*◌, ◌<◌, ◌≤◌, true, cond, ◌&&◌, List, [], ◌∷◌, ◌++◌, length, get_or, take, drop, sym, ap, ◌∙◌, subst, ⊎_elim, append-nil, arith, length-append, length-drop, length-take, take-take}
use lib.ListN.{length-replicate}
use Rattle.std.specs.List.{All}
use Rattle.std.proofs.lemmas.List.{get_or_append_left, get_or-take, take-append-le, drop-append-le, take_at, length-take-le, drop_all, drop-take, take_all}
use Rattle.std.proofs.lemmas.List.Elements.{All-nil, All-cons, All-weaker}
use Rattle.std.proofs.lemmas.Bool.{cases_Bool, and_parts, true≢false}
use Rattle.std.proofs.lemmas.Bool.Decides.{nat_tests}
use Rattle.diameter.specs.Bytes.{be32, flagged, padded}
use Rattle.diameter.specs.Avps.{code, vendor, flags, header, size, step, payload, stands, group}
use Rattle.diameter.specs.Lists.{Avp, front, avps, cut}
use Rattle.diameter.specs.Soundness.{sound}
use Rattle.diameter.specs.Laws.{Piece, Sound, none, plain, nested}
use Rattle.diameter.proofs.Decided.{decided}
use Rattle.diameter.proofs.Fronts.{stands_step}
use Rattle.diameter.proofs.Pieces.{group_is, stands_is, step_is, payload_is, rest_is}
use Rattle.diameter.proofs.Turns.{avps_more}
use Rattle.diameter.proofs.Walks.{sound_none, sound_plain, sound_group}
use Rattle.writer.specs.Bytes.{zeros}
use Rattle.writer.specs.Avps.{head_size, padding}
use Rattle.answer.specs.Faults.{kept, copy}
use Rattle.diameter.specs.Headers.{body}
use Rattle.request.specs.Askings.{nothing, copied, lacks}
use Rattle.answer.specs.Limits.{copy_limit}
use Rattle.answer.specs.Copies.{Whole, Copyable}
use Rattle.answer.specs.Laws.{RequestsCopyable, TellableFits}

-- two sequences whose first k bytes agree, with the header of the second inside those
module _ (xs ys : List ℕ) (k : ℕ) (same : (i : ℕ) → i < k → get_or xs i 0 ≡ get_or ys i 0) (eight : 8 ≤ k) (inside : header ys ≤ k) where
  flags_agree : flags xs ≡ flags ys
  flags_agree = same 4 (omega arith)

  code_agree : code xs ≡ code ys
  code_agree =
      λ i. same 0 (omega arith) i * 16777216 + same 1 (omega arith) i * 65536 + same 2 (omega arith) i * 256 + same 3 (omega arith) i

  size_agree : size xs ≡ size ys
  size_agree = λ i. same 5 (omega arith) i * 65536 + same 6 (omega arith) i * 256 + same 7 (omega arith) i

  header_agree : header xs ≡ header ys
  header_agree = λ i. cond (flagged 0x80 (flags_agree i)) 12 8

  vendor_agree : vendor xs ≡ vendor ys
  vendor_agree =
      ⊎_elim
      (λ h.
      let twelve : 12 ≤ k = let n : header ys ≡ 12 = ap (λ b. cond b 12 8) h in omega arith in
      let number : be32 xs 8 ≡ be32 ys 8 = λ i. same 8 (omega arith) i * 16777216 + same 9 (omega arith) i * 65536 + same 10 (omega arith) i * 256 + same 11 (omega arith) i in
      λ i. cond (flagged 0x80 (flags_agree i)) (number i) 0)
      (λ h. ap (λ f. cond (flagged 0x80 f) (be32 xs 8) 0) flags_agree ∙ ap (λ b. cond b (be32 xs 8) 0) h ∙ sym (ap (λ b. cond b (be32 ys 8) 0) h))
      (cases_Bool (flagged 0x80 (flags ys)))

  group_agree : group (code xs) (vendor xs) ≡ group (code ys) (vendor ys)
  group_agree = λ i. group (code_agree i) (vendor_agree i)

-- the AVP at the front, with other padding
module _ (xs : List ℕ) (there : stands xs ≡ true) where
  again : List ℕ
  again = take (size xs) xs ++ zeros (padding (size xs))

  length_again : length again ≡ padded (size xs)
  unfolding again
  length_again =
      let f = stands_step xs there in
      let a = length-append (take (size xs) xs) (zeros (padding (size xs))) in
      let t = length-take (size xs) xs in
      let z = length-replicate {A = ℕ} (padding (size xs)) 0 in
      omega arith

  alike : (i : ℕ) → i < size xs → get_or again i 0 ≡ get_or xs i 0
  unfolding again
  alike i h =
      let f = stands_step xs there in
      let l : length (take (size xs) xs) ≡ size xs = length-take-le (size xs) xs (omega arith) in
      get_or_append_left (take (size xs) xs) (zeros (padding (size xs))) 0 i (omega arith) ∙ get_or-take (size xs) xs i 0 h

  long : (8 ≤ size xs) × (header xs ≤ size xs)
  long = let f = stands_step xs there in grind (arith, nat_tests)

  size_again : size again ≡ size xs
  size_again = size_agree again xs (size xs) alike long.0 long.1

  header_again : header again ≡ header xs
  header_again = header_agree again xs (size xs) alike long.0 long.1

  group_again : group (code again) (vendor again) ≡ group (code xs) (vendor xs)
  group_again = group_agree again xs (size xs) alike long.0 long.1

  stands_again : stands again ≡ true
  stands_again =
      let l = length_again in
      let s = size_again in
      let h = header_again in
      let b = long in
      let eight : 8 ≤ length again = omega arith in
      let covers : header again ≤ size again = omega arith in
      let ends : step again ≤ length again = omega arith in
      grind (arith, nat_tests)

  payload_again : payload again ≡ payload xs
  unfolding again
  payload_again =
      let f = stands_step xs there in
      let b = long in
      let s = size_again in
      let h = header_again in
      let t : List ℕ = take (size xs) xs in
      let l : length t ≡ size xs = length-take-le (size xs) xs (omega arith) in
      let m : size xs - header xs ≤ length (drop (header xs) t) = simp length-drop (omega arith) in
      (λ i. take (s i - h i) (drop (h i) again))
      ∙ ap (take (size xs - header xs)) (drop-append-le (header xs) t (zeros (padding (size xs))) (omega arith))
      ∙ take-append-le (size xs - header xs) (drop (header xs) t) (zeros (padding (size xs))) m
      ∙ (let e : size xs ≡ header xs + (size xs - header xs) = omega arith in
      ap (λ (q : ℕ). take (size xs - header xs) (drop (header xs) (take q xs))) e
      ∙ ap (take (size xs - header xs)) (drop-take (header xs) (size xs - header xs) xs)
      ∙ take-take (size xs - header xs) (size xs - header xs) (drop (header xs) xs) (omega arith))

  nothing_after : drop (step again) again ≡ []
  nothing_after = drop_all (step again) again (let l = length_again in let s = size_again in omega arith)

  -- with other padding it is as sound as it was
  sound_again : (n : ℕ) → sound (suc n) xs ≡ true → sound (suc n) again ≡ true
  sound_again n h =
      let after : sound (suc n) (drop (step again) again) ≡ true = ap (sound (suc n)) nothing_after ∙ sound_none (suc n) in
      ⊎_elim
      (λ g.
      let inner = (and_parts _ _ (sym (sound_group n xs there g) ∙ h)).0 in
      sound_group n again stands_again (group_again ∙ g) ∙ (λ i. (ap (sound n) payload_again ∙ inner) i && after i))
      (λ g. sound_plain (suc n) again stands_again (group_again ∙ g) ∙ after)
      (cases_Bool (group (code xs) (vendor xs)))

-- what is copied of a whole AVP is what its header says
kept_is : (a : Avp) → Whole a → kept a ≡ size a.octets
kept_is a w =
    let xs : List ℕ = a.octets in
    let f = stands_step xs w.there in
    let e : kept a ≡ header xs + length (payload xs) = ap (λ (b : Avp). head_size b.flags + length b.payload) w.same in
    let l : length (payload xs) ≡ size xs - header xs = length-take-le (size xs - header xs) (drop (header xs) xs) (simp length-drop (omega arith)) in
    omega arith

pub kept_within : (a : Avp) → Whole a → kept a ≤ length a.octets
kept_within a w = let e = kept_is a w in let f = stands_step a.octets w.there in omega arith

pub copy_sound : (a : Avp) → Copyable a → sound 3 (copy a) ≡ true
unfolding again
copy_sound a c =
    ap (λ (n : ℕ). sound 3 (take n a.octets ++ zeros (padding n))) (kept_is a c.whole)
    ∙ sound_again a.octets c.whole.there 2 c.sound_alone

-- a piece alone
module _ (p : List ℕ) (w : Piece p) where
  octets_alone : take (step p) p ≡ p
  octets_alone = take_all (step p) p (let e = w.exact in omega arith)

  stands_alone : stands p ≡ true
  stands_alone = ap stands (sym (append-nil p)) ∙ stands_is p [] w

  whole_alone : Whole (front p)
  whole_alone = record { there = ap stands octets_alone ∙ stands_alone; same = ap front (sym octets_alone) }

-- a piece of a sequence
module _ (p rest : List ℕ) (w : Piece p) where
  inside : header p ≤ length p
  inside = let a = w.covers in let b = w.exact in omega arith

  kept_there : (i : ℕ) → i < length p → get_or (p ++ rest) i 0 ≡ get_or p i 0
  kept_there i l = get_or_append_left p rest 0 i l

  octets_are : take (step (p ++ rest)) (p ++ rest) ≡ p
  octets_are = take_at p rest (step (p ++ rest)) (sym (step_is p rest w))

  front_is : front (p ++ rest) ≡ front p
  front_is =
      λ i. record {
        code = code_agree (p ++ rest) p (length p) kept_there w.headed inside i;
        vendor = vendor_agree (p ++ rest) p (length p) kept_there w.headed inside i;
        flags = flags_agree (p ++ rest) p (length p) kept_there w.headed inside i;
        payload = payload_is p rest w i;
        octets = (octets_are ∙ sym (octets_alone p w)) i;
      }

  front_whole : Whole (front (p ++ rest))
  front_whole = subst Whole (sym front_is) (whole_alone p w)

  avps_step : avps (p ++ rest) ≡ front (p ++ rest) ∷ avps rest
  avps_step = avps_more (p ++ rest) (stands_is p rest w) ∙ ap (λ l. front (p ++ rest) ∷ avps l) (rest_is p rest w)

-- one level more does no harm
deeper : {n : ℕ} {xs : List ℕ} → Sound n xs → Sound (suc n) xs
deeper none = none
deeper (plain w g s) = plain w g (deeper s)
deeper (nested w g i s) = nested w g (deeper i) (deeper s)

-- an AVP of a sequence that is sound at n levels and no longer than `most`
record Good (n most : ℕ) (a : Avp) : Type 0 where
  whole : Whole a
  alone : Sound n a.octets
  short : length a.octets ≤ most

good_front : {n most : ℕ} (p rest : List ℕ) → Piece p → length (p ++ rest) ≤ most → Sound n (p ++ []) → Good n most (front (p ++ rest))
good_front {n} {most} p rest w l s =
    let e = ap length (octets_are p rest w) in
    record {
      whole = front_whole p rest w;
      alone = subst (Sound n) (append-nil p ∙ sym (octets_are p rest w)) s;
      short = omega (arith, length-append p rest);
    }

all_good : {n : ℕ} {xs : List ℕ} (most : ℕ) → length xs ≤ most → Sound n xs → All (Good n most) (avps xs)
unfolding cut
all_good {n} most l none = All-nil (Good n most)
all_good most l (plain {n} {p} {rest} w g s) =
    subst (All (Good n most)) (sym (avps_step p rest w))
    (All-cons (Good n most) (front (p ++ rest)) (avps rest) (good_front p rest w l (plain w g none)) (all_good most (omega (arith, length-append p rest)) s))
all_good most l (nested {n} {p} {rest} w g i s) =
    subst (All (Good (suc n) most)) (sym (avps_step p rest w))
    (All-cons (Good (suc n) most) (front (p ++ rest)) (avps rest) (good_front p rest w l (nested w g i none)) (all_good most (omega (arith, length-append p rest)) s))

-- and those directly in its groups
GoodThrough : ℕ → ℕ → Avp → Type 0
GoodThrough n most a = Good n most a × (group a.code a.vendor ≡ true → All (Good n most) (avps a.payload))

payload_within : (p : List ℕ) → length (payload p) ≤ length p
payload_within p = omega (arith, length-take (size p - header p) (drop (header p) p), length-drop (header p) p)

lifted : {n most : ℕ} (a : Avp) → Good n most a → Good (suc n) most a
lifted a g = record { whole = g.whole; alone = deeper g.alone; short = g.short }

all_through : {n : ℕ} {xs : List ℕ} (most : ℕ) → length xs ≤ most → Sound n xs → All (GoodThrough n most) (avps xs)
unfolding cut GoodThrough
all_through {n} most l none = All-nil (GoodThrough n most)
all_through most l (plain {n} {p} {rest} w g s) =
    subst (All (GoodThrough n most)) (sym (avps_step p rest w))
    (All-cons (GoodThrough n most) (front (p ++ rest)) (avps rest)
    (good_front p rest w l (plain w g none), λ t. absurd (true≢false (sym t ∙ group_is p rest w ∙ g)))
    (all_through most (omega (arith, length-append p rest)) s))
all_through most l (nested {n} {p} {rest} w g i s) =
    let inner : All (Good (suc n) most) (avps (payload p)) =
    All-weaker (Good n most) (Good (suc n) most) lifted (avps (payload p)) (all_good most (omega (arith, length-append p rest, payload_within p)) i) in
    subst (All (GoodThrough (suc n) most)) (sym (avps_step p rest w))
    (All-cons (GoodThrough (suc n) most) (front (p ++ rest)) (avps rest)
    (good_front p rest w l (nested w g i none), λ _. subst (λ (q : List ℕ). All (Good (suc n) most) (avps q)) (sym (payload_is p rest w)) inner)
    (all_through most (omega (arith, length-append p rest)) s))

copyable : (a : Avp) → Good 3 copy_limit a → Copyable a
copyable a g = record { whole = g.whole; sound_alone = (decided 3 a.octets).1 g.alone; short = g.short }

pub requests_copyable : RequestsCopyable
unfolding GoodThrough
requests_copyable m l h =
    All-weaker (GoodThrough 3 copy_limit) (λ a. Copyable a × (group a.code a.vendor ≡ true → All Copyable (avps a.payload)))
    (λ a g. (copyable a g.0, λ t. All-weaker (Good 3 copy_limit) Copyable copyable (avps a.payload) (g.1 t)))
    (avps (body m))
    (all_through copy_limit (omega (arith, length-drop 20 m)) ((decided 3 (body m)).0 h))

pub tellable_fits : TellableFits
tellable_fits nothing t = record { there = omega arith; short = omega arith }
tellable_fits (copied a) t = record { there = kept_within a t.whole; short = t.short }
tellable_fits (lacks k) t = record { there = omega arith; short = omega arith }
