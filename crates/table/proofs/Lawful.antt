-- The laws of a table.
use Rattle.std.proofs.Common.{count_by, ◌≡◌, ℕ, zero, suc, ◌+◌, ◌<◌, ◌≤◌, Bool, true, false, cond, not, ◌&&◌, ltb, List, [], ◌∷◌, map as each, length, get_or, replicate, is_some, Some, None, Option, sym, refl, ap, ◌∙◌, subst, inl, inr, arith}
use Rattle.std.specs.List.{position_from}
use Rattle.std.specs.Option.{option_map}
use Rattle.std.specs.Str.{bytes_eq}
use Rattle.std.proofs.lemmas.List.Recursion.{is_count_by}
use Rattle.std.proofs.lemmas.Bool.{cases_Bool, cases_lt, both_ways, and_parts, and_from, cond-true, cond-false, lt-ltb, le-ltb}
use Rattle.table.specs.Tables.{holds, holder, at, Distinct, number}
use Rattle.table.specs.Choices.{choice}
use Rattle.table.specs.Steps.{counted}
use Rattle.table.specs.Laws.{ChoiceLaws, RoomCounted, ToldHere, ToldElsewhere, FreedServes, Apart, DistinctMeans, NumberOfMap, EmptyTable}
use Rattle.table.proofs.Keys.{same_true, same_refl, same_from}
use Rattle.table.proofs.Places.{some_mapped, some_placed}
use Rattle.table.proofs.Maps.{held_known, distinct_head, distinct_tail}

module _ {P : Type 0} (taken : P → Bool) where
  chosen : (ps : List P) (n j : ℕ) → position_from (λ p. not (taken p)) n ps ≡ Some j → (i : ℕ) × (j ≡ n + i) × (i < length ps) × ((d : P) → taken (get_or ps i d) ≡ false)
  chosen [] n j e = let z : ◌≡◌ {A = ℕ} 0 1 = cc in absurd (omega arith)
  chosen (p ∷ ps) n j e =
      elim (cases_Bool (taken p)) [
        | inl h ↦
            let full = ap not h in
            let r = chosen ps (n + 1) j (sym (cond-false (not (taken p)) (Some n) (position_from (λ p. not (taken p)) (n + 1) ps) full) ∙ e) in
            (suc r.0, omega (arith, r.1), omega (arith, r.2), λ d. r.3 d)
        | inr h ↦
            let room = ap not h in
            (0, (let s : n ≡ j = cc (cond-true (not (taken p)) (Some n) (position_from (λ p. not (taken p)) (n + 1) ps) room) in omega arith), omega arith, λ d. h)
      ]

  chosen_marks : (n : ℕ) (ps : List P) → position_from (λ p. not (taken p)) n ps ≡ position_from not n (each taken ps)
  chosen_marks n [] = refl
  chosen_marks n (p ∷ ps) = ap (λ o. cond (not (taken p)) (Some n) o) (chosen_marks (n + 1) ps)

  pub choice_laws : ChoiceLaws taken
  unfolding choice
  choice_laws =
      record {
        there = λ ps. some_placed (λ p. not (taken p)) 0 ps;
        within = λ ps i e. let r = chosen ps 0 i e in omega (arith, r.1, r.2);
        free = λ ps i d e.
            let r = chosen ps 0 i e in
            let same : r.0 ≡ i = omega (arith, r.1) in
            subst (λ (j : ℕ). taken (get_or ps j d) ≡ false) same (r.3 d);
        marks = λ ps. chosen_marks 0 ps;
      }

  pub number_counts : (ps : List P) → number taken ps ≡ count_by taken ps
  number_counts ps = is_count_by (number taken) taken refl (λ p qs. elim (cases_Bool (taken p)) [ inl h ↦ simp h refl | inr h ↦ simp h (omega arith) ]) ps

  pub number_within : (ps : List P) → number taken ps ≤ length ps
  number_within [] = omega arith
  number_within (p ∷ ps) =
      elim (cases_Bool (taken p)) [
        | inl h ↦ let e : ◌≡◌ {A = ℕ} (cond (taken p) 1 0) 1 = cond-true (taken p) 1 0 h in omega (arith, number_within ps)
        | inr h ↦ let e : ◌≡◌ {A = ℕ} (cond (taken p) 1 0) 0 = cond-false (taken p) 1 0 h in omega (arith, number_within ps)
      ]

  less_more : (a b : ℕ) → ltb a b ≡ ltb (1 + a) (suc b)
  less_more a b =
      elim (cases_lt a b) [
        | inl l ↦ lt-ltb a b l ∙ sym (lt-ltb (1 + a) (suc b) (omega arith))
        | inr g ↦ le-ltb a b g ∙ sym (le-ltb (1 + a) (suc b) (omega arith))
      ]

  pub room_counted : RoomCounted taken
  room_counted [] = refl
  room_counted (p ∷ ps) =
      elim (cases_Bool (taken p)) [
        | inl h ↦ simp h (room_counted ps ∙ less_more (number taken ps) (length ps))
        | inr h ↦ simp h (sym (lt-ltb (0 + number taken ps) (suc (length ps)) (omega (arith, number_within ps))))
      ]

differ : (n k : List ℕ) → (n ≡ k → ⊥) → bytes_eq n k ≡ false
differ n k apart = elim (cases_Bool (bytes_eq n k)) [ inl s ↦ absurd (apart (same_true n k s)) | inr s ↦ s ]

module _ {P E : Type 0} (taken : P → Bool) (key : P → List ℕ) (entry : P → E) where
  pub told_here : ToldHere taken key entry
  told_here ps qs k v u = ap (λ (m : List ℕ → Option E). m k) u.map ∙ cond-true (bytes_eq k k) v (at taken key entry ps k) (same_refl k)

  pub told_elsewhere : ToldElsewhere taken key entry
  told_elsewhere ps qs k n v u apart =
      ap (λ (m : List ℕ → Option E). m n) u.map ∙ cond-false (bytes_eq k n) v (at taken key entry ps n) (differ k n (λ e. apart (sym e)))

  pub freed_serves : FreedServes taken key entry
  freed_serves ps qs k u was =
      let one : ◌≡◌ {A = ℕ} (counted (at taken key entry ps k)) 1 = cond-true (is_some (at taken key entry ps k)) 1 0 was in
      room_counted taken qs ∙ lt-ltb (number taken qs) (length qs) (omega (arith, u.taken_number, u.places, number_within taken ps))

  empty_distinct : (p : P) (n : ℕ) → taken p ≡ false → Distinct taken key (replicate n p)
  empty_distinct p zero f = refl
  empty_distinct p (suc n) f = simp f (empty_distinct p n f)

  empty_holder : (p : P) (n : ℕ) → taken p ≡ false → (k : List ℕ) → holder taken key (replicate n p) k ≡ None
  empty_holder p zero f k = refl
  empty_holder p (suc n) f k = simp f (empty_holder p n f k)

  empty_number : (p : P) (n : ℕ) → taken p ≡ false → number taken (replicate n p) ≡ 0
  empty_number p zero f = refl
  empty_number p (suc n) f = let e : ◌≡◌ {A = ℕ} (cond (taken p) 1 0) 0 = cond-false (taken p) 1 0 f in omega (arith, empty_number p n f)

  pub empty_table : EmptyTable taken key entry
  empty_table =
      record {
        apart = empty_distinct;
        map = λ p n f j k. ap (option_map entry) (empty_holder p n f k) j;
        taken_number = empty_number;
      }

module _ {P : Type 0} (taken : P → Bool) (key : P → List ℕ) where
  found_at : (k : List ℕ) (ps : List P) → is_some (holder taken key ps k) ≡ true → (i : ℕ) × (i < length ps) × ((d : P) → holds taken key k (get_or ps i d) ≡ true)
  found_at k [] h = absurd (both_ways false refl h)
  found_at k (p ∷ ps) h =
      elim (cases_Bool (holds taken key k p)) [
        | inl here ↦ (0, omega arith, λ d. here)
        | inr there ↦ let r = found_at k ps (simp there at h) in (suc r.0, omega (arith, r.1), λ d. r.2 d)
      ]

  distinct_apart : (ps : List P) → Distinct taken key ps → Apart taken key ps
  distinct_apart [] a i j d less inside ti tj same = absurd (omega arith)
  distinct_apart (p ∷ ps) a i zero d less inside ti tj same = absurd (omega arith)
  distinct_apart (p ∷ ps) a zero (suc j) d less inside ti tj same =
      let q = get_or ps j d in
      both_ways (is_some (holder taken key ps (key p))) (distinct_head taken key p ps a ti) (held_known taken key (key p) ps j d (omega arith) (and_from (taken q) (bytes_eq (key q) (key p)) tj (same_from (key q) (key p) (sym same))))
  distinct_apart (p ∷ ps) a (suc i) (suc j) d less inside ti tj same =
      distinct_apart ps (distinct_tail taken key p ps a) i j d (omega arith) (omega arith) ti tj same

  apart_distinct : (ps : List P) → Apart taken key ps → Distinct taken key ps
  apart_distinct [] a = refl
  apart_distinct (p ∷ ps) a =
      let rest = apart_distinct ps (λ i j d less inside. a (suc i) (suc j) d (omega arith) (omega arith)) in
      elim (cases_Bool (taken p && is_some (holder taken key ps (key p)))) [
        | inl h ↦
            let both = and_parts (taken p) (is_some (holder taken key ps (key p))) h in
            let r = found_at (key p) ps both.1 in
            let q = get_or ps r.0 p in
            let held = and_parts (taken q) (bytes_eq (key q) (key p)) (r.2 p) in
            absurd (a 0 (suc r.0) p (omega arith) (omega (arith, r.1)) both.0 held.0 (sym (same_true (key q) (key p) held.1)))
        | inr h ↦ simp h rest
      ]

  pub distinct_means : DistinctMeans taken key
  distinct_means ps = (distinct_apart ps, apart_distinct ps)

  -- the places but the first that holds k
  abbrev without : List ℕ → List P → List P
  without k [] = []
  without k (p ∷ ps) = cond (holds taken key k p) ps (p ∷ without k ps)

  without_number : (k : List ℕ) (ps : List P) → is_some (holder taken key ps k) ≡ true → number taken ps ≡ 1 + number taken (without k ps)
  without_number k [] h = absurd (both_ways false refl h)
  without_number k (p ∷ ps) h =
      elim (cases_Bool (holds taken key k p)) [
        | inl here ↦
            let e : number taken (without k (p ∷ ps)) ≡ number taken ps = ap (number taken) (cond-true (holds taken key k p) ps (p ∷ without k ps) here) in
            let one : ◌≡◌ {A = ℕ} (cond (taken p) 1 0) 1 = cond-true (taken p) 1 0 (and_parts (taken p) (bytes_eq (key p) k) here).0 in
            omega (arith, e)
        | inr there ↦
            let e : number taken (without k (p ∷ ps)) ≡ cond (taken p) 1 0 + number taken (without k ps) = ap (number taken) (cond-false (holds taken key k p) ps (p ∷ without k ps) there) in
            omega (arith, without_number k ps (simp there at h), e)
      ]

  without_other : (k n : List ℕ) (ps : List P) → bytes_eq n k ≡ false → is_some (holder taken key ps n) ≡ true → is_some (holder taken key (without k ps) n) ≡ true
  without_other k n [] s h = h
  without_other k n (p ∷ ps) s h =
      elim (cases_Bool (holds taken key k p)) [
        | inl here ↦
            let parts = and_parts (taken p) (bytes_eq (key p) k) here in
            let miss : holds taken key n p ≡ false =
            elim (cases_Bool (holds taken key n p)) [
              | inl hn ↦ absurd (both_ways (bytes_eq n k) s (same_from n k (sym (same_true (key p) n (and_parts (taken p) (bytes_eq (key p) n) hn).1) ∙ same_true (key p) k parts.1)))
              | inr hn ↦ hn
            ] in
            simp here (simp miss at h)
        | inr there ↦
            elim (cases_Bool (holds taken key n p)) [
              | inl hn ↦ simp (there, hn)
              | inr hn ↦ simp (there, hn) (without_other k n ps s (simp hn at h))
            ]
      ]

  fewer : (ps qs : List P) → Distinct taken key ps → ((n : List ℕ) → is_some (holder taken key ps n) ≡ true → is_some (holder taken key qs n) ≡ true) → number taken ps ≤ number taken qs
  fewer [] qs a inside = omega arith
  fewer (p ∷ ps) qs a inside =
      elim (cases_Bool (taken p)) [
        | inr fp ↦
            let zero_more : ◌≡◌ {A = ℕ} (cond (taken p) 1 0) 0 = cond-false (taken p) 1 0 fp in
            let rest = fewer ps qs (distinct_tail taken key p ps a) (λ n h. inside n (simp fp h)) in
            omega arith
        | inl tp ↦
            let one_more : ◌≡◌ {A = ℕ} (cond (taken p) 1 0) 1 = cond-true (taken p) 1 0 tp in
            let k = key p in
            let own : is_some (holder taken key (p ∷ ps) k) ≡ true = let s = same_refl (key p) in simp (tp, s) in
            let there = inside k own in
            let kept : (n : List ℕ) → is_some (holder taken key ps n) ≡ true → is_some (holder taken key (without k qs) n) ≡ true =
            λ n h.
            let other : bytes_eq n k ≡ false = differ n k (λ e. both_ways (is_some (holder taken key ps k)) (distinct_head taken key p ps a tp) (subst (λ (m : List ℕ). is_some (holder taken key ps m) ≡ true) e h)) in
            let also : is_some (holder taken key (p ∷ ps) n) ≡ true = elim (cases_Bool (holds taken key n p)) [ inl hn ↦ simp hn | inr hn ↦ simp hn h ] in
            without_other k n qs other (inside n also) in
            let rest = fewer ps (without k qs) (distinct_tail taken key p ps a) kept in
            let whole = without_number k qs there in
            omega arith
      ]

module _ {P E : Type 0} (taken : P → Bool) (key : P → List ℕ) (entry : P → E) where
  carried : (ps qs : List P) → at taken key entry ps ≡ at taken key entry qs → (n : List ℕ) → is_some (holder taken key ps n) ≡ true → is_some (holder taken key qs n) ≡ true
  carried ps qs e n h =
      sym (some_mapped entry (holder taken key qs n)) ∙ sym (ap (λ (m : List ℕ → Option E). is_some (m n)) e) ∙ some_mapped entry (holder taken key ps n) ∙ h

  pub number_of_map : NumberOfMap taken key entry
  number_of_map ps qs a b e =
      let up = fewer taken key ps qs a (carried ps qs e) in
      let down = fewer taken key qs ps b (carried qs ps (sym e)) in
      omega arith
