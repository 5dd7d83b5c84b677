-- What a place put where another stood does to the map.
use Rattle.std.proofs.Common.{IfSome, ◌≡◌, ℕ, zero, suc, ◌+◌, ◌<◌, Bool, true, false, cond, ◌&&◌, ◌⊎◌, List, [], ◌∷◌, length, get_or, set, is_some, Some, None, Option, sym, refl, ap, ◌∙◌, subst, inl, inr, arith}
use Rattle.std.specs.Option.{option_map}
use Rattle.std.specs.Map.{update}
use Rattle.std.specs.Str.{bytes_eq}
use Rattle.std.proofs.lemmas.Bool.{cases_Bool, both_ways, and_parts, and_left, cond-true, cond-false}
use Rattle.std.proofs.lemmas.List.{length-set}
use Rattle.table.specs.Tables.{holds, holder, at, content, contents, distinct, Distinct, number}
use Rattle.table.specs.Steps.{counted, Updated, changed_content, with_held}
use Rattle.table.proofs.Keys.{same_true, same_from, same_swapped}
use Rattle.table.proofs.Places.{some_mapped}

pub none_from : {A : Type 0} (o : Option A) → is_some o ≡ false → o ≡ None
none_from None h = refl
none_from (Some x) h = absurd (both_ways true h refl)

passed : (c b : Bool) → cond c false b ≡ true → (c ≡ false) × (b ≡ true)
passed true b h = absurd (both_ways false refl h)
passed false b h = (refl, h)

absent_head : {A : Type 0} (c : Bool) (x : A) (o : Option A) → is_some (cond c (Some x) o) ≡ false → (c ≡ false) × (is_some o ≡ false)
absent_head true x o h = absurd (both_ways true h refl)
absent_head false x o h = (refl, h)

module _ {P : Type 0} (taken : P → Bool) (key : P → List ℕ) where
  -- the place may be changed under the key: it holds the key, or it is free and no place holds the key
  abbrev pub Serves : List ℕ → P → List P → Type 0
  Serves k p ps = (holds taken key k p ≡ true) ⊎ ((taken p ≡ false) × (is_some (holder taken key ps k) ≡ false))

  pub distinct_tail : (p : P) (ps : List P) → Distinct taken key (p ∷ ps) → Distinct taken key ps
  distinct_tail p ps d = (passed (taken p && is_some (holder taken key ps (key p))) (distinct taken key ps) d).1

  pub distinct_head : (p : P) (ps : List P) → Distinct taken key (p ∷ ps) → taken p ≡ true → is_some (holder taken key ps (key p)) ≡ false
  distinct_head p ps d tp = let e = (passed (taken p && is_some (holder taken key ps (key p))) (distinct taken key ps) d).0 in simp tp at e

  -- a key that the first place holds is held by none after it, and the other way round
  pub alone_after : (k : List ℕ) (p : P) (ps : List P) → Distinct taken key (p ∷ ps) → holds taken key k p ≡ true → is_some (holder taken key ps k) ≡ false
  alone_after k p ps d h =
      let parts = and_parts (taken p) (bytes_eq (key p) k) h in
      subst (λ (n : List ℕ). is_some (holder taken key ps n) ≡ false) (same_true (key p) k parts.1) (distinct_head p ps d parts.0)

  pub alone_before : (k : List ℕ) (p : P) (ps : List P) → Distinct taken key (p ∷ ps) → is_some (holder taken key ps k) ≡ true → holds taken key k p ≡ false
  alone_before k p ps d later =
      elim (cases_Bool (holds taken key k p)) [
        | inl h ↦ absurd (both_ways (is_some (holder taken key ps k)) (alone_after k p ps d h) later)
        | inr h ↦ h
      ]

  pub held_known : (k : List ℕ) (ps : List P) (i : ℕ) (d : P) → i < length ps → holds taken key k (get_or ps i d) ≡ true → is_some (holder taken key ps k) ≡ true
  held_known k [] i d inside h = absurd (omega arith)
  held_known k (p ∷ ps) zero d inside h = simp h
  held_known k (p ∷ ps) (suc i) d inside h =
      elim (cases_Bool (holds taken key k p)) [
        | inl here ↦ simp here
        | inr there ↦ simp there (held_known k ps i d (omega arith) h)
      ]

  -- the place that holds a key is the only one
  pub held_alone : (k : List ℕ) (ps : List P) (i : ℕ) (d : P) → i < length ps → holds taken key k (get_or ps i d) ≡ true → Distinct taken key ps → holder taken key ps k ≡ Some (get_or ps i d)
  held_alone k [] i d inside h apart = absurd (omega arith)
  held_alone k (p ∷ ps) zero d inside h apart = simp h
  held_alone k (p ∷ ps) (suc i) d inside h apart =
      let not_here = alone_before k p ps apart (held_known k ps i d (omega arith) h) in
      simp not_here (held_alone k ps i d (omega arith) h (distinct_tail p ps apart))

  pub alone_at : (k : List ℕ) (ps : List P) (r : Option ℕ) → IfSome r (λ i. i < length ps) → IfSome r (λ i. (d : P) → holds taken key k (get_or ps i d) ≡ true)
      → Distinct taken key ps → IfSome r (λ i. (d : P) → holder taken key ps k ≡ Some (get_or ps i d))
  alone_at k ps None within held apart = tt
  alone_at k ps (Some i) within held apart = λ d. held_alone k ps i d within (held d) apart

  other_key : (p : P) (k n : List ℕ) → (taken p ≡ true → key p ≡ k) → bytes_eq n k ≡ false → holds taken key n p ≡ false
  other_key p k n under s =
      elim (cases_Bool (holds taken key n p)) [
        | inl h ↦
            let parts = and_parts (taken p) (bytes_eq (key p) n) h in
            absurd (both_ways (bytes_eq n k) s (same_from n k (sym (same_true (key p) n parts.1) ∙ under parts.0)))
        | inr h ↦ h
      ]

  module _ (q : P) (k : List ℕ) (under : taken q ≡ true → key q ≡ k) where
    none_after : (p : P) (ps : List P) → Distinct taken key (p ∷ ps) → Serves k p (p ∷ ps) → is_some (holder taken key ps k) ≡ false
    none_after p ps apart serves =
        elim serves [
          | inl h ↦ alone_after k p ps apart h
          | inr f ↦ (absent_head (holds taken key k p) p (holder taken key ps k) f.1).1
        ]

    none_here : (x : P) (ps : List P) (i : ℕ) (d : P) → i < length ps → Distinct taken key (x ∷ ps) → Serves k (get_or ps i d) (x ∷ ps) → holds taken key k x ≡ false
    none_here x ps i d inside apart serves =
        elim serves [
          | inl h ↦ alone_before k x ps apart (held_known k ps i d inside h)
          | inr f ↦ (absent_head (holds taken key k x) x (holder taken key ps k) f.1).0
        ]

    serves_tail : (x : P) (ps : List P) (p : P) → Serves k p (x ∷ ps) → Serves k p ps
    serves_tail x ps p serves =
        elim serves [ inl h ↦ inl h | inr f ↦ inr (f.0, (absent_head (holds taken key k x) x (holder taken key ps k) f.1).1) ]

    put_first : (p : P) (ps : List P) → Distinct taken key (p ∷ ps) → Serves k p (p ∷ ps) → (n : List ℕ) → holder taken key (q ∷ ps) n ≡ cond (bytes_eq n k) (cond (taken q) (Some q) None) (holder taken key (p ∷ ps) n)
    put_first p ps apart serves n =
        elim (cases_Bool (bytes_eq n k)) [
          | inl s ↦
              let e = same_true n k s in
              let gone : holder taken key ps n ≡ None = subst (λ (m : List ℕ). holder taken key ps m ≡ None) (sym e) (none_from (holder taken key ps k) (none_after p ps apart serves)) in
              elim (cases_Bool (taken q)) [
                | inl tq ↦ let u : bytes_eq (key q) n ≡ true = same_from (key q) n (under tq ∙ sym e) in simp (s, tq, u)
                | inr fq ↦ simp (s, fq) gone
              ]
          | inr s ↦
              let not_q = other_key q k n under s in
              let not_p : holds taken key n p ≡ false =
              elim serves [
                | inl h ↦ other_key p k n (λ _. same_true (key p) k (and_parts (taken p) (bytes_eq (key p) k) h).1) s
                | inr f ↦ and_left (taken p) (bytes_eq (key p) n) f.0
              ] in
              simp (s, not_q, not_p)
        ]

    pub put_holder : (ps : List P) (i : ℕ) (d : P) → i < length ps → Distinct taken key ps → Serves k (get_or ps i d) ps → (n : List ℕ) → holder taken key (set ps i q) n ≡ cond (bytes_eq n k) (cond (taken q) (Some q) None) (holder taken key ps n)
    put_holder [] i d inside apart serves n = absurd (omega arith)
    put_holder (p ∷ ps) zero d inside apart serves n = put_first p ps apart serves n
    put_holder (x ∷ ps) (suc i) d inside apart serves n =
        let not_x = none_here x ps i d (omega arith) apart serves in
        let rest = put_holder ps i d (omega arith) (distinct_tail x ps apart) (serves_tail x ps (get_or ps i d) serves) n in
        elim (cases_Bool (holds taken key n x)) [
          | inl h ↦
              elim (cases_Bool (bytes_eq n k)) [
                | inl s ↦ absurd (both_ways (holds taken key k x) not_x (subst (λ (m : List ℕ). holds taken key m x ≡ true) (same_true n k s) h))
                | inr s ↦ simp (h, s)
              ]
          | inr h ↦ simp h rest
        ]

    pub put_distinct : (ps : List P) (i : ℕ) (d : P) → i < length ps → Distinct taken key ps → Serves k (get_or ps i d) ps → Distinct taken key (set ps i q)
    put_distinct [] i d inside apart serves = absurd (omega arith)
    put_distinct (p ∷ ps) zero d inside apart serves =
        elim (cases_Bool (taken q)) [
          | inl tq ↦
              let gone : is_some (holder taken key ps (key q)) ≡ false = subst (λ (m : List ℕ). is_some (holder taken key ps m) ≡ false) (sym (under tq)) (none_after p ps apart serves) in
              simp (tq, gone) (distinct_tail p ps apart)
          | inr fq ↦ simp fq (distinct_tail p ps apart)
        ]
    put_distinct (x ∷ ps) (suc i) d inside apart serves =
        let tail = distinct_tail x ps apart in
        let tail_serves = serves_tail x ps (get_or ps i d) serves in
        let rest = put_distinct ps i d (omega arith) tail tail_serves in
        elim (cases_Bool (taken x)) [
          | inl tx ↦
              let s : bytes_eq (key x) k ≡ false = simp tx at (none_here x ps i d (omega arith) apart serves) in
              let same : is_some (holder taken key (set ps i q) (key x)) ≡ false =
              ap is_some (put_holder ps i d (omega arith) tail tail_serves (key x)) ∙ simp s (distinct_head x ps apart tx) in
              simp (tx, same) rest
          | inr fx ↦ simp fx rest
        ]

pub put_number : {P : Type 0} (taken : P → Bool) (q : P) (ps : List P) (i : ℕ) (d : P) → i < length ps → number taken (set ps i q) + cond (taken (get_or ps i d)) 1 0 ≡ number taken ps + cond (taken q) 1 0
put_number taken q [] i d inside = absurd (omega arith)
put_number taken q (p ∷ ps) zero d inside = omega arith
put_number taken q (x ∷ ps) (suc i) d inside = omega (arith, put_number taken q ps i d (omega arith))

counted_content : {P E : Type 0} (taken : P → Bool) (entry : P → E) (p : P) → counted (content taken entry p) ≡ cond (taken p) 1 0
counted_content taken entry p = elim (cases_Bool (taken p)) [ inl h ↦ simp h | inr h ↦ simp h ]

module _ {P E : Type 0} (taken : P → Bool) (key : P → List ℕ) (entry : P → E) where
  counted_before : (k : List ℕ) (ps : List P) (i : ℕ) (d : P) → i < length ps → Serves taken key k (get_or ps i d) ps → counted (at taken key entry ps k) ≡ cond (taken (get_or ps i d)) 1 0
  counted_before k ps i d inside serves =
      elim serves [
        | inl h ↦
            let some = some_mapped entry (holder taken key ps k) ∙ held_known taken key k ps i d inside h in
            let tp = (and_parts (taken (get_or ps i d)) (bytes_eq (key (get_or ps i d)) k) h).0 in
            simp (some, tp)
        | inr f ↦
            let none = some_mapped entry (holder taken key ps k) ∙ f.1 in
            let fp = f.0 in
            simp (none, fp)
      ]

  read_put : (q : P) (b : Bool) (o : Option P) → option_map entry (cond b (cond (taken q) (Some q) None) o) ≡ cond b (content taken entry q) (option_map entry o)
  read_put q true o = elim (cases_Bool (taken q)) [ inl h ↦ simp h | inr h ↦ simp h ]
  read_put q false o = refl

  -- the place at i becomes q: the map changes at the key k, and nowhere else
  pub put_updated : (q : P) (k : List ℕ) → (taken q ≡ true → key q ≡ k) → (ps : List P) (i : ℕ) (d : P) → i < length ps → Serves taken key k (get_or ps i d) ps → Distinct taken key ps → Updated taken key entry ps (set ps i q) k (content taken entry q)
  put_updated q k under ps i d inside serves apart =
      record {
        map = λ j n. (ap (option_map entry) (put_holder taken key q k under ps i d inside apart serves n) ∙ read_put q (bytes_eq n k) (holder taken key ps n) ∙ ap (λ (b : Bool). cond b (content taken entry q) (at taken key entry ps n)) (same_swapped n k)) j;
        apart = put_distinct taken key q k under ps i d inside apart serves;
        taken_number = omega (arith, put_number taken q ps i d inside, counted_before k ps i d inside serves, counted_content taken entry q);
        places = length-set ps i q;
      }

  same_update : (k n : List ℕ) (ps : List P) → is_some (holder taken key ps k) ≡ false → at taken key entry ps n ≡ update bytes_eq (at taken key entry ps) k None n
  same_update k n ps absent =
      elim (cases_Bool (bytes_eq k n)) [
        | inl s ↦
            let gone : holder taken key ps n ≡ None = subst (λ (m : List ℕ). holder taken key ps m ≡ None) (same_true k n s) (none_from (holder taken key ps k) absent) in
            simp (s, gone)
        | inr s ↦ simp s
      ]

  -- without the key, nothing is there to take out
  pub absent_updated : (k : List ℕ) (ps : List P) → is_some (holder taken key ps k) ≡ false → Distinct taken key ps → Updated taken key entry ps ps k None
  absent_updated k ps absent apart =
      let none : is_some (at taken key entry ps k) ≡ false = some_mapped entry (holder taken key ps k) ∙ absent in
      record { map = λ j n. same_update k n ps absent j; apart = apart; taken_number = simp none; places = refl }

  -- the three steps, each with a place put at i
  pub placed_updated : (q : P) (ps : List P) (i : ℕ) → i < length ps → ((d : P) → taken (get_or ps i d) ≡ false) → is_some (holder taken key ps (key q)) ≡ false → Distinct taken key ps → Updated taken key entry ps (set ps i q) (key q) (content taken entry q)
  placed_updated q ps i inside free absent apart = put_updated q (key q) (λ _. refl) ps i q inside (inr (free q, absent)) apart

  pub cleared_updated : (q : P) (k : List ℕ) (ps : List P) (i : ℕ) → i < length ps → ((d : P) → holds taken key k (get_or ps i d) ≡ true) → taken q ≡ false → Distinct taken key ps → Updated taken key entry ps (set ps i q) k None
  cleared_updated q k ps i inside held free apart =
      subst (λ (v : Option E). Updated taken key entry ps (set ps i q) k v) (cond-false (taken q) (Some (entry q)) None free) (put_updated q k (λ t. absurd (both_ways (taken q) free t)) ps i q inside (inl (held q)) apart)

  pub changed_updated : (f : P → P) (q : P) (k : List ℕ) (ps : List P) (i : ℕ) (d : P) → i < length ps → ((d : P) → holds taken key k (get_or ps i d) ≡ true) → q ≡ f (get_or ps i d) → (taken q ≡ true → key q ≡ key (get_or ps i d)) → Distinct taken key ps → Updated taken key entry ps (set ps i q) k (changed_content taken entry f (holder taken key ps k))
  changed_updated f q k ps i d inside held is keeps apart =
      let p = get_or ps i d in
      let was = same_true (key p) k (and_parts (taken p) (bytes_eq (key p) k) (held d)).1 in
      let new : content taken entry q ≡ changed_content taken entry f (holder taken key ps k) =
      ap (content taken entry) is ∙ sym (ap (changed_content taken entry f) (held_alone taken key k ps i d inside (held d) apart)) in
      subst (λ (v : Option E). Updated taken key entry ps (set ps i q) k v) new (put_updated q k (λ t. keeps t ∙ was) ps i d inside (inl (held d)) apart)

  -- no place holds k
  pub absent_contents : (g : P → Option E) (k : List ℕ) (ps : List P) → is_some (holder taken key ps k) ≡ false → contents taken entry ps ≡ with_held taken key entry k g ps
  absent_contents g k [] absent = refl
  absent_contents g k (p ∷ ps) absent =
      let r = absent_head (holds taken key k p) p (holder taken key ps k) absent in
      let e = sym (cond-false (holds taken key k p) (g p) (content taken entry p) r.0) in
      λ j. e j ∷ absent_contents g k ps r.1 j

  -- what the places hold once q stands at i, where the place at i is the one that holds k
  pub put_contents : (g : P → Option E) (q : P) (k : List ℕ) (ps : List P) (i : ℕ) (d : P) → i < length ps → holds taken key k (get_or ps i d) ≡ true → content taken entry q ≡ g (get_or ps i d) → Distinct taken key ps → contents taken entry (set ps i q) ≡ with_held taken key entry k g ps
  put_contents g q k [] i d inside h is apart = absurd (omega arith)
  put_contents g q k (p ∷ ps) zero d inside h is apart =
      let e : cond (holds taken key k p) (g p) (content taken entry p) ≡ g p = cond-true (holds taken key k p) (g p) (content taken entry p) h in
      let f = is ∙ sym e in
      λ j. f j ∷ absent_contents g k ps (alone_after taken key k p ps apart h) j
  put_contents g q k (p ∷ ps) (suc i) d inside h is apart =
      let not_here = alone_before taken key k p ps apart (held_known taken key k ps i d (omega arith) h) in
      let e = sym (cond-false (holds taken key k p) (g p) (content taken entry p) not_here) in
      λ j. e j ∷ put_contents g q k ps i d (omega arith) h is (distinct_tail taken key p ps apart) j

  pub idle_updated : (f : P → P) (k : List ℕ) (ps : List P) → is_some (holder taken key ps k) ≡ false → Distinct taken key ps → Updated taken key entry ps ps k (changed_content taken entry f (holder taken key ps k))
  idle_updated f k ps absent apart =
      subst (λ (v : Option E). Updated taken key entry ps ps k v) (sym (ap (changed_content taken entry f) (none_from (holder taken key ps k) absent))) (absent_updated k ps absent apart)

  -- for a caller that finds the place that holds k and changes it there, where it stays taken under its key
  pub kept_updated : {q r : P} {i : ℕ} (k : List ℕ) (ps : List P) (d : P) → i < length ps → ((d : P) → holds taken key k (get_or ps i d) ≡ true) → q ≡ r → taken r ≡ true → key r ≡ key (get_or ps i d) → Distinct taken key ps → Updated taken key entry ps (set ps i q) k (Some (entry r))
  kept_updated {q} {r} {i} k ps d inside held is stays same apart =
      let p = get_or ps i d in
      let was = same_true (key p) k (and_parts (taken p) (bytes_eq (key p) k) (held d)).1 in
      let new = put_updated r k (λ _. same ∙ was) ps i d inside (inl (held d)) apart in
      let put : Updated taken key entry ps (set ps i r) k (Some (entry r)) = subst (λ (v : Option E). Updated taken key entry ps (set ps i r) k v) (cond-true (taken r) (Some (entry r)) None stays) new in
      subst (λ (x : P). Updated taken key entry ps (set ps i x) k (Some (entry r))) (sym is) put

-- what the places hold once q stands at the place chosen
pub filled_contents : {P E : Type 0} (taken : P → Bool) (entry : P → E) (q : P) (ps : List P) (i : ℕ) → contents taken entry (set ps i q) ≡ set (contents taken entry ps) i (content taken entry q)
filled_contents taken entry q [] i = refl
filled_contents taken entry q (p ∷ ps) zero = refl
filled_contents taken entry q (p ∷ ps) (suc i) = ap (λ xs. content taken entry p ∷ xs) (filled_contents taken entry q ps i)
