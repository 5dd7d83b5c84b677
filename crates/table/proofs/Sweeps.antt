-- A change of every place, which frees it or keeps it taken under its key.
use Rattle.std.proofs.Common.{◌≡◌, ℕ, ◌≤◌, Bool, true, false, cond, List, [], ◌∷◌, map as each, is_some, Some, None, Option, sym, refl, ap, ◌∙◌, subst, inl, inr, arith}
use Rattle.std.specs.Option.{option_map}
use Rattle.std.specs.Str.{bytes_eq}
use Rattle.std.proofs.lemmas.Bool.{cases_Bool, both_ways, and_parts, and_from}
use Rattle.table.specs.Tables.{holds, holder, Distinct, number}
use Rattle.table.specs.Steps.{changed_content}
use Rattle.table.specs.Laws.{SweptTold}
use Rattle.table.proofs.Keys.{same_true, same_from}
use Rattle.table.proofs.Maps.{none_from, distinct_head, distinct_tail, alone_after}

module _ {P : Type 0} (taken : P → Bool) (key : P → List ℕ) (f : P → P) (keeps : (p : P) → taken (f p) ≡ true → (taken p ≡ true) × (key (f p) ≡ key p)) where
  -- what the holder of a key is after the change
  abbrev left : Option P → Option P
  left None = None
  left (Some p) = cond (taken (f p)) (Some (f p)) None

  not_held : (n : List ℕ) (p : P) → holds taken key n p ≡ false → holds taken key n (f p) ≡ false
  not_held n p miss =
      elim (cases_Bool (holds taken key n (f p))) [
        | inl h ↦
            let parts = and_parts (taken (f p)) (bytes_eq (key (f p)) n) h in
            let was = keeps p parts.0 in
            absurd (both_ways (holds taken key n p) miss (and_from (taken p) (bytes_eq (key p) n) was.0 (same_from (key p) n (sym was.1 ∙ same_true (key (f p)) n parts.1))))
        | inr h ↦ h
      ]

  swept_holder : (ps : List P) → Distinct taken key ps → (n : List ℕ) → holder taken key (each f ps) n ≡ left (holder taken key ps n)
  swept_holder [] apart n = refl
  swept_holder (p ∷ ps) apart n =
      let rest = swept_holder ps (distinct_tail taken key p ps apart) n in
      elim (cases_Bool (holds taken key n p)) [
        | inr h ↦ let miss = not_held n p h in simp (h, miss) rest
        | inl h ↦
            elim (cases_Bool (taken (f p))) [
              | inl t ↦
                  let s : bytes_eq (key (f p)) n ≡ true = same_from (key (f p)) n ((keeps p t).1 ∙ same_true (key p) n (and_parts (taken p) (bytes_eq (key p) n) h).1) in
                  simp (h, t, s)
              | inr t ↦
                  let gone : holder taken key (each f ps) n ≡ None = rest ∙ ap left (none_from (holder taken key ps n) (alone_after taken key n p ps apart h)) in
                  simp (h, t) gone
            ]
      ]

  swept_distinct : (ps : List P) → Distinct taken key ps → Distinct taken key (each f ps)
  swept_distinct [] apart = refl
  swept_distinct (p ∷ ps) apart =
      let tail = distinct_tail taken key p ps apart in
      let rest = swept_distinct ps tail in
      elim (cases_Bool (taken (f p))) [
        | inr t ↦ simp t rest
        | inl t ↦
            let was = keeps p t in
            let none : holder taken key (each f ps) (key p) ≡ None =
            swept_holder ps tail (key p) ∙ ap left (none_from (holder taken key ps (key p)) (distinct_head taken key p ps apart was.0)) in
            let gone : is_some (holder taken key (each f ps) (key (f p))) ≡ false =
            subst (λ (k : List ℕ). is_some (holder taken key (each f ps) k) ≡ false) (sym was.1) (ap is_some none) in
            simp (t, gone) rest
      ]

  fewer_here : (p : P) → cond (taken (f p)) 1 0 ≤ cond (taken p) 1 0
  fewer_here p =
      elim (cases_Bool (taken (f p))) [
        | inl t ↦ let was = (keeps p t).0 in simp (t, was) (omega arith)
        | inr t ↦ simp t (omega arith)
      ]

  swept_number : (ps : List P) → number taken (each f ps) ≤ number taken ps
  swept_number [] = omega arith
  swept_number (p ∷ ps) = omega (arith, fewer_here p, swept_number ps)

module _ {P E : Type 0} (taken : P → Bool) (key : P → List ℕ) (entry : P → E) where
  read_left : (f : P → P) (keeps : (p : P) → taken (f p) ≡ true → (taken p ≡ true) × (key (f p) ≡ key p)) (o : Option P) → option_map entry (left taken key f keeps o) ≡ changed_content taken entry f o
  read_left f keeps None = refl
  read_left f keeps (Some p) = elim (cases_Bool (taken (f p))) [ inl t ↦ simp t | inr t ↦ simp t ]

  pub swept_told : SweptTold taken key entry
  swept_told f keeps ps apart =
      record {
        map = λ j k. (ap (option_map entry) (swept_holder taken key f keeps ps apart k) ∙ read_left f keeps (holder taken key ps k)) j;
        apart = swept_distinct taken key f keeps ps apart;
        taken_number = swept_number taken key f keeps ps;
      }
