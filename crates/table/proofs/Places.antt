-- What the searches find, in the words of the table.
use Rattle.std.proofs.Common.{◌≡◌, ℕ, ◌+◌, Bool, true, false, List, [], ◌∷◌, is_some, Some, None, Option, sym, refl, ap, ◌∙◌, subst, inl, inr}
use Rattle.std.specs.List.{find, list_any, position, position_from}
use Rattle.std.specs.Option.{option_map}
use Rattle.std.proofs.lemmas.Bool.{cases_Bool, both_ways}
use Rattle.std.proofs.lemmas.Iterator.Adapters.{position_from-zero}
use Rattle.table.specs.Tables.{holds, holder, at}

pub some_mapped : {A B : Type 0} (f : A → B) (o : Option A) → is_some (option_map f o) ≡ is_some o
some_mapped f None = refl
some_mapped f (Some x) = refl

-- there is a first place that passes where some place does, and where a search finds one
pub some_placed : {P : Type 0} (t : P → Bool) (n : ℕ) (ps : List P) → is_some (position_from t n ps) ≡ list_any t ps
some_placed t n [] = refl
some_placed t n (p ∷ ps) = elim (cases_Bool (t p)) [ inl h ↦ simp h refl | inr h ↦ simp h (some_placed t (n + 1) ps) ]

some_found : {P : Type 0} (t : P → Bool) (n : ℕ) (ps : List P) → is_some (position_from t n ps) ≡ is_some (find t ps)
some_found t n [] = refl
some_found t n (p ∷ ps) = elim (cases_Bool (t p)) [ inl h ↦ simp h refl | inr h ↦ simp h (some_found t (n + 1) ps) ]

module _ {P : Type 0} (taken : P → Bool) (key : P → List ℕ) (ps : List P) (k : List ℕ) where
  pub known_at : {E : Type 0} (entry : P → E) (r : Option ℕ) → r ≡ position (holds taken key k) ps → is_some r ≡ is_some (at taken key entry ps k)
  known_at entry r e =
      ap is_some (e ∙ position_from-zero (holds taken key k) ps)
      ∙ some_found (holds taken key k) 0 ps
      ∙ sym (some_mapped entry (holder taken key ps k))

-- a key that is known, or is not, as a step finds it
pub none_held : {P E : Type 0} (taken : P → Bool) (key : P → List ℕ) (entry : P → E) (ps : List P) (k : List ℕ) → false ≡ is_some (at taken key entry ps k) → is_some (holder taken key ps k) ≡ false
none_held taken key entry ps k none = sym (some_mapped entry (holder taken key ps k)) ∙ sym none

pub never : {A : Type 0} → true ≡ false → A
never r = absurd (both_ways true r refl)

pub none_under : {P E A : Type 0} (taken : P → Bool) (key : P → List ℕ) (entry : P → E) (ps : List P) (k n : List ℕ) (o : Option A) (b : Bool) → is_some o ≡ is_some (at taken key entry ps n) → b ≡ is_some o → b ≡ false → n ≡ k → is_some (at taken key entry ps k) ≡ false
none_under taken key entry ps k n o b known is misses same =
    subst (λ (x : List ℕ). is_some (at taken key entry ps x) ≡ false) same (sym known ∙ sym is ∙ misses)
