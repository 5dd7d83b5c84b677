-- Keys that are the same bytes.
use Rattle.std.proofs.Common.{◌≡◌, ℕ, Bool, true, false, ◌&&◌, eqb, List, [], ◌∷◌, ◌++◌, length, refl, sym, ap, ◌∙◌, inl, inr, arith}
use Rattle.std.specs.Str.{bytes_eq}
use Rattle.std.proofs.lemmas.Bool.{cases_Bool, both_ways}
use Rattle.std.proofs.lemmas.Slice.Eq.{bytes_eq-Decides}

pub same_true : (a b : List ℕ) → bytes_eq a b ≡ true → a ≡ b
same_true a b h = (bytes_eq-Decides a b).0 h

pub same_refl : (a : List ℕ) → bytes_eq a a ≡ true
same_refl a = (bytes_eq-Decides a a).1 refl

pub same_from : (a b : List ℕ) → a ≡ b → bytes_eq a b ≡ true
same_from a b e = (bytes_eq-Decides a b).1 e

pub same_swapped : (a b : List ℕ) → bytes_eq a b ≡ bytes_eq b a
same_swapped a b =
    elim (cases_Bool (bytes_eq a b)) [
      | inl s ↦ s ∙ sym (same_from b a (sym (same_true a b s)))
      | inr s ↦
          elim (cases_Bool (bytes_eq b a)) [
            | inl t ↦ absurd (both_ways (bytes_eq a b) s (same_from a b (sym (same_true b a t))))
            | inr t ↦ s ∙ sym t
          ]
    ]

and_assoc : (a b c : Bool) → (a && (b && c)) ≡ ((a && b) && c)
and_assoc true b c = refl
and_assoc false b c = refl

-- a key in two parts, the first as long in both: for a place that compares them one after the other
pub same_parts : (xs ys s t : List ℕ) → length xs ≡ length ys → bytes_eq (xs ++ s) (ys ++ t) ≡ (bytes_eq xs ys && bytes_eq s t)
same_parts [] [] s t e = refl
same_parts [] (y ∷ ys) s t e = absurd (omega arith)
same_parts (x ∷ xs) [] s t e = absurd (omega arith)
same_parts (x ∷ xs) (y ∷ ys) s t e =
    ap (λ (b : Bool). eqb x y && b) (same_parts xs ys s t (omega arith)) ∙ and_assoc (eqb x y) (bytes_eq xs ys) (bytes_eq s t)
