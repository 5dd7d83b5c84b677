-- Two addresses are spelt alike exactly when both parts are the same.
use Rattle.std.proofs.Common.{◌≡◌, ℕ, Bool, true, false, ◌&&◌, eqb, List, [], ◌∷◌, ◌++◌, length, sym, refl, ap, ◌∙◌}
use lib.Dec.{eqb-zero-suc, eqb-suc-zero, eqb-suc-suc}
use Rattle.std.specs.Str.{bytes_eq}
use Rattle.dictionary.specs.Addresses.{Address as Meant}
use Rattle.address.specs.Kept.{same, spelling}

and_true : (b : Bool) → (b && true) ≡ b
and_true true = refl
and_true false = refl

and_false : (b : Bool) → (b && false) ≡ false
and_false true = refl
and_false false = refl

turn : (a e t u v : Bool) → (a && t) ≡ (u && v) → (a && (e && t)) ≡ (u && (e && v))
turn a true t u v h = h
turn a false t u v h = and_false a ∙ sym (and_false u)

both : (r s x y : List ℕ) → (eqb (length r) (length s) && bytes_eq (r ++ x) (s ++ y)) ≡ (bytes_eq x y && bytes_eq r s)
both [] [] x y = sym (and_true (bytes_eq x y))
both [] (n ∷ s) x y = ap (λ b. b && bytes_eq x (n ∷ (s ++ y))) (eqb-zero-suc (length s)) ∙ sym (and_false (bytes_eq x y))
both (m ∷ r) [] x y = ap (λ b. b && bytes_eq (m ∷ (r ++ x)) y) (eqb-suc-zero (length r)) ∙ sym (and_false (bytes_eq x y))
both (m ∷ r) (n ∷ s) x y =
    ap (λ b. b && (eqb m n && bytes_eq (r ++ x) (s ++ y))) (eqb-suc-suc (length r) (length s))
    ∙ turn (eqb (length r) (length s)) (eqb m n) (bytes_eq (r ++ x) (s ++ y)) (bytes_eq x y) (bytes_eq r s) (both r s x y)

pub spelt : (p q : Meant) → bytes_eq (spelling p) (spelling q) ≡ same p q
spelt p q = both p.realm q.realm p.ip q.ip
