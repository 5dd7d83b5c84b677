-- Refusals tried in order: a table of (refusal, whether it applies), and what comes of it.
--     judged table x     the first refusal of the table that applies, or x where none does
--     Unrefused table    no refusal of the table applies
--     told f r           what a call returned, with its value as f tells it
use Rattle.std.specs.Prelude.{◌≡◌, Bool, false, cond, List, [], ◌∷◌, Ok, Err, Result}
use Rattle.refusal.specs.declared.Refusal.{Refusal}

abbrev pub judged : {A : Type 0} → List (Refusal × Bool) → A → Result A Refusal
judged [] x = Ok x
judged ((r, applies) ∷ later) x = cond applies (Err r) (judged later x)

abbrev pub Unrefused : List (Refusal × Bool) → Type 0
Unrefused [] = Unit {0}
Unrefused ((r, applies) ∷ later) = (applies ≡ false) × Unrefused later

abbrev pub told : {A B : Type 0} → (A → B) → Result A Refusal → Result B Refusal
told f (Ok x) = Ok (f x)
told f (Err e) = Err e
