-- Bytes written in digits are read back.
use Rattle.std.proofs.Common.{◌≡◌, ℕ, suc, ◌+◌, ◌*◌, ◌/◌, ◌%◌, ◌<◌, false, cond, List, [], ◌∷◌, get_or, Some, None, Option, refl, ap, ◌∙◌, arith}
use Rattle.std.proofs.lemmas.Bool.Decides.{nat_tests}
use Rattle.hexadecimal.specs.Spelling.{digit, blank, after, completed, waiting, by_digit, spelled}
use Rattle.hexadecimal.specs.Laws.{upper, lower, written, ReadBack}

-- a way to write digits that is read back digit by digit
pub record Digits (f : ℕ → ℕ) : Type 0 where
  pub seen : (n : ℕ) → n < 16 → blank (f n) ≡ false
  pub says : (n : ℕ) → n < 16 → digit (f n) ≡ Some n

spelled_one : (k : ℕ) (high : Option ℕ) (c n : ℕ) (text : List ℕ) → blank c ≡ false → digit c ≡ Some n → spelled k high (c ∷ text) ≡ after (completed high n) (spelled (k + 1) (waiting high n) text)
unfolding spelled
spelled_one k high c n text b e =
    ap (λ t. cond t (spelled (k + 1) high text) (by_digit (digit c) k (λ d. after (completed high d) (spelled (k + 1) (waiting high d) text)))) b
    ∙ ap (λ t. by_digit t k (λ d. after (completed high d) (spelled (k + 1) (waiting high d) text))) e

pub backs : (f : ℕ → ℕ) → Digits f → (k : ℕ) (bs : List ℕ) → ((i : ℕ) → get_or bs i 0 < 256) → spelled k None (written f bs) ≡ record { bytes = bs; fault = None }
unfolding spelled
backs f w k [] small = refl
backs f w k (b ∷ bs) small =
    let s : b < 256 = small 0 in
    let hi : b / 16 < 16 = omega arith in
    let lo : b % 16 < 16 = omega arith in
    let whole : b / 16 * 16 + b % 16 ≡ b = omega arith in
    spelled_one k None (f (b / 16)) (b / 16) (f (b % 16) ∷ written f bs) (w.seen (b / 16) hi) (w.says (b / 16) hi)
    ∙ spelled_one (k + 1) (Some (b / 16)) (f (b % 16)) (b % 16) (written f bs) (w.seen (b % 16) lo) (w.says (b % 16) lo)
    ∙ (λ j. after (whole j ∷ []) (backs f w (k + 1 + 1) bs (λ i. small (suc i)) j))

upper_digits : Digits upper
upper_digits = record { seen = λ n h. grind (arith, nat_tests); says = λ n h. grind (arith, nat_tests) }

lower_digits : Digits lower
lower_digits = record { seen = λ n h. grind (arith, nat_tests); says = λ n h. grind (arith, nat_tests) }

pub read_back : ReadBack
read_back k bs small = (backs upper upper_digits k bs small, backs lower lower_digits k bs small)
