-- A text, one character at a time.
use Rattle.std.proofs.Common.{is_some, true≢false, refl, ◌≡◌, ℕ, ◌+◌, ◌<◌, ◌≤◌, true, false, cond, List, [], ◌∷◌, ◌++◌, length, get_or, take, drop, Some, None, Option, sym, ap, ◌∙◌, append_assoc, arith, length-take}
use Rattle.std.proofs.lemmas.List.{drop_more, drop_all, take-append-le}
use Rattle.std.proofs.lemmas.Bool.Decides.{nat_tests}
use Rattle.hexadecimal.specs.Spelling.{Spelled, digit, blank, after, completed, waiting, ended, by_digit, spelled}

-- a digit that waits is a digit
abbrev pub Small : Option ℕ → Type 0
Small None = Unit {0}
Small (Some d) = d < 16

pub after_after : (xs ys : List ℕ) (s : Spelled) → after xs (after ys s) ≡ after (xs ++ ys) s
after_after xs ys s = λ i. record { bytes = sym (append_assoc xs ys s.bytes) i; fault = s.fault }

-- the text from place i on
module _ (text : List ℕ) (high : Option ℕ) (i : ℕ) (h : i < length text) where
  here : spelled (i + 1) high (drop i text) ≡ spelled (i + 1) high (get_or text i 0 ∷ drop (i + 1) text)
  here = ap (spelled (i + 1) high) (drop_more text i 0 h)

  pub spelled_blank : true ≡ blank (get_or text i 0) → spelled (i + 1) high (drop i text) ≡ spelled (i + 1 + 1) high (drop (i + 1) text)
  unfolding spelled
  spelled_blank b =
      here
      ∙ ap (λ t. cond t (spelled (i + 1 + 1) high (drop (i + 1) text)) (by_digit (digit (get_or text i 0)) (i + 1) (λ d. after (completed high d) (spelled (i + 1 + 1) (waiting high d) (drop (i + 1) text))))) (sym b)

  spelled_digits : false ≡ blank (get_or text i 0) → (o : Option ℕ) → o ≡ digit (get_or text i 0) → spelled (i + 1) high (drop i text) ≡ by_digit o (i + 1) (λ d. after (completed high d) (spelled (i + 1 + 1) (waiting high d) (drop (i + 1) text)))
  unfolding spelled
  spelled_digits b o e =
      here
      ∙ ap (λ t. cond t (spelled (i + 1 + 1) high (drop (i + 1) text)) (by_digit (digit (get_or text i 0)) (i + 1) (λ d. after (completed high d) (spelled (i + 1 + 1) (waiting high d) (drop (i + 1) text))))) (sym b)
      ∙ ap (λ t. by_digit t (i + 1) (λ d. after (completed high d) (spelled (i + 1 + 1) (waiting high d) (drop (i + 1) text)))) (sym e)

  pub spelled_fault : false ≡ blank (get_or text i 0) → None ≡ digit (get_or text i 0) → spelled (i + 1) high (drop i text) ≡ record { bytes = []; fault = Some (i + 1) }
  spelled_fault b e = spelled_digits b None e

  pub spelled_digit : false ≡ blank (get_or text i 0) → (d : ℕ) → Some d ≡ digit (get_or text i 0) → spelled (i + 1) high (drop i text) ≡ after (completed high d) (spelled (i + 1 + 1) (waiting high d) (drop (i + 1) text))
  spelled_digit b d e = spelled_digits b (Some d) e

pub spelled_end : (text : List ℕ) (high : Option ℕ) (i : ℕ) → length text ≤ i → spelled (i + 1) high (drop i text) ≡ record { bytes = []; fault = ended (i + 1) high }
unfolding spelled
spelled_end text high i h = ap (spelled (i + 1) high) (drop_all i text h)

-- a digit read: what it completes is appended, and what waits is kept
module _ (text : List ℕ) (high : Option ℕ) (i : ℕ) (h : i < length text) (b : false ≡ blank (get_or text i 0)) (d : ℕ) (e : Some d ≡ digit (get_or text i 0)) where
  pub digit_read : (items more : List ℕ) (high' : Option ℕ) → more ≡ items ++ completed high d → high' ≡ waiting high d → after more (spelled (i + 1 + 1) high' (drop (i + 1) text)) ≡ after items (spelled (i + 1) high (drop i text))
  digit_read items more high' p q =
      (λ j. after (p j) (spelled (i + 1 + 1) (q j) (drop (i + 1) text)))
      ∙ sym (after_after items (completed high d) (spelled (i + 1 + 1) (waiting high d) (drop (i + 1) text)))
      ∙ sym (ap (after items) (spelled_digit text high i h b d e))

pub digit_small : (c d : ℕ) → Some d ≡ digit c → d < 16
digit_small c d e = grind (arith, nat_tests)

-- a list that begins with another still does when more is appended
pub begins_still : (old items more : List ℕ) → take (length old) items ≡ old → take (length old) (items ++ more) ≡ old
begins_still old items more e =
    let l : length old ≤ length items = omega (arith, simp length-take at (ap length e)) in
    take-append-le (length old) items more l ∙ e

pub ended_some : (k : ℕ) (high : Option ℕ) → is_some high ≡ true → ended k high ≡ Some k
ended_some k None s = absurd (true≢false (sym s))
ended_some k (Some d) s = refl

pub ended_none : (k : ℕ) (high : Option ℕ) → is_some high ≡ false → ended k high ≡ None
ended_none k None s = refl
ended_none k (Some d) s = absurd (true≢false s)
