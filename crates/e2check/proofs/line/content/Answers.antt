use Rattle.std.proofs.Common.{arith, rules, ◌≡◌, ℕ, ◌==◌, ◌||◌, Bool, cond, ltb, List, length, take, Some, None, Option, unwrap_or, sym, ap, ◌∙◌, inl, inr}
use Rattle.std.specs.List.{position_or_len}
use Rattle.std.proofs.lemmas.Bool.{cases_lt, lt-ltb, le-ltb, cond-true, cond-false}
use Rattle.std.proofs.lemmas.Iterator.{YieldsList-from_slice}
use Rattle.std.proofs.lemmas.Iterator.Search.{position_from_yields_List}
use Rattle.std.proofs.lemmas.List.{take_all}
use Rattle.e2check.proofs.line.content.Goals as goal

-- up to the place that was found, or else the whole
up_to : (xs : List ℕ) (p : ℕ) (o : Option ℕ) → o ≡ cond (ltb p (length xs)) (Some p) None → take (unwrap_or o (length xs)) xs ≡ take p xs
up_to xs p o e =
    elim (cases_lt p (length xs)) [
      | inl h ↦ ap (λ q. take (unwrap_or q (length xs)) xs) (e ∙ cond-true (ltb p (length xs)) (Some p) None (lt-ltb p (length xs) h))
      | inr h ↦
          ap (λ q. take (unwrap_or q (length xs)) xs) (e ∙ cond-false (ltb p (length xs)) (Some p) None (le-ltb p (length xs) h))
          ∙ take_all (length xs) xs (omega arith)
          ∙ sym (take_all p xs h)
    ]

pub returns : goal.returns
returns c =
    let line = c.args.line.now in
    let ends : ℕ → Bool = λ x. x == 0x23 || x == 0x0A in
    let first = position_from_yields_List ends _ _ c.position.result c.position.ensures.ran (YieldsList-from_slice line c.iter.ensures.rest) (λ x b q k. search rules) in
    let end : c.unwrap_or-end.result ≡ unwrap_or c.position.result (length line) = search rules in
    ap (λ n. take n line) end ∙ up_to line (position_or_len ends line) c.position.result first
