-- Sets of small numbers, each written as one number: member k as 2 ^ k.
--     has n k       k is a member of the set n
--     minus a b     the members of a that are not members of b
--     inside a b    each member of a is a member of b
--     how_many d n  how many of the numbers below d are members of n
--     members d n   those numbers, ascending
use Rattle.std.specs.Prelude.{ℕ, zero, suc, ◌+◌, ◌-◌, ◌/◌, ◌%◌, ◌^◌, Bool, cond, List, [], ◌∷◌, ◌++◌, ◌==◌, bit_and}

abbrev pub has : ℕ → ℕ → Bool
has n k = n / 2 ^ k % 2 == 1

abbrev pub minus : ℕ → ℕ → ℕ
minus a b = a - bit_and a b

abbrev pub inside : ℕ → ℕ → Bool
inside a b = bit_and a b == a

abbrev pub how_many : ℕ → ℕ → ℕ
how_many zero n = 0
how_many (suc d) n = how_many d n + cond (has n d) 1 0

unfoldable pub members : ℕ → ℕ → List ℕ
members zero n = []
members (suc d) n = members d n ++ cond (has n d) (d ∷ []) []
