-- The AVPs of the fields of a set: how long they are.
use Rattle.std.proofs.Common.{◌≡◌, ℕ, zero, suc, ◌+◌, ◌≤◌, Bool, true, false, cond, List, [], ◌∷◌, ◌++◌, ap, arith}
use Rattle.diameter.specs.Bytes.{padded}
use Rattle.writer.specs.Avps.{head_size}
use Rattle.writer.specs.Parts.{part_bytes, parts_bytes}
use Rattle.fieldset.specs.Sets.{has, members}
use Rattle.message.specs.Limits.{field_limit}
use Rattle.message.specs.Fields.{field_flags, field_part, field_size, field_parts, limits_size, fields_most}

limits_append : (xs ys : List ℕ) → limits_size (xs ++ ys) ≡ limits_size xs + limits_size ys
limits_append [] ys = omega arith
limits_append (x ∷ xs) ys = let e = limits_append xs ys in omega arith

-- of all numbers below d
abbrev limits_below : ℕ → ℕ
limits_below zero = 0
limits_below (suc d) = limits_below d + field_size d (field_limit d)

limits_one : (b : Bool) (d : ℕ) → limits_size (cond b (d ∷ []) []) ≤ field_size d (field_limit d)
limits_one true d = omega arith
limits_one false d = omega arith

limits_members : (d n : ℕ) → limits_size (members d n) ≤ limits_below d
unfolding members
limits_members zero n = omega arith
limits_members (suc d) n =
    omega (arith, limits_append (members d n) (cond (has n d) (d ∷ []) []), limits_one (has n d) d, limits_members d n)

pub limits_most : (n : ℕ) → limits_size (members 10 n) ≤ fields_most
limits_most n = limits_members 10 n

pub bytes_more : (values : ℕ → List ℕ) (ms ks : List ℕ) (k : ℕ) → ms ≡ k ∷ ks → parts_bytes (field_parts values ms) ≡ part_bytes (field_part k (values k)) ++ parts_bytes (field_parts values ks)
bytes_more values ms ks k e = ap (λ l. parts_bytes (field_parts values l)) e

pub limits_more : (ms ks : List ℕ) (k : ℕ) → ms ≡ k ∷ ks → limits_size ms ≡ field_size k (field_limit k) + limits_size ks
limits_more ms ks k e = ap limits_size e

within : (h n m : ℕ) → n ≤ m → padded (h + n) ≤ padded (h + m)
within h n m l = omega arith

-- a shorter value makes no longer AVP
pub size_within : (k n : ℕ) → n ≤ field_limit k → field_size k n ≤ field_size k (field_limit k)
size_within k n h = within (head_size (field_flags k)) n (field_limit k) h
