use Rattle.std.proofs.Common.{◌≡◌, ℕ, ◌<◌, ◌≤◌, ◌∷◌, length, sym, ap, ◌∙◌, inl, inr, arith, rules}
use lib.Count.{count_trailing_zeros, trailing_of_zero}
use Rattle.std.proofs.lemmas.Bool.{cases_eq}
use Rattle.std.proofs.iter.Next.{firm}
use Rattle.std.proofs.lemmas.Grind.{common_steps}
use Rattle.fieldset.specs.Fields.{number}
use Rattle.fieldset.specs.Sets.{members}
use Rattle.fieldset.specs.declared.field.Field.{Field}
use Rattle.fieldset.proofs.Members.{none_in}
use Rattle.fieldset.proofs.Cleared.{lowest_cleared}
use Rattle.fieldset.proofs.fields.FieldsIterator.next.Goals as goal

number_low : (f : Field) → number f < 10
number_low f = search rules

pub returns-in_err-field-clause-steps : goal.returns-in_err-field-clause-steps
returns-in_err-field-clause-steps c =
    let h : 10 ≤ count_trailing_zeros 16 c.args.self.now.rest.bits = grind (arith, common_steps, c.try_from.ensures, c.ok.ensures, c.in_err-field.was) in
    let none = none_in 10 c.args.self.now.rest.bits (omega arith) h in
    rw c.from_residual.ensures (none, none)

some_left : (n : ℕ) → count_trailing_zeros 16 n < 10 → 0 < n
some_left n h =
    elim (cases_eq n 0) [
      | inl z ↦ absurd (omega (arith, ap (count_trailing_zeros 16) z, trailing_of_zero 16))
      | inr ne ↦ omega arith
    ]

pub without_lowest-self-requires : goal.without_lowest-self-requires
without_lowest-self-requires c =
    let k : number c.in_ok-field.field ≡ count_trailing_zeros 16 c.args.self.now.rest.bits = grind (arith, common_steps, c.try_from.ensures, c.ok.ensures, c.in_ok-field.was) in
    (omega arith, some_left c.args.self.now.rest.bits (omega (arith, number_low c.in_ok-field.field)))

pub returns : goal.returns
returns c =
    let n = c.args.self.now.rest.bits in
    let k : number c.in_ok-field.field ≡ count_trailing_zeros 16 n = grind (arith, common_steps, c.try_from.ensures, c.ok.ensures, c.in_ok-field.was) in
    let low = number_low c.in_ok-field.field in
    let e : members 10 n ≡ number c.in_ok-field.field ∷ members 10 c.without_lowest-self.result.bits =
    lowest_cleared 10 16 n (omega arith) (omega arith) ∙ (λ i. sym k i ∷ members 10 (sym c.without_lowest-self.ensures i)) in
    record { steps = e; goes = firm ((tt, tt, omega (arith, ap length e))) (λ h. search rules) }
