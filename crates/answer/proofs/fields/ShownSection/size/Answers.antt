use Rattle.std.proofs.Common.{◌≡◌, ℕ, List, length, ap, ◌∙◌, arith}
use Rattle.fieldset.specs.Fields.{number}
use Rattle.fieldset.specs.Sets.{members}
use Rattle.writer.proofs.Avps.{length_avp}
use Rattle.message.specs.Fields.{field_code, field_vendor, field_flags, field_size}
use Rattle.message.proofs.Fields.{limits_more, size_within, limits_most}
use Rattle.answer.proofs.fields.ShownSection.size.Goals as goal

pub overflow_add-size : goal.overflow_add-size
overflow_add-size g c =
    let k : ℕ = number c.in-Some.field in
    let value : List ℕ = g.S.FieldSource.value c.args.self.now.source.now k in
    let size : c.size-size.result ≡ field_size k (length value) = c.size-size.ensures.is ∙ ap length c.avp.ensures.is ∙ length_avp (field_code k) (field_flags k) (field_vendor k) value in
    let most = size_within k (length value) c.avp.ensures.fits in
    let more = limits_more (members 10 c.loop-field.field-iterator.rest.bits) (members 10 c.next.new.self.rest.bits) k c.in-Some.ensures.steps in
    omega (arith, c.loop-field.invariant.3, limits_most c.into_iter-field-iterator.result.rest.bits)

pub returns-clause-within : goal.returns-clause-within
returns-clause-within g c = omega (arith, c.loop-field.invariant.3, limits_most c.into_iter-field-iterator.result.rest.bits)
