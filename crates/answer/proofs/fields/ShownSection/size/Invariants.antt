use Rattle.std.proofs.Common.{◌≡◌, ◌+◌, ◌≤◌, length}
use Rattle.fieldset.specs.Sets.{members}
use Rattle.writer.specs.Parts.{parts_bytes}
use Rattle.message.specs.Fields.{field_parts, limits_size}
use Rattle.answer.proofs.fields.ShownSection.size.Given as goal

abbrev pub invariant-loop-field : goal.invariant-loop-field
invariant-loop-field g l =
    let values = g.S.FieldSource.value l.self.source.now in
    (goal.iterator-loop-field g).can_next l.field-iterator
    × (goal.iterator-loop-field g).is_finite l.field-iterator
    × (l.size + length (parts_bytes (field_parts values (members 10 l.field-iterator.rest.bits))) ≡ length (parts_bytes (field_parts values (members 10 l.initial.field-iterator.rest.bits))))
    × (l.size + limits_size (members 10 l.field-iterator.rest.bits) ≤ limits_size (members 10 l.initial.field-iterator.rest.bits))
