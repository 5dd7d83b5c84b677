use Rattle.std.proofs.Common.{length}
use Rattle.fieldset.specs.Sets.{members}
use Rattle.writer.specs.declared.writer.Writer.{Writer}
use Rattle.writer.specs.Parts.{parts_bytes}
use Rattle.writer.specs.Stores.{Appends, room}
use Rattle.message.specs.Fields.{field_parts}
use Rattle.answer.proofs.fields.ShownSection.put.Given as goal

-- what writes the fields to come, from here on, writes them all
abbrev pub invariant-loop-field : goal.invariant-loop-field
invariant-loop-field g l =
    let values = g.S.FieldSource.value l.self.source.now in
    (goal.iterator-loop-field g).can_next l.field-iterator
    × (goal.iterator-loop-field g).is_finite l.field-iterator
    × ((v : Writer)
    → Appends l.w (parts_bytes (field_parts values (members 10 l.field-iterator.rest.bits))) v
    → Appends l.initial.w (parts_bytes (field_parts values (members 10 l.initial.field-iterator.rest.bits))) v)
    × room (length (parts_bytes (field_parts values (members 10 l.field-iterator.rest.bits)))) l.w
