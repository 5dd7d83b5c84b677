use Rattle.std.proofs.Common.{ℕ, List, length, sym, ap, arith, length-append}
use Rattle.fieldset.specs.Fields.{number}
use Rattle.fieldset.specs.Sets.{members}
use Rattle.writer.specs.Parts.{part_bytes, parts_bytes}
use Rattle.writer.proofs.Stores.{◌⊕◌, appends_as}
use Rattle.message.specs.Fields.{field_part, field_parts}
use Rattle.message.proofs.Fields.{bytes_more}
use Rattle.answer.proofs.fields.ShownSection.put.Goals as goal

pub loop-field-preserved : goal.loop-field-preserved
loop-field-preserved g c =
    let values : ℕ → List ℕ = g.S.FieldSource.value c.args.self.now.source.now in
    let k : ℕ = number c.in-Some.field in
    let after : List ℕ = members 10 c.next.new.self.rest.bits in
    let more = bytes_more values (members 10 c.loop-field.field-iterator.rest.bits) after k c.in-Some.ensures.steps in
    let length_more = ap length more in (
      tt,
      tt,
      (λ v a. c.loop-field.invariant.2 v (appends_as (sym more) (appends_as c.avp.ensures.is c.put.ensures ⊕ a))),
      omega (
        arith,
        c.loop-field.invariant.3,
        c.put.ensures.wrote.end,
        c.put.ensures.wrote.size,
        ap length c.avp.ensures.is,
        length-append (part_bytes (field_part k (values k))) (parts_bytes (field_parts values after)),
      ),
    )
