use Rattle.std.proofs.Common.{◌≡◌, ℕ, ◌+◌, List, ◌++◌, length, sym, ap, ◌∙◌, arith}
use Rattle.diameter.specs.declared.header.Header.{Header}
use Rattle.writer.specs.Headers.{message_header, header_bytes}
use Rattle.answer.specs.Answers.{Answer, answer_flags, answer_body, answer_bytes}
use Rattle.answer.specs.Drafts.{closed_of}
use Rattle.answer.proofs.Lengths.{length_whole}
use Rattle.answer.proofs.draft.Closed.write.Goals as goal

pub write_message-requires : goal.write_message-requires
write_message-requires g c =
    let a : Answer = closed_of g.S.FieldSource.value c.args.self in
    let size : c.size.result ≡ 20 + length (answer_body a) = c.size.ensures.is ∙ length_whole a in
    let body = ap length c.body.ensures in
    (omega arith, omega (arith, c.size.ensures.within))

pub returns : goal.returns
unfolding answer_bytes
returns g c =
    let a : Answer = closed_of g.S.FieldSource.value c.args.self in
    let r : Header = a.request in
    let size : c.size.result ≡ 20 + length (answer_body a) = c.size.ensures.is ∙ length_whole a in
    let written = c.write_message.ensures.size ∙ ap (λ (q : List ℕ). 20 + length q) c.body.ensures in
    record {
      bytes =
          c.write_message.ensures.bytes
          ∙ (λ i. header_bytes (c.answer_header-header.ensures i) ++ c.body.ensures i)
          ∙ ap (λ (k : ℕ). message_header k (answer_flags r.flags a.result) r.command r.application r.hop_by_hop r.end_to_end ++ answer_body a) size;
      rest = c.write_message.ensures.rest;
      size = written ∙ sym (length_whole a);
      within = omega (arith, c.size.ensures.within);
    }
