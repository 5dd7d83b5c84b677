-- How long an answer is.
use Rattle.std.proofs.Common.{◌≡◌, ℕ, ◌+◌, ◌≤◌, Bool, true, false, cond, eqb, List, [], ◌++◌, length, refl, ap, ◌∙◌, arith, length-append}
use lib.ListN.{length-replicate}
use Rattle.refusal.specs.declared.ResultCode.{ResultCode}
use Rattle.refusal.specs.declared.ResultCode.TheVariants.{Base, Experimental}
use Rattle.fieldset.specs.Sets.{members}
use Rattle.dictionary.specs.Names.{code, vendor, flags, shortest}
use Rattle.request.specs.Askings.{Fault, nothing, copied, lacks}
use Rattle.writer.specs.Bytes.{zeros}
use Rattle.writer.specs.Avps.{avp}
use Rattle.writer.specs.Parts.{parts_bytes}
use Rattle.writer.proofs.Avps.{length_avp, avp_size_whole}
use Rattle.writer.proofs.Written.{length_parts, length_message}
use Rattle.message.specs.Fields.{field_parts}
use Rattle.answer.specs.Faults.{copy, blank, failed_avp, failed_size, kept_of, held_of}
use Rattle.answer.specs.Answers.{Answer, answer_flags, session_avp, session_size, result_avp, result_size, answer_front, front_size, answer_body, body_size, answer_bytes}
use Rattle.message.specs.Messages.{application_avp, sender_avps}
use Rattle.message.proofs.Parts.{length_sender}
use Rattle.answer.proofs.Faults.{length_copy}

length_unless : (b : Bool) (xs : List ℕ) (n : ℕ) → length xs ≡ n → length (cond b [] xs) ≡ cond b 0 n
length_unless true xs n e = refl
length_unless false xs n e = e

length_session : (xs : List ℕ) → length (session_avp xs) ≡ session_size xs
length_session xs = length_unless (eqb (length xs) 0) (avp 263 0x40 0 xs) _ (length_avp 263 0x40 0 xs)

length_result : (r : ResultCode) → length (result_avp r) ≡ result_size r
length_result (Base c) = refl
length_result (Experimental c) = refl

length_front : (session : List ℕ) (r : ResultCode) (host realm : List ℕ) → length (answer_front session r host realm) ≡ front_size session r host realm
length_front session r host realm =
    let s = length_session session in
    let o = length_result r in
    let h = length_sender host realm in
    omega (
      arith,
      length-append (session_avp session) (application_avp ++ (result_avp r ++ sender_avps host realm)),
      length-append (result_avp r) (sender_avps host realm),
    )

pub length_failed : (f : Fault) → kept_of f ≤ held_of f → length (failed_avp f) ≡ failed_size f
length_failed nothing h = refl
length_failed (copied a) h = let l = length_copy a h in omega (arith, length_avp 279 0x40 0 (copy a))
length_failed (lacks k) h =
    let z = length-replicate {A = ℕ} (shortest k) 0 in
    let l = length_avp (code k) (flags k) (vendor k) (zeros (shortest k)) in
    omega (arith, length_avp 279 0x40 0 (blank k), avp_size_whole (flags k) (length (zeros (shortest k))))

pub length_body : (a : Answer) → kept_of a.fault ≤ held_of a.fault → length (answer_body a) ≡ body_size a
length_body a h =
    let fields : List ℕ = parts_bytes (field_parts a.values (members 10 a.shown)) in
    length-append (answer_front a.session a.result a.host a.realm) (fields ++ failed_avp a.fault)
    ∙ (λ i.
    length_front a.session a.result a.host a.realm i
    + (length-append fields (failed_avp a.fault) ∙ (λ j. length_parts (field_parts a.values (members 10 a.shown)) j + length_failed a.fault h j)) i)

-- the header has 20 bytes
pub length_whole : (a : Answer) → length (answer_bytes a) ≡ 20 + length (answer_body a)
unfolding answer_bytes
length_whole a =
    length_message (20 + length (answer_body a)) (answer_flags a.request.flags a.result) a.request.command a.request.application a.request.hop_by_hop a.request.end_to_end (answer_body a)

pub length_answer : (a : Answer) → kept_of a.fault ≤ held_of a.fault → length (answer_bytes a) ≡ 20 + body_size a
length_answer a h = length_whole a ∙ ap (λ (n : ℕ). 20 + n) (length_body a h)
