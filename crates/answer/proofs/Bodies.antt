-- An answer as its AVPs put end to end: sound, and read back.
use Rattle.std.proofs.Common.{◌≡◌, ℕ, ◌<◌, ◌≤◌, Bool, true, false, cond, eqb, List, [], ◌∷◌, ◌++◌, length, sym, refl, ap, ◌∙◌, append-nil, arith}
use lib.ListN.{length-replicate}
use Rattle.std.specs.List.{All}
use Rattle.std.proofs.lemmas.List.Elements.{All-from_recursion, All-nil, All-cons, All-append, All-map, All-weaker}
use Rattle.refusal.specs.declared.ResultCode.{ResultCode}
use Rattle.refusal.specs.declared.ResultCode.TheVariants.{Base, Experimental}
use Rattle.diameter.specs.Headers.{body}
use Rattle.diameter.specs.Lists.{avps}
use Rattle.fieldset.specs.Sets.{members}
use Rattle.dictionary.specs.Names.{code, vendor, flags, shortest}
use Rattle.dictionary.specs.declared.known.Known.{Known}
use Rattle.request.specs.Askings.{Fault, nothing, copied, lacks}
use Rattle.writer.specs.Bytes.{bytes32, zeros}
use Rattle.writer.specs.Avps.{avp}
use Rattle.writer.specs.Parts.{Part, part_bytes, parts_bytes, Encodable}
use Rattle.writer.proofs.Avps.{length_avp}
use Rattle.writer.proofs.Written.{parts_read_back}
use Rattle.message.specs.Limits.{session_limit, name_limit, field_limit}
use Rattle.message.specs.Fields.{field_part, field_parts}
use Rattle.answer.specs.Faults.{copy, blank, failed_avp}
use Rattle.answer.specs.Answers.{Answer, result_avp, answer_front, answer_body, answer_bytes}
use Rattle.message.specs.Messages.{application_avp}
use Rattle.answer.specs.Copies.{FitsTell}
use Rattle.message.specs.Parts.{one, application_part, sender_parts}
use Rattle.answer.specs.Parts.{session_parts, result_part, fault_parts, front_parts, answer_parts}
use Rattle.answer.specs.Laws.{Bounded, AnswersReadBack}
use Rattle.message.proofs.Parts.{parts_append, sender_bytes, head_le, one_fits, field_fits, members_below, unless_all}
use Rattle.answer.proofs.Faults.{length_copy}

-- one part, unless there is none
unless_bytes : (b : Bool) (p : Part) → cond b [] (part_bytes p) ≡ parts_bytes (cond b [] (p ∷ []))
unless_bytes true p = refl
unless_bytes false p = sym (append-nil (part_bytes p))

result_bytes : (r : ResultCode) → result_avp r ≡ part_bytes (result_part r)
result_bytes (Base c) = refl
result_bytes (Experimental c) = refl

fault_bytes : (f : Fault) → failed_avp f ≡ parts_bytes (fault_parts f)
fault_bytes nothing = refl
fault_bytes (copied a) = sym (append-nil (failed_avp (copied a)))
fault_bytes (lacks k) = sym (append-nil (failed_avp (lacks k)))

front_bytes : (session : List ℕ) (r : ResultCode) (host realm : List ℕ) → answer_front session r host realm ≡ parts_bytes (front_parts session r host realm)
front_bytes session r host realm =
    (λ i. unless_bytes (eqb (length session) 0) (one 263 session) i ++ (application_avp ++ (result_bytes r i ++ sender_bytes host realm i)))
    ∙ sym (parts_append (session_parts session) (application_part ∷ result_part r ∷ sender_parts host realm))

pub body_bytes : (a : Answer) → answer_body a ≡ parts_bytes (answer_parts a)
body_bytes a =
    let fs : List Part = field_parts a.values (members 10 a.shown) in
    (λ i. front_bytes a.session a.result a.host a.realm i ++ (parts_bytes fs ++ fault_bytes a.fault i))
    ∙ ap (λ (l : List ℕ). parts_bytes (front_parts a.session a.result a.host a.realm) ++ l) (sym (parts_append fs (fault_parts a.fault)))
    ∙ sym (parts_append (front_parts a.session a.result a.host a.realm) (fs ++ fault_parts a.fault))

-- a message's AVPs begin after its header
pub body_of_answer : (a : Answer) → body (answer_bytes a) ≡ answer_body a
unfolding answer_bytes
body_of_answer a = refl

pub shortest_le : (k : Known) → shortest k ≤ 4
shortest_le k = grind arith

-- a limit on what a Failed-AVP holds
blank_le : (k : Known) → length (blank k) ≤ 2048
blank_le k =
    let z = length-replicate {A = ℕ} (shortest k) 0 in
    let l = length_avp (code k) (flags k) (vendor k) (zeros (shortest k)) in
    let h = head_le (flags k) in
    omega (arith, shortest_le k)

result_fits : (r : ResultCode) → Encodable (result_part r)
result_fits (Base c) = one_fits 268 (bytes32 c) (omega arith) (omega arith)
result_fits (Experimental c) = one_fits 297 (avp 266 0x40 0 (bytes32 10415) ++ avp 298 0x40 0 (bytes32 c)) (omega arith) (omega arith)

fault_fits : (f : Fault) → FitsTell f → All Encodable (fault_parts f)
fault_fits nothing h = All-nil Encodable
fault_fits (copied a) h =
    let t = h.there in
    let s = h.short in
    All-cons Encodable (one 279 (copy a)) [] (one_fits 279 (copy a) (omega arith) (omega (arith, length_copy a h.there))) (All-nil Encodable)
fault_fits (lacks k) h = All-cons Encodable (one 279 (blank k)) [] (one_fits 279 (blank k) (omega arith) (blank_le k)) (All-nil Encodable)

front_fit : (session : List ℕ) (r : ResultCode) (host realm : List ℕ) → length session ≤ session_limit → length host ≤ name_limit → length realm ≤ name_limit
    → All Encodable (front_parts session r host realm)
front_fit session r host realm s h l =
    All-append Encodable (session_parts session) (application_part ∷ result_part r ∷ sender_parts host realm)
    (unless_all Encodable (eqb (length session) 0) (one 263 session) (one_fits 263 session (omega arith) (omega arith)))
    (All-from_recursion Encodable (application_part ∷ result_part r ∷ sender_parts host realm) (
      one_fits 260 application_part.payload (omega arith) (omega arith),
      (
        result_fits r,
        (
          one_fits 277 (bytes32 1) (omega arith) (omega arith),
          (one_fits 264 host (omega arith) (omega arith), (one_fits 296 realm (omega arith) (omega arith), tt)),
        ),
      ),
    ))

fields_fit : (values : ℕ → List ℕ) (n : ℕ) → ((k : ℕ) → k < 10 → length (values k) ≤ field_limit k) → All Encodable (field_parts values (members 10 n))
fields_fit values n h =
    All-map Encodable (λ k. field_part k (values k)) (members 10 n)
    (All-weaker (λ k. k < 10) (λ k. Encodable (field_part k (values k))) (λ k l. field_fits k (values k) (h k l)) (members 10 n) (members_below 10 n))

pub parts_fit : (a : Answer) → Bounded a → All Encodable (answer_parts a)
parts_fit a b =
    All-append Encodable (front_parts a.session a.result a.host a.realm) (field_parts a.values (members 10 a.shown) ++ fault_parts a.fault)
    (front_fit a.session a.result a.host a.realm b.session b.host b.realm)
    (All-append Encodable (field_parts a.values (members 10 a.shown)) (fault_parts a.fault) (fields_fit a.values a.shown b.values) (fault_fits a.fault b.fault))

pub answers_read_back : AnswersReadBack
answers_read_back a b =
    ap avps (body_of_answer a ∙ body_bytes a) ∙ parts_read_back (answer_parts a) (parts_fit a b)
