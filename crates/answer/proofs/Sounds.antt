-- Answers are sound: each AVP is no group, or a group with sound data.
use Rattle.std.proofs.Common.{◌≡◌, ℕ, ◌^◌, ◌<◌, true, eqb, List, [], ◌∷◌, ◌++◌, length, sym, refl, ap, ◌∙◌, subst, ⊎_elim, arith}
use lib.ListN.{length-replicate}
use Rattle.std.specs.List.{All}
use Rattle.std.proofs.lemmas.List.Elements.{All-from_recursion, All-nil, All-cons, All-append, All-map, All-weaker}
use Rattle.refusal.specs.declared.ResultCode.{ResultCode}
use Rattle.refusal.specs.declared.ResultCode.TheVariants.{Base, Experimental}
use Rattle.std.proofs.lemmas.Bool.{cases_Bool}
use Rattle.std.proofs.lemmas.Bool.Decides.{nat_tests}
use Rattle.diameter.specs.Avps.{group}
use Rattle.diameter.specs.Soundness.{sound}
use Rattle.diameter.specs.Laws.{Sound, none}
use Rattle.diameter.proofs.Decided.{decided}
use Rattle.fieldset.specs.Sets.{members}
use Rattle.dictionary.specs.Names.{code, vendor, flags, shortest}
use Rattle.dictionary.specs.declared.known.Known.{Known}
use Rattle.request.specs.Askings.{Fault, nothing, copied, lacks}
use Rattle.writer.specs.Bytes.{bytes32, zeros}
use Rattle.writer.specs.Parts.{Part, parts_bytes, part_vendor, Encodable, SoundPart, plain, nested}
use Rattle.writer.proofs.Written.{parts_sound, part_sound}
use Rattle.message.specs.Fields.{field_part, field_parts}
use Rattle.answer.specs.Faults.{copy, blank}
use Rattle.answer.specs.Answers.{Answer}
use Rattle.answer.specs.Copies.{Tellable}
use Rattle.message.specs.Parts.{one, application_part, sender_parts}
use Rattle.answer.specs.Parts.{session_parts, result_part, fault_parts, front_parts, answer_parts}
use Rattle.answer.specs.Laws.{ValuesSound, AnswersSound}
use Rattle.answer.proofs.Copies.{copy_sound}
use Rattle.answer.proofs.Bodies.{body_bytes, body_of_answer, parts_fit, shortest_le}
use Rattle.message.proofs.Parts.{members_below, one_fits, unless_all, head_le, all_both, application_sound, field_sound}

result_sound : (r : ResultCode) → SoundPart 4 (result_part r)
result_sound (Base c) = plain refl
result_sound (Experimental c) =
    nested refl
    (parts_sound 3 (one 266 (bytes32 10415) ∷ one 298 (bytes32 c) ∷ [])
    (All-from_recursion (λ p. Encodable p × SoundPart 3 p) (one 266 (bytes32 10415) ∷ one 298 (bytes32 c) ∷ []) (
      (one_fits 266 (bytes32 10415) (omega arith) (omega arith), plain refl),
      ((one_fits 298 (bytes32 c) (omega arith) (omega arith), plain refl), tt),
    )))

-- a missing AVP, as it is told
abbrev known_part : Known → Part
known_part k = record { code = code k; flags = flags k; vendor = vendor k; payload = zeros (shortest k) }

known_code : (k : Known) → (code k < 2 ^ 32) × (vendor k < 2 ^ 32)
known_code k = (grind arith, grind arith)

known_fits : (k : Known) → Encodable (known_part k)
known_fits k =
    let z = length-replicate {A = ℕ} (shortest k) 0 in
    let h = head_le (flags k) in
    let s = shortest_le k in
    record { code_fits = (known_code k).0; vendor_fits = (known_code k).1; size_fits = omega arith }

-- a group may be empty, and what may be told of it is nothing
group_blank : (k : Known) → group (code k) (vendor k) ≡ true → zeros (shortest k) ≡ []
group_blank k t = grind (arith, nat_tests)

vendor_named : (k : Known) → part_vendor (known_part k) ≡ vendor k
vendor_named k = grind (arith, nat_tests)

known_sound : (k : Known) → SoundPart 3 (known_part k)
known_sound k =
    let named = ap (group (code k)) (vendor_named k) in
    ⊎_elim
    (λ t. nested (named ∙ t) (subst (Sound 2) (sym (group_blank k t)) none))
    (λ f. plain (named ∙ f))
    (cases_Bool (group (code k) (vendor k)))

fault_sound : (f : Fault) → Tellable f → All (SoundPart 4) (fault_parts f)
fault_sound nothing t = All-nil (SoundPart 4)
fault_sound (copied a) t = All-cons (SoundPart 4) (one 279 (copy a)) [] (nested refl ((decided 3 (copy a)).0 (copy_sound a t))) (All-nil (SoundPart 4))
fault_sound (lacks k) t =
    All-cons (SoundPart 4) (one 279 (blank k)) [] (nested refl (part_sound {n = 3} {p = known_part k} (known_fits k) (known_sound k))) (All-nil (SoundPart 4))

front_sound : (session : List ℕ) (r : ResultCode) (host realm : List ℕ) → All (SoundPart 4) (front_parts session r host realm)
front_sound session r host realm =
    All-append (SoundPart 4) (session_parts session) (application_part ∷ result_part r ∷ sender_parts host realm)
    (unless_all (SoundPart 4) (eqb (length session) 0) (one 263 session) (plain refl))
    (All-from_recursion (SoundPart 4) (application_part ∷ result_part r ∷ sender_parts host realm) (nested refl application_sound, (result_sound r, (plain refl, (plain refl, (plain refl, tt))))))

fields_sound : (values : ℕ → List ℕ) (n : ℕ) → ValuesSound values → All (SoundPart 4) (field_parts values (members 10 n))
fields_sound values n h =
    All-map (SoundPart 4) (λ k. field_part k (values k)) (members 10 n)
    (All-weaker (λ k. k < 10) (λ k. SoundPart 4 (field_part k (values k))) (λ k l. field_sound k (values k) l (h k)) (members 10 n) (members_below 10 n))

all_sound : (a : Answer) → ValuesSound a.values → Tellable a.fault → All (SoundPart 4) (answer_parts a)
all_sound a h t =
    All-append (SoundPart 4) (front_parts a.session a.result a.host a.realm) (field_parts a.values (members 10 a.shown) ++ fault_parts a.fault)
    (front_sound a.session a.result a.host a.realm)
    (All-append (SoundPart 4) (field_parts a.values (members 10 a.shown)) (fault_parts a.fault) (fields_sound a.values a.shown h) (fault_sound a.fault t))

pub answers_sound : AnswersSound
answers_sound a b h t =
    ap (sound 4) (body_of_answer a ∙ body_bytes a)
    ∙ (decided 4 (parts_bytes (answer_parts a))).1
    (parts_sound 4 (answer_parts a) (all_both Encodable (SoundPart 4) (answer_parts a) (parts_fit a b) (all_sound a h t)))
