-- An answer as the list of its AVPs.
--     session_parts     the Session-Id, where there is one
--     result_part       the result
--     fault_parts       the Failed-AVP, where there is one
--     front_parts, answer_parts   the AVPs before the fields, and all of them, in their order
use Rattle.std.specs.Prelude.{ℕ, cond, List, [], ◌∷◌, ◌++◌, length, ◌==◌}
use Rattle.refusal.specs.declared.ResultCode.{ResultCode}
use Rattle.refusal.specs.declared.ResultCode.TheVariants.{Base, Experimental}
use Rattle.fieldset.specs.Sets.{members}
use Rattle.request.specs.Askings.{Fault, nothing, copied, lacks}
use Rattle.writer.specs.Bytes.{bytes32}
use Rattle.writer.specs.Avps.{avp}
use Rattle.writer.specs.Parts.{Part}
use Rattle.message.specs.Fields.{field_parts}
use Rattle.message.specs.Parts.{one, application_part, sender_parts}
use Rattle.answer.specs.Faults.{copy, blank}
use Rattle.answer.specs.Answers.{Answer}

abbrev pub session_parts : List ℕ → List Part
session_parts xs = cond (length xs == 0) [] (one 263 xs ∷ [])

abbrev pub result_part : ResultCode → Part
result_part (Base c) = one 268 (bytes32 c)
result_part (Experimental c) = one 297 (avp 266 0x40 0 (bytes32 10415) ++ avp 298 0x40 0 (bytes32 c))

abbrev pub fault_parts : Fault → List Part
fault_parts nothing = []
fault_parts (copied a) = one 279 (copy a) ∷ []
fault_parts (lacks k) = one 279 (blank k) ∷ []

abbrev pub front_parts : List ℕ → ResultCode → List ℕ → List ℕ → List Part
front_parts session r host realm = session_parts session ++ (application_part ∷ result_part r ∷ sender_parts host realm)

abbrev pub answer_parts : Answer → List Part
answer_parts a =
    front_parts a.session a.result a.host a.realm ++ (field_parts a.values (members 10 a.shown) ++ fault_parts a.fault)
