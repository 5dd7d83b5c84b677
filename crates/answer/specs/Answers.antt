-- An answer, and its bytes.
--     Answer               what an answer says: the header of the request, the Session-Id (none where it is empty), the result, our host and
--                          realm, the set of the fields shown with the values of all fields, and what is told of the request's AVPs
--     bare                 the answer that shows no field and tells nothing of the request's AVPs
--     showing bits a       the answer a with the fields of the set shown
--     telling f a          the answer a with what is told of the request's AVPs
--     answer_flags f r     the header's flags: 40 as in the request's flags f, and 20 where the result is an error of the protocol
--     session_avp xs       the Session-Id, where there is one
--     result_avp r         the Result-Code, or the Experimental-Result of 3GPP
--     answer_front, answer_body, answer_bytes   the AVPs that every answer has, all its AVPs, and the whole message
--     session_size, result_size, front_size, body_size   how long these are
use Rattle.std.specs.Prelude.{ℕ, ◌+◌, Bool, false, cond, ◌||◌, List, [], ◌++◌, length, ◌==◌, bit_and}
use Rattle.refusal.specs.declared.ResultCode.{ResultCode}
use Rattle.refusal.specs.declared.ResultCode.TheVariants.{Base, Experimental}
use Rattle.diameter.specs.declared.header.Header.{Header}
use Rattle.fieldset.specs.Sets.{members}
use Rattle.request.specs.Askings.{Fault, nothing}
use Rattle.writer.specs.Bytes.{bytes32}
use Rattle.writer.specs.Avps.{avp_size, avp}
use Rattle.writer.specs.Headers.{message_header}
use Rattle.writer.specs.Parts.{parts_bytes, parts_size}
use Rattle.message.specs.Fields.{field_parts}
use Rattle.message.specs.Messages.{application_avp, sender_avps, sender_size}
use Rattle.answer.specs.Faults.{failed_avp, failed_size}

pub record Answer : Type 0 where
  pub request : Header
  pub session : List ℕ
  pub result : ResultCode
  pub host : List ℕ
  pub realm : List ℕ
  pub shown : ℕ
  pub values : ℕ → List ℕ
  pub fault : Fault

abbrev pub bare : Header → List ℕ → ResultCode → List ℕ → List ℕ → (ℕ → List ℕ) → Answer
bare request session r host realm values =
    record { request = request; session = session; result = r; host = host; realm = realm; shown = 0; values = values; fault = nothing }

abbrev pub showing : ℕ → Answer → Answer
showing bits a =
    record {
      request = a.request;
      session = a.session;
      result = a.result;
      host = a.host;
      realm = a.realm;
      shown = bits;
      values = a.values;
      fault = a.fault;
    }

abbrev pub telling : Fault → Answer → Answer
telling f a =
    record {
      request = a.request;
      session = a.session;
      result = a.result;
      host = a.host;
      realm = a.realm;
      shown = a.shown;
      values = a.values;
      fault = f;
    }

-- an unknown application or command
abbrev pub is_protocol_error : ResultCode → Bool
is_protocol_error (Base c) = c == 3001 || c == 3007
is_protocol_error (Experimental c) = false

abbrev pub answer_flags : ℕ → ResultCode → ℕ
answer_flags f r = bit_and f 0x40 + cond (is_protocol_error r) 0x20 0

abbrev pub session_avp : List ℕ → List ℕ
session_avp xs = cond (length xs == 0) [] (avp 263 0x40 0 xs)

abbrev pub session_size : List ℕ → ℕ
session_size xs = cond (length xs == 0) 0 (avp_size 0x40 (length xs))

abbrev pub result_avp : ResultCode → List ℕ
result_avp (Base c) = avp 268 0x40 0 (bytes32 c)
result_avp (Experimental c) = avp 297 0x40 0 (avp 266 0x40 0 (bytes32 10415) ++ avp 298 0x40 0 (bytes32 c))

abbrev pub result_size : ResultCode → ℕ
result_size (Base c) = 12
result_size (Experimental c) = 32

abbrev pub answer_front : List ℕ → ResultCode → List ℕ → List ℕ → List ℕ
answer_front session r host realm = session_avp session ++ (application_avp ++ (result_avp r ++ sender_avps host realm))

abbrev pub front_size : List ℕ → ResultCode → List ℕ → List ℕ → ℕ
front_size session r host realm = session_size session + (32 + (result_size r + sender_size host realm))

abbrev pub answer_body : Answer → List ℕ
answer_body a =
    answer_front a.session a.result a.host a.realm
    ++ (parts_bytes (field_parts a.values (members 10 a.shown)) ++ failed_avp a.fault)

abbrev pub body_size : Answer → ℕ
body_size a =
    front_size a.session a.result a.host a.realm + (parts_size (field_parts a.values (members 10 a.shown)) + failed_size a.fault)

unfoldable pub answer_bytes : Answer → List ℕ
answer_bytes a =
    message_header (20 + length (answer_body a)) (answer_flags a.request.flags a.result) a.request.command a.request.application a.request.hop_by_hop a.request.end_to_end
    ++ answer_body a
