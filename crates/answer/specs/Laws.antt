-- What holds of every answer.
--     Bounded a           its parts are as long as they may be
--     ValuesSound vs     the values of the fields that are groups, 1, 3, 7 and 8, are sound where a value stands
--     fields_of m         the AVPs of the message m that show fields, in the order in which they stand
use Rattle.std.specs.Prelude.{◌≡◌, ℕ, ◌^◌, ◌<◌, ◌≤◌, true, List, [], ◌∷◌, map, length, Some, filter, count_ones}
use Rattle.std.specs.List.{All}
use Rattle.refusal.specs.declared.ResultCode.TheVariants.{Base, Experimental}
use Rattle.diameter.specs.Avps.{group}
use Rattle.diameter.specs.Headers.{header_of, body}
use Rattle.diameter.specs.Lists.{Avp, avps, named, count_such, first_such}
use Rattle.diameter.specs.Soundness.{sound}
use Rattle.fieldset.specs.Sets.{members}
use Rattle.request.specs.Askings.{Fault}
use Rattle.writer.specs.Parts.{part_avp}
use Rattle.message.specs.Limits.{session_limit, name_limit, field_limit, buffer_least}
use Rattle.answer.specs.Limits.{request_limit}
use Rattle.message.specs.Fields.{field_part, is_field}
use Rattle.answer.specs.Answers.{Answer, answer_flags, result_avp, answer_bytes}
use Rattle.message.specs.Laws.{is_group_field}
use Rattle.answer.specs.Copies.{Copyable, Tellable, FitsTell}
use Rattle.message.specs.Parts.{one}
use Rattle.answer.specs.Parts.{answer_parts}

pub record Bounded (a : Answer) : Type 0 where
  pub session : length a.session ≤ session_limit
  pub host : length a.host ≤ name_limit
  pub realm : length a.realm ≤ name_limit
  pub values : (k : ℕ) → k < 10 → length (a.values k) ≤ field_limit k
  pub fault : FitsTell a.fault

abbrev pub ValuesSound : (ℕ → List ℕ) → Type 0
ValuesSound values = (k : ℕ) → is_group_field k ≡ true → sound 3 (values k) ≡ true

abbrev pub fields_of : List ℕ → List Avp
fields_of m = filter is_field (avps (body m))

-- success, and the experimental result 5001
abbrev pub ResultsWorked : Type 0
ResultsWorked =
    (result_avp (Base 2001) ≡ 0x00 ∷ 0x00 ∷ 0x01 ∷ 0x0C ∷ 0x40 ∷ 0x00 ∷ 0x00 ∷ 0x0C ∷ 0x00 ∷ 0x00 ∷ 0x07 ∷ 0xD1 ∷ [])
    × (result_avp (Experimental 5001)
    ≡ 0x00 ∷ 0x00 ∷ 0x01 ∷ 0x29 ∷ 0x40 ∷ 0x00 ∷ 0x00 ∷ 0x20 ∷ 0x00 ∷ 0x00 ∷ 0x01 ∷ 0x0A ∷ 0x40 ∷ 0x00 ∷ 0x00 ∷ 0x0C ∷ 0x00 ∷ 0x00 ∷ 0x28 ∷ 0xAF ∷ 0x00 ∷ 0x00 ∷ 0x01 ∷ 0x2A ∷ 0x40 ∷ 0x00 ∷ 0x00 ∷ 0x0C ∷ 0x00 ∷ 0x00 ∷ 0x13 ∷ 0x89 ∷ [])

-- an answer fits the buffer
abbrev pub AnswersFit : Type 0
AnswersFit = (a : Answer) → Bounded a → length (answer_bytes a) ≤ buffer_least

-- the AVPs of an answer are sound at four levels
abbrev pub AnswersSound : Type 0
AnswersSound = (a : Answer) → Bounded a → ValuesSound a.values → Tellable a.fault → sound 4 (body (answer_bytes a)) ≡ true

-- the AVPs of an answer are read back as they were written
abbrev pub AnswersReadBack : Type 0
AnswersReadBack = (a : Answer) → Bounded a → avps (body (answer_bytes a)) ≡ map part_avp (answer_parts a)

-- its header is version 1, and repeats the request's command, application and identifiers
abbrev pub HeaderRepeats : Type 0
HeaderRepeats =
    (a : Answer) → Bounded a
    → a.request.command < 2 ^ 24 → a.request.application < 2 ^ 32 → a.request.hop_by_hop < 2 ^ 32 → a.request.end_to_end < 2 ^ 32
    → header_of (answer_bytes a)
    ≡ record {
      version = 1;
      length = length (answer_bytes a);
      flags = answer_flags a.request.flags a.result;
      command = a.request.command;
      application = a.request.application;
      hop_by_hop = a.request.hop_by_hop;
      end_to_end = a.request.end_to_end;
    }

-- and so does its Session-Id, where the request has one
abbrev pub SessionRepeats : Type 0
SessionRepeats =
    (a : Answer) → Bounded a → 0 < length a.session
    → first_such (named 263 0) (avps (body (answer_bytes a))) ≡ Some (part_avp (one 263 a.session))

-- the fields that an answer shows are those of the set, ascending, each with its value
abbrev pub FieldsShown : Type 0
FieldsShown = (a : Answer) → Bounded a → fields_of (answer_bytes a) ≡ map (λ k. part_avp (field_part k (a.values k))) (members 10 a.shown)

-- and they are as many as the set has ones
abbrev pub FieldsCounted : Type 0
FieldsCounted = (a : Answer) → Bounded a → a.shown < 2 ^ 10 → count_such is_field (avps (body (answer_bytes a))) ≡ count_ones a.shown

-- the AVPs of a sound request may be copied, and so may those directly in a group of it
abbrev pub RequestsCopyable : Type 0
RequestsCopyable =
    (m : List ℕ) → length m ≤ request_limit → sound 3 (body m) ≡ true
    → All (λ a. Copyable a × (group a.code a.vendor ≡ true → All Copyable (avps a.payload))) (avps (body m))

-- what may be told has the lengths that a draft asks for
abbrev pub TellableFits : Type 0
TellableFits = (f : Fault) → Tellable f → FitsTell f
