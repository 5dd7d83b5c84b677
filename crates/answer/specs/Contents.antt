-- What an answer's content says.
--     said_by values c   the answer with the content c, where `values` says what a source holds
use Rattle.std.specs.Prelude.{ℕ, List}
use Rattle.request.specs.Askings.{fault_of}
use Rattle.answer.specs.Answers.{Answer}
use Rattle.answer.specs.declared.content.Content.{Content}

abbrev pub said_by : {S : Type 0} → (S → ℕ → List ℕ) → Content S → Answer
said_by values c =
    record {
      request = c.request;
      session = c.session.0.octets.now;
      result = c.code;
      host = c.origin.host.now;
      realm = c.origin.realm.now;
      shown = c.shown.set.bits;
      values = values c.shown.source.now;
      fault = fault_of c.failed.faulty;
    }
