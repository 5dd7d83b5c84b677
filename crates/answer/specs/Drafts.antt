-- What the code's drafts mean.
--     answer_of values d   the answer that the draft d is to be, where `values` says what a source holds
--     closed_of values k   the answer that the closed one is
use Rattle.std.specs.Prelude.{ℕ, List}
use Rattle.answer.specs.Answers.{Answer}
use Rattle.answer.specs.Contents.{said_by}
use Rattle.answer.specs.declared.draft.Draft.{Draft}
use Rattle.answer.specs.declared.draft.Closed.{Closed}

abbrev pub answer_of : {S : Type 0} → (S → ℕ → List ℕ) → Draft S → Answer
answer_of values d = said_by values d.content

abbrev pub closed_of : {S : Type 0} → (S → ℕ → List ℕ) → Closed S → Answer
closed_of values k = said_by values k.content
