-- What the laws are said of: the transcripts that a repository can have.
--     Leads o R ls s   a repository opened by o over the book R has the transcript ls so far, and is in the state s
--     Lived o R ls     ls is the transcript of such a repository
--     transcript       the transcript of a list of calls, made one after the other from a state on
--     Isolation        of any two transcripts, over any two books, that are alike for an AF, the replies to that AF are the same
--     Accounts         every transcript is balanced
use Rattle.std.specs.Prelude.{ℕ, List, [], ◌∷◌, ◌++◌, length}
use Rattle.model.specs.Values.{Book, Opening, Call, Line}
use Rattle.model.specs.Steps.{State, opened, after, reply}
use Rattle.model.specs.Statements.{Untold, Balanced}

pub data Leads (o : Opening) (R : Book) : List Line → State → Type 0 where
  -- just opened
  begun : Leads o R [] (opened o)
  -- one more call, with the reply and the state that it has by its definition
  next : {ls : List Line} {s : State} → Leads o R ls s → (c : Call) → Leads o R (ls ++ (record { call = c; said = reply o R s c } ∷ [])) (after o R s c)

abbrev pub Lived : Opening → Book → List Line → Type 0
Lived o R ls = (s : State) × Leads o R ls s

abbrev pub transcript : Opening → Book → State → List Call → List Line
transcript o R s [] = []
transcript o R s (c ∷ later) = record { call = c; said = reply o R s c } ∷ transcript o R (after o R s c) later

abbrev pub Isolation : Type 0
Isolation = (a : ℕ) (o p : Opening) (R Q : Book) (ls ms : List Line) → Lived o R ls → Lived p Q ms → Untold a o p R Q ls ms

abbrev pub Accounts : Type 0
Accounts = (o : Opening) (R : Book) (ls : List Line) → Lived o R ls → Balanced R (length o.names) ls
