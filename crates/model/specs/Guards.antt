-- That the laws are not empty: a pair of histories which are alike for an AF and tell it something, and transcripts that the laws shut out.
--     line c x          a line of a transcript
--     others            another book: AF 0 as in `rights`, and AF 1 overrides nothing
--     long, short       two lists of calls; the first has more: a set that is hidden from AF 0, a hidden one that is refused, an ask from off the sheet, a
--                       slip of another AF
--     PairAlike        their transcripts over the two books are alike for AF 0, which is shown two fields in both, while AF 1 is told otherwise
--     ToldApart        two transcripts are alike for AF 0, and its replies are not the same: together they break isolation
--     LeaksShutOut    transcripts in which: what is withheld is shown; a withheld field is refused otherwise than an absent one; a notice is due without
--                       a look at the view; one serial serves all AFs; the places of subscriptions are shared
--     MiscountsShutOut   transcripts in which: a loss is invented; the second subscriber is not served
--     LeftAlike        a history and the history of only those of its calls that are left for an AF are alike for it: what is hidden looks as if it had never been
--     PlacesChosen     what may be used of the choice of a free place: it is within, it is free, and it is there when some place is free
use Rattle.std.specs.Prelude.{◌≡◌, ℕ, zero, suc, Bool, true, false, List, [], ◌∷◌, map, replicate, is_some, Some, slice_index_or}
use Rattle.model.specs.Values.{Book, Opening, Call, Arrive, Set, Ask, Take, Settle, Tell, Reply, Done, Answered, Taken, Counts, Line, outcome}
use Rattle.model.specs.Places.{free_place}
use Rattle.model.specs.Ledger.{left, own}
use Rattle.model.specs.Statements.{Alike, Untold, Balanced}
use Rattle.model.specs.Steps.{opened}
use Rattle.model.specs.Histories.{transcript}
use Rattle.model.specs.Days.{town, rights, home, field_asked, all_asked, events_wanted, figures}

abbrev pub line : Call → Reply → Line
line c x = record { call = c; said = x }

abbrev pub others : Book
others zero = record { allowed = 51; overriding = 0 }
others (suc b) = record { allowed = 1023; overriding = 0 }

abbrev pub come : Call
come = Arrive home (0x75 ∷ []) 16

abbrev pub long : List Call
long =
    come
    ∷ Set home 4 (2 ∷ [])
    ∷ Set home 5 (5 ∷ [])
    ∷ Set home 4 (replicate 49 0)
    ∷ Ask 7 2048 []
    ∷ Settle 1 9 0
    ∷ Ask 1 2048 (field_asked (0x62 ∷ []) 4)
    ∷ Ask 0 2048 (all_asked (0x61 ∷ []) (0x75 ∷ []))
    ∷ []

abbrev pub short : List Call
short =
    come
    ∷ Set home 5 (5 ∷ [])
    ∷ Ask 1 2048 (field_asked (0x62 ∷ []) 4)
    ∷ Ask 0 2048 (all_asked (0x61 ∷ []) (0x75 ∷ []))
    ∷ []

abbrev pub long_lines : List Line
long_lines = transcript town rights (opened town) long

abbrev pub short_lines : List Line
short_lines = transcript town others (opened town) short

abbrev pub PairAlike : Type 0
PairAlike =
    Alike 0 town town (rights 0) (others 0) long_lines short_lines
    × (map figures (own 0 long_lines) ≡ (0 ∷ 2 ∷ 140 ∷ []) ∷ [])
    × (map figures (own 0 short_lines) ≡ (0 ∷ 2 ∷ 140 ∷ []) ∷ [])
    × (map figures (own 1 long_lines) ≡ (25 ∷ []) ∷ (0 ∷ 1 ∷ 128 ∷ []) ∷ [])
    × (map figures (own 1 short_lines) ≡ (16 ∷ 0 ∷ 132 ∷ []) ∷ [])

abbrev pub ToldApart : List Line → List Line → Type 0
ToldApart ls ms = Untold 0 town town rights rights ls ms → ⊥

abbrev pub look : Call
look = Ask 0 2048 (field_asked (0x61 ∷ []) 4)

abbrev pub want : Call
want = Ask 0 2048 (events_wanted (0x61 ∷ []) (4 ∷ 5 ∷ []))

abbrev pub want_too : Call
want_too = Ask 1 2048 (events_wanted (0x62 ∷ []) (4 ∷ 5 ∷ []))

abbrev pub hide : Call
hide = Set home 4 (2 ∷ [])

abbrev pub LeaksShutOut : Type 0
LeaksShutOut =
    ToldApart (line come (Done 0) ∷ line hide (Done 0) ∷ line look (Answered 0 1 []) ∷ []) (line come (Done 0) ∷ line look (Answered 16 0 []) ∷ [])
    × ToldApart (line come (Done 0) ∷ line hide (Done 0) ∷ line look (Answered 16 0 []) ∷ []) (line come (Done 0) ∷ line look (Answered 0 0 []) ∷ [])
    × ToldApart (line come (Done 0) ∷ line want (Answered 0 0 []) ∷ line hide (Done 0) ∷ line (Take 0 2048) (Taken 0 0 []) ∷ []) (line come (Done 0) ∷ line want (Answered 0 0 []) ∷ line (Take 0 2048) (Done 24) ∷ [])
    × ToldApart (line (Take 1 2048) (Taken 1 0 []) ∷ line (Take 0 2048) (Taken 0 1 []) ∷ []) (line (Take 0 2048) (Taken 0 0 []) ∷ [])
    × ToldApart (line come (Done 0) ∷ line want_too (Answered 0 0 []) ∷ line want (Answered 17 0 []) ∷ []) (line come (Done 0) ∷ line want (Answered 0 0 []) ∷ [])

abbrev pub MiscountsShutOut : Type 0
MiscountsShutOut =
    (Balanced rights 2 (line (Tell 0) (Counts 0 0 1 0) ∷ []) → ⊥)
    × (Balanced rights 2 (line come (Done 0) ∷ line want (Answered 0 0 []) ∷ line want_too (Answered 0 0 []) ∷ line (Set home 5 (1 ∷ [])) (Done 0) ∷ line (Tell 1) (Counts 0 0 0 0) ∷ []) → ⊥)

abbrev pub LeftAlike : Type 0
LeftAlike =
    (a : ℕ) (o : Opening) (R : Book) (cs : List Call)
    → let ls = transcript o R (opened o) cs in
    Alike a o o (R a) (R a) ls (transcript o R (opened o) (left (R a) a (map outcome ls)))

abbrev pub PlacesChosen : Type 0
PlacesChosen =
    ((marks : List Bool) (i : ℕ) → free_place marks ≡ Some i → slice_index_or marks i true ≡ false)
    × ((marks : List Bool) (i : ℕ) → slice_index_or marks i true ≡ false → is_some (free_place marks) ≡ true)
