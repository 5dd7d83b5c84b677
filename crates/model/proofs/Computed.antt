-- The days, computed.
use Rattle.std.proofs.Common.{◌≡◌, ℕ, zero, suc, List, [], ◌∷◌, ◌++◌, map, drop, replicate, Some, None, refl, ap, ◌∙◌}
use lib.Count.{ones}
use Rattle.diameter.specs.Lists.{cut}
use Rattle.diameter.specs.Soundness.{walk, sound}
use Rattle.fieldset.specs.Sets.{members}
use Rattle.request.specs.Faults.{with_parts, repeated}
use Rattle.request.specs.Readings.{union}
use Rattle.answer.specs.Answers.{answer_bytes}
use Rattle.model.specs.Values.{Notice, Session, Call, Arrive, Set, Ask, Line}
use Rattle.model.specs.Places.{free_place}
use Rattle.model.specs.Steps.{Af, State, new_af, opened, after, reply, due_notice}
use Rattle.model.specs.Histories.{transcript}
use Rattle.model.specs.Days.{town, rights, home, events_wanted, figures, WorkedDay, seventeen, SeventeenDue}

pub worked_day : WorkedDay
unfolding cut walk sound members with_parts repeated union answer_bytes free_place ones
worked_day = refl

-- ---- seventeen events, state by state

abbrev all_figures : State → List Call → List (List ℕ)
all_figures s cs = map (λ (l : Line). figures l.said) (transcript town rights s cs)

onward : (s t : State) (c : Call) (cs : List Call) (f : List ℕ) (fs : List (List ℕ)) → after town rights s c ≡ t → figures (reply town rights s c) ≡ f → all_figures t cs ≡ fs → all_figures s (c ∷ cs) ≡ f ∷ fs
onward s t c cs f fs e p h = λ i. p i ∷ (ap (λ u. all_figures u cs) e ∙ h) i

-- the changes to 1, 2, .. k
abbrev upto : ℕ → List Notice
upto zero = []
upto (suc k) = upto k ++ (due_notice home 4 (suc k ∷ []) ∷ [])

abbrev resident : List ℕ → Session
resident v = record { address = home; withheld = 16; fields = (0x75 ∷ []) ∷ [] ∷ [] ∷ [] ∷ v ∷ [] ∷ [] ∷ [] ∷ [] ∷ [] ∷ [] }

abbrev centre : List Notice → ℕ → Af
centre line lost =
    record {
      subs = Some (record { address = home; events = 16; end = None }) ∷ replicate 15 None;
      line = line;
      out = None;
      serial = 0;
      host = 0x70 ∷ [];
      realm = 0x71 ∷ [];
      acknowledged = 0;
      given_up = 0;
      lost = lost;
    }

abbrev crowd : List Notice → ℕ → List ℕ → State
crowd line lost v = record { now = 0; sessions = Some (resident v) ∷ None ∷ []; afs = new_af ∷ centre line lost ∷ [] }

abbrev arrived : State
arrived = record { now = 0; sessions = Some (resident []) ∷ None ∷ []; afs = new_af ∷ new_af ∷ [] }

change_1 : after town rights (crowd (upto 0) 0 []) (Set home 4 (1 ∷ [])) ≡ crowd (upto 1) 0 (1 ∷ [])
change_1 = refl

change_2 : after town rights (crowd (upto 1) 0 (1 ∷ [])) (Set home 4 (2 ∷ [])) ≡ crowd (upto 2) 0 (2 ∷ [])
change_2 = refl

change_3 : after town rights (crowd (upto 2) 0 (2 ∷ [])) (Set home 4 (3 ∷ [])) ≡ crowd (upto 3) 0 (3 ∷ [])
change_3 = refl

change_4 : after town rights (crowd (upto 3) 0 (3 ∷ [])) (Set home 4 (4 ∷ [])) ≡ crowd (upto 4) 0 (4 ∷ [])
change_4 = refl

change_5 : after town rights (crowd (upto 4) 0 (4 ∷ [])) (Set home 4 (5 ∷ [])) ≡ crowd (upto 5) 0 (5 ∷ [])
change_5 = refl

change_6 : after town rights (crowd (upto 5) 0 (5 ∷ [])) (Set home 4 (6 ∷ [])) ≡ crowd (upto 6) 0 (6 ∷ [])
change_6 = refl

change_7 : after town rights (crowd (upto 6) 0 (6 ∷ [])) (Set home 4 (7 ∷ [])) ≡ crowd (upto 7) 0 (7 ∷ [])
change_7 = refl

change_8 : after town rights (crowd (upto 7) 0 (7 ∷ [])) (Set home 4 (8 ∷ [])) ≡ crowd (upto 8) 0 (8 ∷ [])
change_8 = refl

change_9 : after town rights (crowd (upto 8) 0 (8 ∷ [])) (Set home 4 (9 ∷ [])) ≡ crowd (upto 9) 0 (9 ∷ [])
change_9 = refl

change_10 : after town rights (crowd (upto 9) 0 (9 ∷ [])) (Set home 4 (10 ∷ [])) ≡ crowd (upto 10) 0 (10 ∷ [])
change_10 = refl

change_11 : after town rights (crowd (upto 10) 0 (10 ∷ [])) (Set home 4 (11 ∷ [])) ≡ crowd (upto 11) 0 (11 ∷ [])
change_11 = refl

change_12 : after town rights (crowd (upto 11) 0 (11 ∷ [])) (Set home 4 (12 ∷ [])) ≡ crowd (upto 12) 0 (12 ∷ [])
change_12 = refl

change_13 : after town rights (crowd (upto 12) 0 (12 ∷ [])) (Set home 4 (13 ∷ [])) ≡ crowd (upto 13) 0 (13 ∷ [])
change_13 = refl

change_14 : after town rights (crowd (upto 13) 0 (13 ∷ [])) (Set home 4 (14 ∷ [])) ≡ crowd (upto 14) 0 (14 ∷ [])
change_14 = refl

change_15 : after town rights (crowd (upto 14) 0 (14 ∷ [])) (Set home 4 (15 ∷ [])) ≡ crowd (upto 15) 0 (15 ∷ [])
change_15 = refl

change_16 : after town rights (crowd (upto 15) 0 (15 ∷ [])) (Set home 4 (16 ∷ [])) ≡ crowd (upto 16) 0 (16 ∷ [])
change_16 = refl

change_17 : after town rights (crowd (upto 16) 0 (16 ∷ [])) (Set home 4 (17 ∷ [])) ≡ crowd (upto 16) 1 (17 ∷ [])
change_17 = refl

comes : after town rights (opened town) (Arrive home (0x75 ∷ []) 16) ≡ arrived
unfolding free_place
comes = refl

subscribes : after town rights arrived (Ask 1 2048 (events_wanted (0x62 ∷ []) (4 ∷ []))) ≡ crowd [] 0 []
unfolding cut walk sound members with_parts repeated union answer_bytes free_place ones
subscribes = refl

accepted : figures (reply town rights arrived (Ask 1 2048 (events_wanted (0x62 ∷ []) (4 ∷ [])))) ≡ 0 ∷ 0 ∷ 112 ∷ []
unfolding cut walk sound members with_parts repeated union answer_bytes free_place ones
accepted = refl

let_in : figures (reply town rights (opened town) (Arrive home (0x75 ∷ []) 16)) ≡ 0 ∷ []
unfolding free_place
let_in = refl

-- what is left from the change k on
abbrev rest : ℕ → List Call
rest k = drop k seventeen

left_17 : all_figures (crowd (upto 16) 1 (17 ∷ [])) (rest 17) ≡ (0 ∷ 0 ∷ 1 ∷ 16 ∷ []) ∷ []
left_17 = refl

left_16 : all_figures (crowd (upto 16) 0 (16 ∷ [])) (rest 16) ≡ (0 ∷ []) ∷ (0 ∷ 0 ∷ 1 ∷ 16 ∷ []) ∷ []
left_16 = onward (crowd (upto 16) 0 (16 ∷ [])) (crowd (upto 16) 1 (17 ∷ [])) (Set home 4 (17 ∷ [])) (rest 17) (0 ∷ []) _ change_17 refl left_17

left_15 : all_figures (crowd (upto 15) 0 (15 ∷ [])) (rest 15) ≡ (0 ∷ []) ∷ (0 ∷ []) ∷ (0 ∷ 0 ∷ 1 ∷ 16 ∷ []) ∷ []
left_15 = onward (crowd (upto 15) 0 (15 ∷ [])) (crowd (upto 16) 0 (16 ∷ [])) (Set home 4 (16 ∷ [])) (rest 16) (0 ∷ []) _ change_16 refl left_16

left_14 : all_figures (crowd (upto 14) 0 (14 ∷ [])) (rest 14) ≡ (0 ∷ []) ∷ (0 ∷ []) ∷ (0 ∷ []) ∷ (0 ∷ 0 ∷ 1 ∷ 16 ∷ []) ∷ []
left_14 = onward (crowd (upto 14) 0 (14 ∷ [])) (crowd (upto 15) 0 (15 ∷ [])) (Set home 4 (15 ∷ [])) (rest 15) (0 ∷ []) _ change_15 refl left_15

left_13 : all_figures (crowd (upto 13) 0 (13 ∷ [])) (rest 13) ≡ (0 ∷ []) ∷ (0 ∷ []) ∷ (0 ∷ []) ∷ (0 ∷ []) ∷ (0 ∷ 0 ∷ 1 ∷ 16 ∷ []) ∷ []
left_13 = onward (crowd (upto 13) 0 (13 ∷ [])) (crowd (upto 14) 0 (14 ∷ [])) (Set home 4 (14 ∷ [])) (rest 14) (0 ∷ []) _ change_14 refl left_14

left_12 : all_figures (crowd (upto 12) 0 (12 ∷ [])) (rest 12) ≡ (0 ∷ []) ∷ (0 ∷ []) ∷ (0 ∷ []) ∷ (0 ∷ []) ∷ (0 ∷ []) ∷ (0 ∷ 0 ∷ 1 ∷ 16 ∷ []) ∷ []
left_12 = onward (crowd (upto 12) 0 (12 ∷ [])) (crowd (upto 13) 0 (13 ∷ [])) (Set home 4 (13 ∷ [])) (rest 13) (0 ∷ []) _ change_13 refl left_13

left_11 : all_figures (crowd (upto 11) 0 (11 ∷ [])) (rest 11) ≡ (0 ∷ []) ∷ (0 ∷ []) ∷ (0 ∷ []) ∷ (0 ∷ []) ∷ (0 ∷ []) ∷ (0 ∷ []) ∷ (0 ∷ 0 ∷ 1 ∷ 16 ∷ []) ∷ []
left_11 = onward (crowd (upto 11) 0 (11 ∷ [])) (crowd (upto 12) 0 (12 ∷ [])) (Set home 4 (12 ∷ [])) (rest 12) (0 ∷ []) _ change_12 refl left_12

left_10 : all_figures (crowd (upto 10) 0 (10 ∷ [])) (rest 10) ≡ (0 ∷ []) ∷ (0 ∷ []) ∷ (0 ∷ []) ∷ (0 ∷ []) ∷ (0 ∷ []) ∷ (0 ∷ []) ∷ (0 ∷ []) ∷ (0 ∷ 0 ∷ 1 ∷ 16 ∷ []) ∷ []
left_10 = onward (crowd (upto 10) 0 (10 ∷ [])) (crowd (upto 11) 0 (11 ∷ [])) (Set home 4 (11 ∷ [])) (rest 11) (0 ∷ []) _ change_11 refl left_11

left_9 : all_figures (crowd (upto 9) 0 (9 ∷ [])) (rest 9) ≡ (0 ∷ []) ∷ (0 ∷ []) ∷ (0 ∷ []) ∷ (0 ∷ []) ∷ (0 ∷ []) ∷ (0 ∷ []) ∷ (0 ∷ []) ∷ (0 ∷ []) ∷ (0 ∷ 0 ∷ 1 ∷ 16 ∷ []) ∷ []
left_9 = onward (crowd (upto 9) 0 (9 ∷ [])) (crowd (upto 10) 0 (10 ∷ [])) (Set home 4 (10 ∷ [])) (rest 10) (0 ∷ []) _ change_10 refl left_10

left_8 : all_figures (crowd (upto 8) 0 (8 ∷ [])) (rest 8) ≡ (0 ∷ []) ∷ (0 ∷ []) ∷ (0 ∷ []) ∷ (0 ∷ []) ∷ (0 ∷ []) ∷ (0 ∷ []) ∷ (0 ∷ []) ∷ (0 ∷ []) ∷ (0 ∷ []) ∷ (0 ∷ 0 ∷ 1 ∷ 16 ∷ []) ∷ []
left_8 = onward (crowd (upto 8) 0 (8 ∷ [])) (crowd (upto 9) 0 (9 ∷ [])) (Set home 4 (9 ∷ [])) (rest 9) (0 ∷ []) _ change_9 refl left_9

left_7 : all_figures (crowd (upto 7) 0 (7 ∷ [])) (rest 7) ≡ (0 ∷ []) ∷ (0 ∷ []) ∷ (0 ∷ []) ∷ (0 ∷ []) ∷ (0 ∷ []) ∷ (0 ∷ []) ∷ (0 ∷ []) ∷ (0 ∷ []) ∷ (0 ∷ []) ∷ (0 ∷ []) ∷ (0 ∷ 0 ∷ 1 ∷ 16 ∷ []) ∷ []
left_7 = onward (crowd (upto 7) 0 (7 ∷ [])) (crowd (upto 8) 0 (8 ∷ [])) (Set home 4 (8 ∷ [])) (rest 8) (0 ∷ []) _ change_8 refl left_8

left_6 : all_figures (crowd (upto 6) 0 (6 ∷ [])) (rest 6) ≡ (0 ∷ []) ∷ (0 ∷ []) ∷ (0 ∷ []) ∷ (0 ∷ []) ∷ (0 ∷ []) ∷ (0 ∷ []) ∷ (0 ∷ []) ∷ (0 ∷ []) ∷ (0 ∷ []) ∷ (0 ∷ []) ∷ (0 ∷ []) ∷ (0 ∷ 0 ∷ 1 ∷ 16 ∷ []) ∷ []
left_6 = onward (crowd (upto 6) 0 (6 ∷ [])) (crowd (upto 7) 0 (7 ∷ [])) (Set home 4 (7 ∷ [])) (rest 7) (0 ∷ []) _ change_7 refl left_7

left_5 : all_figures (crowd (upto 5) 0 (5 ∷ [])) (rest 5) ≡ (0 ∷ []) ∷ (0 ∷ []) ∷ (0 ∷ []) ∷ (0 ∷ []) ∷ (0 ∷ []) ∷ (0 ∷ []) ∷ (0 ∷ []) ∷ (0 ∷ []) ∷ (0 ∷ []) ∷ (0 ∷ []) ∷ (0 ∷ []) ∷ (0 ∷ []) ∷ (0 ∷ 0 ∷ 1 ∷ 16 ∷ []) ∷ []
left_5 = onward (crowd (upto 5) 0 (5 ∷ [])) (crowd (upto 6) 0 (6 ∷ [])) (Set home 4 (6 ∷ [])) (rest 6) (0 ∷ []) _ change_6 refl left_6

left_4 : all_figures (crowd (upto 4) 0 (4 ∷ [])) (rest 4) ≡ (0 ∷ []) ∷ (0 ∷ []) ∷ (0 ∷ []) ∷ (0 ∷ []) ∷ (0 ∷ []) ∷ (0 ∷ []) ∷ (0 ∷ []) ∷ (0 ∷ []) ∷ (0 ∷ []) ∷ (0 ∷ []) ∷ (0 ∷ []) ∷ (0 ∷ []) ∷ (0 ∷ []) ∷ (0 ∷ 0 ∷ 1 ∷ 16 ∷ []) ∷ []
left_4 = onward (crowd (upto 4) 0 (4 ∷ [])) (crowd (upto 5) 0 (5 ∷ [])) (Set home 4 (5 ∷ [])) (rest 5) (0 ∷ []) _ change_5 refl left_5

left_3 : all_figures (crowd (upto 3) 0 (3 ∷ [])) (rest 3) ≡ (0 ∷ []) ∷ (0 ∷ []) ∷ (0 ∷ []) ∷ (0 ∷ []) ∷ (0 ∷ []) ∷ (0 ∷ []) ∷ (0 ∷ []) ∷ (0 ∷ []) ∷ (0 ∷ []) ∷ (0 ∷ []) ∷ (0 ∷ []) ∷ (0 ∷ []) ∷ (0 ∷ []) ∷ (0 ∷ []) ∷ (0 ∷ 0 ∷ 1 ∷ 16 ∷ []) ∷ []
left_3 = onward (crowd (upto 3) 0 (3 ∷ [])) (crowd (upto 4) 0 (4 ∷ [])) (Set home 4 (4 ∷ [])) (rest 4) (0 ∷ []) _ change_4 refl left_4

left_2 : all_figures (crowd (upto 2) 0 (2 ∷ [])) (rest 2) ≡ (0 ∷ []) ∷ (0 ∷ []) ∷ (0 ∷ []) ∷ (0 ∷ []) ∷ (0 ∷ []) ∷ (0 ∷ []) ∷ (0 ∷ []) ∷ (0 ∷ []) ∷ (0 ∷ []) ∷ (0 ∷ []) ∷ (0 ∷ []) ∷ (0 ∷ []) ∷ (0 ∷ []) ∷ (0 ∷ []) ∷ (0 ∷ []) ∷ (0 ∷ 0 ∷ 1 ∷ 16 ∷ []) ∷ []
left_2 = onward (crowd (upto 2) 0 (2 ∷ [])) (crowd (upto 3) 0 (3 ∷ [])) (Set home 4 (3 ∷ [])) (rest 3) (0 ∷ []) _ change_3 refl left_3

left_1 : all_figures (crowd (upto 1) 0 (1 ∷ [])) (rest 1) ≡ (0 ∷ []) ∷ (0 ∷ []) ∷ (0 ∷ []) ∷ (0 ∷ []) ∷ (0 ∷ []) ∷ (0 ∷ []) ∷ (0 ∷ []) ∷ (0 ∷ []) ∷ (0 ∷ []) ∷ (0 ∷ []) ∷ (0 ∷ []) ∷ (0 ∷ []) ∷ (0 ∷ []) ∷ (0 ∷ []) ∷ (0 ∷ []) ∷ (0 ∷ []) ∷ (0 ∷ 0 ∷ 1 ∷ 16 ∷ []) ∷ []
left_1 = onward (crowd (upto 1) 0 (1 ∷ [])) (crowd (upto 2) 0 (2 ∷ [])) (Set home 4 (2 ∷ [])) (rest 2) (0 ∷ []) _ change_2 refl left_2

left_0 : all_figures (crowd (upto 0) 0 []) (rest 0) ≡ (0 ∷ []) ∷ (0 ∷ []) ∷ (0 ∷ []) ∷ (0 ∷ []) ∷ (0 ∷ []) ∷ (0 ∷ []) ∷ (0 ∷ []) ∷ (0 ∷ []) ∷ (0 ∷ []) ∷ (0 ∷ []) ∷ (0 ∷ []) ∷ (0 ∷ []) ∷ (0 ∷ []) ∷ (0 ∷ []) ∷ (0 ∷ []) ∷ (0 ∷ []) ∷ (0 ∷ []) ∷ (0 ∷ 0 ∷ 1 ∷ 16 ∷ []) ∷ []
left_0 = onward (crowd (upto 0) 0 []) (crowd (upto 1) 0 (1 ∷ [])) (Set home 4 (1 ∷ [])) (rest 1) (0 ∷ []) _ change_1 refl left_1

pub seventeen_due : SeventeenDue
seventeen_due =
    onward (opened town) arrived (Arrive home (0x75 ∷ []) 16) (Ask 1 2048 (events_wanted (0x62 ∷ []) (4 ∷ [])) ∷ seventeen) (0 ∷ []) _ comes let_in
    (onward arrived (crowd [] 0 []) (Ask 1 2048 (events_wanted (0x62 ∷ []) (4 ∷ []))) seventeen (0 ∷ 0 ∷ 112 ∷ []) _ subscribes accepted left_0)
