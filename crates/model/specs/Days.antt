-- A day of two AFs and a household that withholds a field, call by call.
--     town             what the repository is opened with: AF 0, "a", and AF 1, "b", the emergency centre
--     rights           AF 0 may see fields 0, 1, 4 and 5, AF 1 may see all and overrides
--     home, away       two addresses; the household at `home` withholds field 4
--     request          a request of an AF: the AVPs that each has, then those given
--     field_asked, all_asked, events_wanted   a UDR for one field of `home`, one for all fields of a user, and an SNR for events at `home`
--     day              the calls
--     figures          the numbers of a reply, and the length of an answer
--     WorkedDay       what the calls of the day return
--     seventeen        seventeen changes, one after the other, of a field that AF 1 wants to know of
--     SeventeenDue    none of the notices is taken: 16 wait, and 1 is lost
use Rattle.std.specs.Prelude.{◌≡◌, ℕ, zero, suc, ◌+◌, List, [], ◌∷◌, ◌++◌, map, length}
use Rattle.dictionary.specs.Addresses.{Address}
use Rattle.writer.specs.Bytes.{bytes32}
use Rattle.writer.specs.Avps.{avp}
use Rattle.writer.specs.Headers.{message_header}
use Rattle.message.specs.Messages.{application_avp}
use Rattle.notification.specs.Notifications.{address_data}
use Rattle.model.specs.Values.{Book, Opening, Call, Arrive, Set, Clock, Ask, Take, Settle, Tell, Reply, Done, Answered, Taken, Counts, Line}
use Rattle.model.specs.Steps.{opened}
use Rattle.model.specs.Histories.{transcript}

abbrev pub town : Opening
town = record { names = (0x61 ∷ []) ∷ (0x62 ∷ []) ∷ []; host = 0x68 ∷ []; realm = 0x72 ∷ []; places = 2 }

-- of an AF that is not on the sheet nothing is said
abbrev pub rights : Book
rights zero = record { allowed = 51; overriding = 0 }
rights (suc b) = record { allowed = 1023; overriding = 1023 }

abbrev pub home : Address
home = record { ip = 10 ∷ 0 ∷ 0 ∷ 1 ∷ []; realm = 0x72 ∷ [] }

abbrev pub away : Address
away = record { ip = 10 ∷ 0 ∷ 0 ∷ 2 ∷ []; realm = 0x72 ∷ [] }

abbrev pub front : List ℕ → List ℕ
front name =
    avp 263 0x40 0 (0x73 ∷ [])
    ++ (application_avp
    ++ (avp 277 0x40 0 (bytes32 1)
    ++ (avp 264 0x40 0 (0x70 ∷ []) ++ (avp 296 0x40 0 (0x71 ∷ []) ++ (avp 283 0x40 0 (0x72 ∷ []) ++ avp 504 0xC0 10415 name)))))

abbrev pub with_header : ℕ → List ℕ → List ℕ
with_header command avps = message_header (20 + length avps) 0xC0 command 16777231 7 9 ++ avps

abbrev pub request : ℕ → List ℕ → List ℕ → List ℕ
request command name more = with_header command (front name ++ more)

abbrev pub at_home : List ℕ
at_home = avp 300 0xC0 13019 (address_data home)

abbrev pub number_avp : ℕ → ℕ → List ℕ
number_avp code n = avp code 0x80 13019 (bytes32 n)

abbrev pub field_asked : List ℕ → ℕ → List ℕ
field_asked name k = request 306 name (at_home ++ number_avp 353 k)

-- without fields named, and by the name of the user
abbrev pub all_asked : List ℕ → List ℕ → List ℕ
all_asked name user = request 306 name (avp 1 0x40 0 user)

abbrev pub event_avps : List ℕ → List ℕ
event_avps [] = []
event_avps (e ∷ later) = number_avp 354 e ++ event_avps later

abbrev pub events_wanted : List ℕ → List ℕ → List ℕ
events_wanted name events = request 308 name (avp 705 0xC0 10415 (bytes32 0) ++ (event_avps events ++ at_home))

abbrev pub morning : List Call
morning =
    Arrive home (0x75 ∷ []) 16
    ∷ Arrive home (0x76 ∷ []) 0
    ∷ Set home 4 (2 ∷ [])
    ∷ Set home 5 (5 ∷ [])
    ∷ Set away 5 (5 ∷ [])
    ∷ Set home 12 (5 ∷ [])
    ∷ Set home 1 (5 ∷ [])
    ∷ Ask 2 2048 []
    ∷ Ask 0 2047 []
    ∷ Ask 0 2048 (field_asked (0x61 ∷ []) 4)
    ∷ Ask 1 2048 (field_asked (0x62 ∷ []) 4)
    ∷ Ask 0 2048 (all_asked (0x61 ∷ []) (0x75 ∷ []))
    ∷ Ask 0 2048 (all_asked (0x61 ∷ []) (0x76 ∷ []))
    ∷ Ask 0 2048 (events_wanted (0x61 ∷ []) (4 ∷ 5 ∷ 10 ∷ []))
    ∷ Ask 1 2048 (events_wanted (0x62 ∷ []) (4 ∷ []))
    ∷ []

abbrev pub noon : List Call
noon =
    Set home 4 (7 ∷ [])
    ∷ Tell 0
    ∷ Tell 1
    ∷ Set home 5 (7 ∷ [])
    ∷ Take 0 2048
    ∷ Take 0 2048
    ∷ Settle 0 0 1
    ∷ Take 0 2048
    ∷ Settle 0 1 1
    ∷ Take 0 2048
    ∷ Settle 0 2 1
    ∷ Tell 0
    ∷ Settle 0 2 0
    ∷ Take 0 2048
    ∷ Set home 5 (8 ∷ [])
    ∷ Tell 0
    ∷ Clock 5
    ∷ []

abbrev pub day : List Call
day = morning ++ noon

abbrev pub figures : Reply → List ℕ
figures (Done n) = n ∷ []
figures (Answered n shown bytes) = n ∷ shown ∷ length bytes ∷ []
figures (Taken af serial bytes) = af ∷ serial ∷ []
figures (Counts acknowledged given_up lost waiting) = acknowledged ∷ given_up ∷ lost ∷ waiting ∷ []

-- an address in use, an address without session, a field out of range, an unsound group; an AF off the sheet, a short buffer; the withheld field is
-- hidden from AF 0 and shown to AF 1; by the user's name AF 0 sees the name and field 5, and another name fits nobody; two subscriptions
abbrev pub morning_figures : List (List ℕ)
morning_figures =
    (0 ∷ [])
    ∷ (19 ∷ [])
    ∷ (0 ∷ [])
    ∷ (0 ∷ [])
    ∷ (21 ∷ [])
    ∷ (18 ∷ [])
    ∷ (22 ∷ [])
    ∷ (1 ∷ 0 ∷ 0 ∷ [])
    ∷ (2 ∷ 0 ∷ 0 ∷ [])
    ∷ (16 ∷ 0 ∷ 132 ∷ [])
    ∷ (0 ∷ 1 ∷ 128 ∷ [])
    ∷ (0 ∷ 2 ∷ 140 ∷ [])
    ∷ (15 ∷ 0 ∷ 132 ∷ [])
    ∷ (0 ∷ 0 ∷ 112 ∷ [])
    ∷ (0 ∷ 0 ∷ 112 ∷ [])
    ∷ []

-- the change of the withheld field is due to AF 1 alone; AF 0 misses a notice three times, which is then given up with its event
abbrev pub noon_figures : List (List ℕ)
noon_figures =
    (0 ∷ [])
    ∷ (0 ∷ 0 ∷ 0 ∷ 0 ∷ [])
    ∷ (0 ∷ 0 ∷ 0 ∷ 1 ∷ [])
    ∷ (0 ∷ [])
    ∷ (0 ∷ 0 ∷ [])
    ∷ (23 ∷ [])
    ∷ (0 ∷ [])
    ∷ (0 ∷ 1 ∷ [])
    ∷ (0 ∷ [])
    ∷ (0 ∷ 2 ∷ [])
    ∷ (0 ∷ [])
    ∷ (0 ∷ 1 ∷ 0 ∷ 0 ∷ [])
    ∷ (25 ∷ [])
    ∷ (24 ∷ [])
    ∷ (0 ∷ [])
    ∷ (0 ∷ 1 ∷ 0 ∷ 0 ∷ [])
    ∷ (0 ∷ [])
    ∷ []

abbrev pub WorkedDay : Type 0
WorkedDay = map (λ (l : Line). figures l.said) (transcript town rights (opened town) day) ≡ morning_figures ++ noon_figures

abbrev pub seventeen : List Call
seventeen =
    Set home 4 (1 ∷ [])
    ∷ Set home 4 (2 ∷ [])
    ∷ Set home 4 (3 ∷ [])
    ∷ Set home 4 (4 ∷ [])
    ∷ Set home 4 (5 ∷ [])
    ∷ Set home 4 (6 ∷ [])
    ∷ Set home 4 (7 ∷ [])
    ∷ Set home 4 (8 ∷ [])
    ∷ Set home 4 (9 ∷ [])
    ∷ Set home 4 (10 ∷ [])
    ∷ Set home 4 (11 ∷ [])
    ∷ Set home 4 (12 ∷ [])
    ∷ Set home 4 (13 ∷ [])
    ∷ Set home 4 (14 ∷ [])
    ∷ Set home 4 (15 ∷ [])
    ∷ Set home 4 (16 ∷ [])
    ∷ Set home 4 (17 ∷ [])
    ∷ Tell 1
    ∷ []

abbrev pub SeventeenDue : Type 0
SeventeenDue =
    map (λ (l : Line). figures l.said) (transcript town rights (opened town) (Arrive home (0x75 ∷ []) 16 ∷ Ask 1 2048 (events_wanted (0x62 ∷ []) (4 ∷ [])) ∷ seventeen))
    ≡ (0 ∷ [])
    ∷ (0 ∷ 0 ∷ 112 ∷ [])
    ∷ (0 ∷ [])
    ∷ (0 ∷ [])
    ∷ (0 ∷ [])
    ∷ (0 ∷ [])
    ∷ (0 ∷ [])
    ∷ (0 ∷ [])
    ∷ (0 ∷ [])
    ∷ (0 ∷ [])
    ∷ (0 ∷ [])
    ∷ (0 ∷ [])
    ∷ (0 ∷ [])
    ∷ (0 ∷ [])
    ∷ (0 ∷ [])
    ∷ (0 ∷ [])
    ∷ (0 ∷ [])
    ∷ (0 ∷ [])
    ∷ (0 ∷ [])
    ∷ (0 ∷ 0 ∷ 1 ∷ 16 ∷ [])
    ∷ []
