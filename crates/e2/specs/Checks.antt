-- Which messages are read as requests: refusals 3 to 8, each condition by itself, and the order in which they are tried.
--     mis_sized m           the length is none that a request has, or not the one that the header states
--     other_kind m          not a request
--     other_version m       a version of the protocol that we do not speak
--     other_application m   an application that we are not
--     other_command m       a command that we do not answer
--     unsound_avps m        the AVPs are not sound at the levels of a request
--     command_coded c       the command of the code c, where it is one that we answer
--     command_of m          which of the two commands it is
--     checked m             the command of m, or the first refusal that applies
use Rattle.std.specs.Prelude.{ℕ, ◌%◌, Bool, cond, not, ◌&&◌, ◌||◌, List, [], ◌∷◌, length, Ok, Err, Result, ◌==◌, nat_le}
use Rattle.refusal.specs.declared.Refusal.{Refusal}
use Rattle.refusal.specs.declared.Refusal.TheVariants.{WrongSize, NotRequest, WrongVersion, WrongApplication, WrongCommand, Unsound}
use Rattle.refusal.specs.Verdicts.{judged}
use Rattle.diameter.specs.Bytes.{flagged}
use Rattle.diameter.specs.Headers.{version, size, flags, command, application, body}
use Rattle.diameter.specs.Soundness.{sound}
use Rattle.e2.specs.declared.Command.{Command}
use Rattle.e2.specs.declared.Command.TheVariants.{UserData, SubscribeNotifications}

-- from 20 to 1,024 bytes, in words of four
abbrev pub mis_sized : List ℕ → Bool
mis_sized m = not (nat_le 20 (length m) && (nat_le (length m) 1024 && (length m % 4 == 0 && length m == size m)))

abbrev pub other_kind : List ℕ → Bool
other_kind m = not (flagged 0x80 (flags m))

abbrev pub other_version : List ℕ → Bool
other_version m = not (version m == 1)

abbrev pub other_application : List ℕ → Bool
other_application m = not (application m == 16777231)

abbrev pub other_command : List ℕ → Bool
other_command m = not (command m == 306 || command m == 308)

-- groups may stand at levels 1 to 3
abbrev pub unsound_avps : List ℕ → Bool
unsound_avps m = not (sound 3 (body m))

abbrev pub command_coded : ℕ → Result Command Refusal
command_coded c = cond (c == 306) (Ok UserData) (cond (c == 308) (Ok SubscribeNotifications) (Err WrongCommand))

abbrev pub command_of : List ℕ → Command
command_of m = cond (command m == 306) UserData SubscribeNotifications

abbrev pub refusals : List ℕ → List (Refusal × Bool)
refusals m =
    (WrongSize, mis_sized m)
    ∷ (NotRequest, other_kind m)
    ∷ (WrongVersion, other_version m)
    ∷ (WrongApplication, other_application m)
    ∷ (WrongCommand, other_command m)
    ∷ (Unsound, unsound_avps m)
    ∷ []

abbrev pub checked : List ℕ → Result Command Refusal
checked m = judged (refusals m) (command_of m)
