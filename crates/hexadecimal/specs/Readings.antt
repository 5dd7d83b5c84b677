-- What reading a text answers and leaves.
--     Decodes text before after r   the bytes that the text spells are appended, and r says where it goes wrong, if anywhere; where
--                                   there is no memory for all of them, what was there before stays and r says so
use Rattle.std.specs.Prelude.{◌≡◌, ℕ, List, ◌++◌, length, take, Some, None, Ok, Err, Result}
use Rattle.hexadecimal.specs.declared.DecodeError.{DecodeError}
use Rattle.hexadecimal.specs.declared.DecodeError.TheVariants.{NotHex, NoMemory}
use Rattle.hexadecimal.specs.Spelling.{spelled}

abbrev pub Decodes : List ℕ → List ℕ → List ℕ → Result (Unit {0}) DecodeError → Type 0
Decodes text before after (Ok _) = (after ≡ before ++ (spelled 1 None text).bytes) × ((spelled 1 None text).fault ≡ None)
Decodes text before after (Err (NotHex k)) = (after ≡ before ++ (spelled 1 None text).bytes) × ((spelled 1 None text).fault ≡ Some k)
Decodes text before after (Err NoMemory) = take (length before) after ≡ before
