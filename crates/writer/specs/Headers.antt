-- The header of a message as bytes.
--     message_header size flags command application hop end   version 1, the length of the whole message, its flags, and the other numbers
--     header_bytes h   the header that says what h does, but for the version
use Rattle.std.specs.Prelude.{ℕ, List, ◌∷◌, ◌++◌}
use Rattle.diameter.specs.declared.header.Header.{Header}
use Rattle.writer.specs.Bytes.{bytes24, bytes32}

abbrev pub message_header : ℕ → ℕ → ℕ → ℕ → ℕ → ℕ → List ℕ
message_header size flags command application hop end =
    1 ∷ (bytes24 size ++ (flags ∷ (bytes24 command ++ (bytes32 application ++ (bytes32 hop ++ bytes32 end)))))

abbrev pub header_bytes : Header → List ℕ
header_bytes h = message_header h.length h.flags h.command h.application h.hop_by_hop h.end_to_end
