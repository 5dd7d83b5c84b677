-- The header of a message, its first 20 bytes, and what follows it.
--     version, size, flags, command, application, hop, end   the header's fields
--     body m          the bytes after the header: the message's AVPs
--     header_of m     the fields as the code's record
use Rattle.std.specs.Prelude.{ℕ, List, drop, slice_index}
use Rattle.diameter.specs.Bytes.{be24, be32}
use Rattle.diameter.specs.declared.header.Header.{Header}

abbrev pub version : List ℕ → ℕ
version m = slice_index m 0

-- the length of the whole message, as it states it
abbrev pub size : List ℕ → ℕ
size m = be24 m 1

abbrev pub flags : List ℕ → ℕ
flags m = slice_index m 4

abbrev pub command : List ℕ → ℕ
command m = be24 m 5

abbrev pub application : List ℕ → ℕ
application m = be32 m 8

abbrev pub hop : List ℕ → ℕ
hop m = be32 m 12

abbrev pub end : List ℕ → ℕ
end m = be32 m 16

abbrev pub body : List ℕ → List ℕ
body m = drop 20 m

abbrev pub header_of : List ℕ → Header
header_of m = record { version = version m; length = size m; flags = flags m; command = command m; application = application m; hop_by_hop = hop m; end_to_end = end m }
