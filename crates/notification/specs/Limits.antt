-- How long the parts of a notification may be, in bytes. Names and values have the limits that they have in answers.
--     address_limit   an IP address
--     place_limit     the realm that an address is unique in
--     session_most    the Session-Id: our host, two numbers of ten digits at most, and two semicolons
use Rattle.std.specs.Prelude.{ℕ, ◌+◌}
use Rattle.message.specs.Limits.{name_limit}

abbrev pub address_limit : ℕ
address_limit = 4

abbrev pub place_limit : ℕ
place_limit = 32

abbrev pub session_most : ℕ
session_most = name_limit + 22
