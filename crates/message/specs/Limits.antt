-- How long the parts of a message of ours may be, in bytes.
--     session_limit   a Session-Id
--     name_limit      a host, a realm or a name
--     value_limit     the value of a field that is no name
--     field_limit k   the value of field k
--     buffer_least    the buffer that a message is written to, at least
use Rattle.std.specs.Prelude.{ℕ, cond, ◌==◌}

abbrev pub session_limit : ℕ
session_limit = 128

abbrev pub name_limit : ℕ
name_limit = 64

abbrev pub value_limit : ℕ
value_limit = 48

abbrev pub field_limit : ℕ → ℕ
field_limit k = cond (k == 0) name_limit value_limit

abbrev pub buffer_least : ℕ
buffer_least = 2048
