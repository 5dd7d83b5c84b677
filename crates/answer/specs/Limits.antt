-- How long the parts of an answer may be, in bytes.
--     request_limit   a request
--     copy_limit      an AVP of a request: it stands behind the request's header
use Rattle.std.specs.Prelude.{ℕ, ◌-◌}

abbrev pub request_limit : ℕ
request_limit = 1024

abbrev pub copy_limit : ℕ
copy_limit = request_limit - 20
