-- The tables of the dictionary agree with each other.
use Rattle.std.specs.Prelude.{◌≡◌, Some}
use Rattle.dictionary.specs.Names.{known, code, vendor}
use Rattle.dictionary.specs.declared.known.Known.{Known}

-- each known AVP is found under the code and the vendor that we write for it
abbrev pub NamesAgree : Type 0
NamesAgree = (k : Known) → known (code k) (vendor k) ≡ Some k
