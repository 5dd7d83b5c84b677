-- What an address that is kept in place means.
--     kept a       the address
--     same p q     two addresses are the same
--     spelling q   the address as one row of bytes, from which both parts can be told: the key of what is kept under it
use Rattle.std.specs.Prelude.{ℕ, Bool, ◌&&◌, List, ◌∷◌, ◌++◌, length}
use Rattle.std.specs.Str.{bytes_eq}
use Rattle.text.specs.Texts.{said}
use Rattle.dictionary.specs.Addresses.{Address as Meant}
use Rattle.address.specs.declared.Address.{Address}

abbrev pub kept : Address → Meant
kept a = record { ip = a.ip; realm = said a.realm }

abbrev pub same : Meant → Meant → Bool
same p q = bytes_eq p.ip q.ip && bytes_eq p.realm q.realm

abbrev pub spelling : Meant → List ℕ
spelling q = length q.realm ∷ (q.realm ++ q.ip)
