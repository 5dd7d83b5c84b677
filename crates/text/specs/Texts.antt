-- What a text means.
--     said t   the bytes that it holds
use Rattle.std.specs.Prelude.{ℕ, List, take}
use Rattle.text.specs.declared.text.Text.{Text}

abbrev pub said : {N : ℕ} → Text N → List ℕ
said {N} t = take t.len t.bytes
