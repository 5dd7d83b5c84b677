-- The two laws, said of transcripts. Nothing of the repository's state or steps enters here.
--     Alike            two transcripts, of repositories opened alike, are alike for AF a: its two sets are the same, and the calls left for it are the same
--     Untold           of two transcripts that are alike for a, the replies to a are the same: number by number and byte by byte
--     Balanced R n ls  whenever an AF of the n on the sheet asks for its counts, they are those of its ledger, and sum up to what fell due
use Rattle.std.specs.Prelude.{◌≡◌, ℕ, ◌+◌, ◌^◌, ◌<◌, List, ◌∷◌, ◌++◌, map, length}
use Rattle.model.specs.Values.{Sets, Book, Opening, Tell, Reply, Counts, Line, outcome}
use Rattle.model.specs.Ledger.{Ledger, ledger, left, own}

pub record Alike (a : ℕ) (o p : Opening) (r q : Sets) (ls ms : List Line) : Type 0 where
  pub names : o.names ≡ p.names
  pub host : o.host ≡ p.host
  pub realm : o.realm ≡ p.realm
  pub places : o.places ≡ p.places
  pub sets : r ≡ q
  pub calls : left r a (map outcome ls) ≡ left q a (map outcome ms)

abbrev pub Untold : ℕ → Opening → Opening → Book → Book → List Line → List Line → Type 0
Untold a o p R Q ls ms = Alike a o p (R a) (Q a) ls ms → own a ls ≡ own a ms

abbrev pub waiting : Ledger → ℕ
waiting k = length k.line

abbrev pub Balanced : Book → ℕ → List Line → Type 0
Balanced R n ls =
    (a : ℕ) (pre post : List Line) (x : Reply)
    → a < n → ls ≡ pre ++ (record { call = Tell a; said = x } ∷ post) → length pre < 2 ^ 63
    → let k = ledger (R a) a (map outcome pre) in
    (x ≡ Counts k.acknowledged k.given_up k.lost (waiting k)) × (k.acknowledged + k.given_up + k.lost + waiting k ≡ k.due)
