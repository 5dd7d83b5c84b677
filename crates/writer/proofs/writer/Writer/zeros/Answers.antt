use Rattle.std.proofs.Common.{◌≡◌, ℕ, refl, arith, rules}
use lib.ListN.{length-replicate}
use Rattle.writer.specs.Bytes.{zeros}
use Rattle.writer.proofs.Stores.{wrote_part}
use Rattle.writer.proofs.writer.Writer.zeros.Goals as goal

pub returns : goal.returns
returns c =
    let e : c.fill.new.self ≡ zeros c.args.count = search (rules, c.fill.ensures.after) in
    let l = length-replicate {A = ℕ} c.args.count 0 in
    record { wrote = record { wrote = wrote_part _ _ _ _ _ e (omega arith) (omega arith); same = refl }; ends = refl }
