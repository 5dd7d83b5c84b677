use Rattle.std.proofs.Common.{◌≤◌, length, decimal, ap, arith}
use Rattle.std.proofs.lemmas.Fmt.{length-decimal-le}
use Rattle.writer.proofs.tests.vendor_digits_and_padding.Goals as goal

pub decimal-requires : goal.decimal-requires
decimal-requires g c =
    let digits : length (decimal 70105) ≤ 10 = length-decimal-le 10 70105 (omega arith) (omega arith) (omega arith) in
    let buffer = ap length c.new-w.ensures.holds in
    omega (arith, c.new-w.ensures.start)
