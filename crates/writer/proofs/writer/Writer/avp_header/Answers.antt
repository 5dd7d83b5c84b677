use Rattle.std.proofs.Common.{◌≡◌, ◌+◌, Bool, true, false, cond, [], ◌∷◌, ◌++◌, sym, ap, arith}
use Rattle.std.proofs.lemmas.Bool.Decides.{nat_tests}
use Rattle.diameter.specs.Bytes.{flagged}
use Rattle.writer.specs.Bytes.{bytes24, bytes32}
use Rattle.writer.proofs.Stores.{◌⊕◌, appends_as}
use Rattle.writer.proofs.writer.Writer.avp_header.Goals as goal

pub returns-then-head-ne0 : goal.returns-then-head-ne0
returns-then-head-ne0 c =
    let t : flagged 0x80 c.args.head.flags ≡ true = grind (arith, nat_tests, c.if-head-ne0.true) in
    let v : bytes32 c.args.head.vendor ≡ cond (flagged 0x80 c.args.head.flags) (bytes32 c.args.head.vendor) [] = sym (ap (λ (b : Bool). cond b (bytes32 c.args.head.vendor) []) t) in
    record {
      wrote =
          appends_as (λ i. bytes32 c.args.head.code ++ (c.args.head.flags ∷ (bytes24 (c.head_size.ensures i + c.args.size) ++ v i)))
          (c.u32.ensures ⊕ c.byte.ensures ⊕ c.u24.ensures ⊕ c.u32-then-head-ne0.ensures);
      ends = grind (arith, nat_tests, t);
    }

pub returns-else-head-ne0 : goal.returns-else-head-ne0
returns-else-head-ne0 c =
    let t : flagged 0x80 c.args.head.flags ≡ false = grind (arith, nat_tests, c.if-head-ne0.false) in
    let v : [] ≡ cond (flagged 0x80 c.args.head.flags) (bytes32 c.args.head.vendor) [] = sym (ap (λ (b : Bool). cond b (bytes32 c.args.head.vendor) []) t) in
    record {
      wrote =
          appends_as (λ i. bytes32 c.args.head.code ++ (c.args.head.flags ∷ (bytes24 (c.head_size.ensures i + c.args.size) ++ v i)))
          (c.u32.ensures ⊕ c.byte.ensures ⊕ c.u24.ensures);
      ends = grind (arith, nat_tests, t);
    }
