use Rattle.std.proofs.Common.{◌≡◌, ◌-◌, take, drop, ◌∙◌, arith}
use Rattle.diameter.specs.Avps.{step}
use Rattle.diameter.proofs.avp.split_avp.Goals as goal

pub returns : goal.returns
returns c =
    let r = c.in_ok-span.ensures in
    let xs = c.args.bytes.now in
    let octets : c.split_at.result.0.now ≡ take (step xs) xs = c.split_at.ensures.front ∙ (λ i. take (r.next i) xs) in
    record {
      there = r.there;
      view =
          λ i. record {
            code = r.code i;
            vendor = r.vendor i;
            flags = r.flags i;
            payload = take (r.end i - r.start i) (drop (r.start i) xs);
            octets = octets i;
          };
      rest_is = c.split_at.ensures.back ∙ (λ i. drop (r.next i) xs);
      shorter = omega (arith, r.some, r.inside, c.split_at.ensures.back_len);
    }
