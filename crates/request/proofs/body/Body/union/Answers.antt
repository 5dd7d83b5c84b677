use Rattle.std.proofs.Common.{sym, ap, ◌∙◌, rules}
use lib.Bits.{bit_or}
use Rattle.diameter.specs.Lists.{avps}
use Rattle.diameter.specs.Views.{avp_of}
use Rattle.diameter.proofs.Turns.{split_more, avps_stop}
use Rattle.request.specs.Readings.{union}
use Rattle.request.proofs.Unions.{union_more, union_all}
use Rattle.request.proofs.body.Body.union.Goals as goal

pub loop-avp-preserved : goal.loop-avp-preserved
loop-avp-preserved g c = (
  tt,
  tt,
  λ m h.
      let carrier = c.args.carrier in
      let bits = c.loop-avp.set.bits in
      let later = avps c.next.new.self.rest.now in
      ap (λ n. union carrier m n later) (c.union-set.ensures.is ∙ ap (bit_or bits) (c.member_of.ensures m h))
      ∙ sym (union_more carrier m bits (avp_of c.in-Some.avp) later)
      ∙ sym (ap (union carrier m bits) (split_more c.in-Some.ensures.steps))
      ∙ c.loop-avp.invariant.2 m h,
)

pub returns : goal.returns
returns g c =
    λ m h. sym (union_all c.args.carrier m c.loop-avp.set.bits)
    ∙ ap (union c.args.carrier m c.loop-avp.set.bits) (sym (avps_stop c.loop-avp.avp-iterator.rest.now c.in-None.ensures.steps.0))
    ∙ c.loop-avp.invariant.2 m h
    ∙ ap (λ xs. union c.args.carrier m 0 (avps xs)) (search rules)
