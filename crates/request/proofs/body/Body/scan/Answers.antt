use Rattle.std.proofs.Common.{◌≡◌, ◌||◌, Some, None, refl, sym, ap, ◌∙◌, rules}
use Rattle.std.specs.Option.{option_or}
use Rattle.diameter.specs.Lists.{avps}
use Rattle.diameter.specs.Views.{avp_of, found}
use Rattle.diameter.specs.declared.avp.AvpName.{AvpName}
use Rattle.diameter.proofs.Turns.{split_more, avps_stop}
use Rattle.dictionary.specs.Names.{known}
use Rattle.request.specs.Faults.{stranger, repeated, misfit, there}
use Rattle.request.specs.Scans.{marked}
use Rattle.request.proofs.Taken.{or_none, none_marked, stranger_step, stranger_hit, stranger_none, repeat_step, repeat_none, misfit_step, seen_step, or_false}
use Rattle.request.proofs.body.Body.scan.Goals as goal

pub returns-in-Some-stranger_in : goal.returns-in-Some-stranger_in
returns-in-Some-stranger_in c =
    let a = avp_of c.in-Some.avp in
    let later = avps c.next.new.self.rest.now in
    let named = c.named-known.ensures ∙ ap (λ (n : AvpName). known n.code n.vendor) c.name.ensures in
    stranger_hit a later c.named-known.result named (avp_of c.in-Some-stranger_in.stranger) (sym c.in-Some-stranger_in.ensures)
    ∙ ap stranger (sym (split_more c.in-Some.ensures.steps))
    ∙ c.loop-avp.invariant.2
    ∙ ap (λ xs. stranger (avps xs)) (search rules)

pub loop-avp-preserved-in-Some-known : goal.loop-avp-preserved-in-Some-known
loop-avp-preserved-in-Some-known c =
    let a = avp_of c.in-Some.avp in
    let later = avps c.next.new.self.rest.now in
    let o = Some c.in-Some-known.known in
    let named = c.in-Some-known.ensures ∙ ap (λ (n : AvpName). known n.code n.vendor) c.name.ensures in
    let split = sym (split_more c.in-Some.ensures.steps) in
    let s = c.loop-avp.scan in
    let n = c.note.new.self in (
      tt,
      tt,
      stranger_step a later o named (search rules) ∙ ap stranger split ∙ c.loop-avp.invariant.2,
      ap (λ x. option_or x (repeated (marked n.seen) later)) c.note.ensures.repeat
          ∙ repeat_step a later o named (found s.repeat) s.seen n.seen c.note.ensures.seen
          ∙ ap (λ l. option_or (found s.repeat) (repeated (marked s.seen) l)) split
          ∙ c.loop-avp.invariant.3,
      ap (λ x. option_or x (misfit c.args.after later)) c.note.ensures.misfit
          ∙ misfit_step a later o named c.args.after (found s.misfit)
          ∙ ap (λ l. option_or (found s.misfit) (misfit c.args.after l)) split
          ∙ c.loop-avp.invariant.4,
      λ k. seen_step a later o named s.seen n.seen c.note.ensures.seen k
          ∙ ap (λ l. marked s.seen k || there k l) split
          ∙ c.loop-avp.invariant.5 k,
    )

pub loop-avp-preserved : goal.loop-avp-preserved
loop-avp-preserved c =
    let a = avp_of c.in-Some.avp in
    let later = avps c.next.new.self.rest.now in
    let named = c.in_default-known.ensures ∙ ap (λ (n : AvpName). known n.code n.vendor) c.name.ensures in
    let split = sym (split_more c.in-Some.ensures.steps) in
    let s = c.loop-avp.scan in (
      tt,
      tt,
      stranger_step a later c.named-known.result (c.named-known.ensures ∙ ap (λ (n : AvpName). known n.code n.vendor) c.name.ensures) (sym c.in_default.ensures) ∙ ap stranger split ∙ c.loop-avp.invariant.2,
      ap (λ x. option_or x (repeated (marked s.seen) later)) (or_none (found s.repeat))
          ∙ repeat_step a later None named (found s.repeat) s.seen s.seen (λ k. refl)
          ∙ ap (λ l. option_or (found s.repeat) (repeated (marked s.seen) l)) split
          ∙ c.loop-avp.invariant.3,
      ap (λ x. option_or x (misfit c.args.after later)) (or_none (found s.misfit))
          ∙ misfit_step a later None named c.args.after (found s.misfit)
          ∙ ap (λ l. option_or (found s.misfit) (misfit c.args.after l)) split
          ∙ c.loop-avp.invariant.4,
      λ k. seen_step a later None named s.seen s.seen (λ j. refl) k
          ∙ ap (λ l. marked s.seen k || there k l) split
          ∙ c.loop-avp.invariant.5 k,
    )

pub returns : goal.returns
returns c =
    let s = c.loop-avp.scan in
    let after = c.args.after in
    let stop = sym (avps_stop c.loop-avp.avp-iterator.rest.now c.in-None.ensures.steps.0) in
    let whole : c.into_iter-avp-iterator.result.rest.now ≡ c.args.self.bytes.now = search rules in
    record {
      stranger = stranger_none ∙ ap stranger stop ∙ c.loop-avp.invariant.2 ∙ ap (λ xs. stranger (avps xs)) whole;
      repeat =
          or_none (found s.repeat)
          ∙ ap (option_or (found s.repeat)) (repeat_none (marked s.seen))
          ∙ ap (λ l. option_or (found s.repeat) (repeated (marked s.seen) l)) stop
          ∙ c.loop-avp.invariant.3
          ∙ (λ i. repeated (λ k. none_marked k i) (avps (whole i)));
      misfit =
          or_none (found s.misfit)
          ∙ ap (λ l. option_or (found s.misfit) (misfit after l)) stop
          ∙ c.loop-avp.invariant.4
          ∙ ap (λ xs. misfit after (avps xs)) whole;
      seen =
          λ k. or_false (marked s.seen k)
          ∙ ap (λ l. marked s.seen k || there k l) stop
          ∙ c.loop-avp.invariant.5 k
          ∙ (λ i. none_marked k i || there k (avps (whole i)));
    }
