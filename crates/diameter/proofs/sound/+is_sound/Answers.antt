use Rattle.std.proofs.Common.{◌<◌, eqb, length, ap, ◌∙◌, arith}
use Rattle.std.proofs.lemmas.Bool.Decides.{nat_tests}
use Rattle.diameter.specs.Avps.{group}
use Rattle.diameter.specs.declared.avp.AvpName.{AvpName}
use Rattle.diameter.proofs.Walks.{sound_stop}
use Rattle.diameter.proofs.Turns.{split_plain, split_deep, split_group}
use Rattle.diameter.proofs.sound.+is_sound.Goals as goal
use Rattle.diameter.proofs.sound.+is_sound.Goals.{else-is_group-via-then-is_group+else-not-is_sound, then-levels-eq0, else-levels-eq0, else-is_group-via-else-is_group}

pub returns-then-not-is_sound : goal.returns-then-not-is_sound
returns-then-not-is_sound t c =
    let s = c.in-Some.ensures.steps in
    let g = c.if-is_group.ensures ∙ ap (λ (n : AvpName). group n.code n.vendor) c.name.ensures in
    elim c.if-levels-eq0.branch [
      | then-levels-eq0 w ↦ split_deep s _ g w.if-levels-eq0.true ∙ c.loop-avp.invariant
      | else-levels-eq0 w ↦
          (let some : 0 < c.args.levels = omega (arith, w.if-levels-eq0.false) in
          let e = split_group s _ w.is_sound.result g some w.is_sound.ensures in
          grind (arith, nat_tests))
    ]

pub loop-avp-preserved : goal.loop-avp-preserved
loop-avp-preserved t c =
    let s = c.in-Some.ensures.steps in
    let named = ap (λ (n : AvpName). group n.code n.vendor) c.name.ensures in
    elim c.else-is_group.branch [
      | else-is_group-via-then-is_group+else-not-is_sound w ↦
          elim w.if-levels-eq0.branch [
            | then-levels-eq0 u ↦ grind (arith, nat_tests)
            | else-levels-eq0 u ↦
                (let some : 0 < c.args.levels = omega (arith, u.if-levels-eq0.false) in
                let e = split_group s _ u.is_sound.result (w.if-is_group.ensures ∙ named) some u.is_sound.ensures in
                grind (arith, nat_tests))
          ]
      | else-is_group-via-else-is_group w ↦ split_plain s _ (w.if-is_group.ensures ∙ named) ∙ c.loop-avp.invariant
    ]

pub returns : goal.returns
returns t c =
    let stop = c.in_default.ensures.steps in
    c.is_empty.ensures
    ∙ ap (λ l. eqb (length l) 0) (c.rest.ensures ∙ stop.1)
    ∙ sound_stop _ c.loop-avp.avps.rest.now stop.0
    ∙ c.loop-avp.invariant
