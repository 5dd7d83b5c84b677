use Rattle.std.proofs.Common.{◌≡◌, ℕ, ◌+◌, ◌<◌, ◌≤◌, List, [], ◌++◌, length, get_or, take, drop, Some, None, vec_items, Option, sym, ap, ◌∙◌, subst, append-nil, arith}
use Rattle.hexadecimal.specs.Spelling.{Spelled, spelled, after, completed, waiting, ended}
use Rattle.hexadecimal.proofs.Turns.{ended_some, ended_none, Small, begins_still, digit_read, digit_small, spelled_blank, spelled_fault, spelled_end}
use Rattle.hexadecimal.proofs.decode.Goals as goal
use Rattle.hexadecimal.proofs.decode.Goals.{in-None, in-Some-high+in_ok-push-in-Some-high}

pub loop-i-preserved-then-is_blank : goal.loop-i-preserved-then-is_blank
loop-i-preserved-then-is_blank c = (
  sym (ap (after (vec_items c.loop-i.out)) (spelled_blank c.args.text.now c.loop-i.high c.loop-i.i (omega arith) c.if-is_blank.ensures)) ∙ c.loop-i.invariant.0,
  c.loop-i.invariant.1,
  c.loop-i.invariant.2,
)

pub returns-in_default : goal.returns-in_default
returns-in_default c =
    let e : after (vec_items c.loop-i.out) (record { bytes = []; fault = Some (c.loop-i.i + 1) }) ≡ after (vec_items c.args.out.now) (spelled 1 None c.args.text.now) =
    sym (ap (after (vec_items c.loop-i.out)) (spelled_fault c.args.text.now c.loop-i.high c.loop-i.i (omega arith) c.if-is_blank.ensures c.in_default.ensures)) ∙ c.loop-i.invariant.0 in
    (sym (append-nil _) ∙ ap (λ (s : Spelled). s.bytes) e, sym (ap (λ (s : Spelled). s.fault) e))

pub loop-i-preserved : goal.loop-i-preserved
loop-i-preserved c =
    let text = c.args.text.now in
    let old = vec_items c.args.out.now in
    let items = vec_items c.loop-i.out in
    let d = c.in-Some.digit in
    let turn = digit_read text c.loop-i.high c.loop-i.i (omega arith) c.if-is_blank.ensures d c.in-Some.ensures items in
    let small : d < 16 = digit_small (get_or text c.loop-i.i 0) d c.in-Some.ensures in
    elim c.match-high.branch [
      | in-None w ↦
          (let more : vec_items c.match-high.out ≡ items ++ completed c.loop-i.high d =
          ap vec_items w.out-is ∙ sym (append-nil items) ∙ ap (λ (o : Option ℕ). items ++ completed o d) (sym w.in-None.is) in (
            turn _ _ more (w.high-is ∙ ap (λ (o : Option ℕ). waiting o d) (sym w.in-None.is)) ∙ c.loop-i.invariant.0,
            ap (take (length old)) more ∙ begins_still old items _ c.loop-i.invariant.1,
            subst Small (sym w.high-is) small,
          ))
      | in-Some-high+in_ok-push-in-Some-high w ↦
          (let more : vec_items c.match-high.out ≡ items ++ completed c.loop-i.high d =
          ap vec_items w.out-is
          ∙ w.in_ok-push-in-Some-high.ensures.items
          ∙ ap (λ (o : Option ℕ). items ++ completed o d) (sym w.in-Some-high.is) in (
            turn _ _ more (w.high-is ∙ ap (λ (o : Option ℕ). waiting o d) (sym w.in-Some-high.is)) ∙ c.loop-i.invariant.0,
            ap (take (length old)) more ∙ begins_still old items _ c.loop-i.invariant.1,
            subst Small (sym w.high-is) tt,
          ))
    ]

-- the text is at its end
module _ (text old items : List ℕ) (high : Option ℕ) (i : ℕ) (e : length text ≤ i) (inv : after items (spelled (i + 1) high (drop i text)) ≡ after old (spelled 1 None text)) where
  at_end : (items ≡ old ++ (spelled 1 None text).bytes) × ((spelled 1 None text).fault ≡ ended (i + 1) high)
  at_end =
      let p : after items (record { bytes = []; fault = ended (i + 1) high }) ≡ after old (spelled 1 None text) = sym (ap (after items) (spelled_end text high i e)) ∙ inv in
      (sym (append-nil items) ∙ ap (λ (s : Spelled). s.bytes) p, sym (ap (λ (s : Spelled). s.fault) p))

pub returns : goal.returns
returns c =
    let p = at_end c.args.text.now (vec_items c.args.out.now) (vec_items c.loop-i.out) c.loop-i.high c.loop-i.i (omega arith) c.loop-i.invariant.0 in
    (p.0, p.1 ∙ ended_none (c.loop-i.i + 1) c.loop-i.high (sym c.is_some.ensures ∙ c.if-is_some.false))

pub returns-then-is_some : goal.returns-then-is_some
returns-then-is_some c =
    let p = at_end c.args.text.now (vec_items c.args.out.now) (vec_items c.loop-i.out) c.loop-i.high c.loop-i.i (omega arith) c.loop-i.invariant.0 in
    let k : c.loop-i.i ≡ length c.args.text.now = omega arith in
    (p.0, p.1 ∙ ended_some (c.loop-i.i + 1) c.loop-i.high (sym c.is_some.ensures ∙ c.if-is_some.true) ∙ ap (λ (n : ℕ). Some (n + 1)) k)
