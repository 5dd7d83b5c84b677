-- The records of AFs: each moves by its own calls, and its counts never fall.
use Rattle.std.proofs.Common.{ℕ, ◌≤◌, Bool, true, false, cond, ◌&&◌, eqb, ltb, List, [], ◌∷◌, length, Ok, Err, Option, Result, refl, ap, arith}
use Rattle.std.proofs.lemmas.Bool.Decides.{nat_tests}
use Rattle.request.specs.Askings.{Asking, Rejected}
use Rattle.model.specs.Values.{Session, Notice, Arrive, Set, Leave, Clock, Ask, Take, Settle, Tell, holds, some, entries}
use Rattle.model.specs.Steps.{Af, raised, notified, due_notice, logoff, line_most, af_asked, is_subscription, ask_verdict, handed, settled, hopeless, accepts, set_refusals, leave_refusals, take_refusals, settle_refusals, change_due}
use Rattle.model.specs.Laws.{Risen, RecordsApart, CountsRise}

pub records_apart : RecordsApart
records_apart o r b now ps x a h room serial n m = (
  ap (λ (t : Bool). cond t (af_asked ps (ask_verdict o r b now ps x room m) x) x) h,
  ap (λ (t : Bool). cond (t && accepts (take_refusals o b room x)) (handed x) x) h,
  ap (λ (t : Bool). cond (t && accepts (settle_refusals o b serial x)) (settled n x.line x) x) h,
  refl,
)

still : (x : Af) → Risen x x
still x = record { acknowledged = omega arith; given_up = omega arith; lost = omega arith }

-- one of two records, each with counts that have not fallen
either : (b : Bool) (x y z : Af) → Risen x y → Risen x z → Risen x (cond b y z)
either true x y z p q = p
either false x y z p q = q

raised_up : (n : ℕ) → n ≤ raised n
raised_up n = grind (arith, nat_tests)

lost_up : (b : Bool) (n : ℕ) → n ≤ cond b n (raised n)
lost_up true n = omega arith
lost_up false n = raised_up n

notified_up : (n : Notice) (x : Af) → Risen x (notified n x)
notified_up n x = record { acknowledged = omega arith; given_up = omega arith; lost = lost_up (ltb (length x.line) line_most) x.lost }

asked_up : (ps : List (Option Session)) (v : Result Asking Rejected) (x : Af) → Risen x (af_asked ps v x)
asked_up ps (Err e) x = still x
asked_up ps (Ok q) x = either (is_subscription q.asked) x _ x (record { acknowledged = omega arith; given_up = omega arith; lost = omega arith }) (still x)

settled_up : (n : ℕ) (l : List Notice) (x : Af) → Risen x (settled n l x)
settled_up n [] x = record { acknowledged = omega arith; given_up = omega arith; lost = omega arith }
settled_up n (e ∷ later) x =
    either (eqb n 0) x _ _
    (record { acknowledged = raised_up x.acknowledged; given_up = omega arith; lost = omega arith })
    (either (hopeless e) x _ _
    (record { acknowledged = omega arith; given_up = raised_up x.given_up; lost = omega arith })
    (record { acknowledged = omega arith; given_up = omega arith; lost = omega arith }))

pub counts_rise : CountsRise
counts_rise o r b now ps (Arrive q name withheld) x = still x
counts_rise o r b now ps (Set q k v) x =
    either (accepts (set_refusals q k v ps) && change_due r ps q k v x) x _ x (notified_up (due_notice q k v) x) (still x)
counts_rise o r b now ps (Leave q) x =
    let w = either (some (holds q logoff) (entries x.subs)) x (notified (due_notice q logoff []) x) x (notified_up (due_notice q logoff []) x) (still x) in
    either (accepts (leave_refusals q ps)) x _ x (record { acknowledged = w.acknowledged; given_up = w.given_up; lost = w.lost }) (still x)
counts_rise o r b now ps (Clock n) x = record { acknowledged = omega arith; given_up = omega arith; lost = omega arith }
counts_rise o r b now ps (Ask a room m) x = either (eqb a b) x _ x (asked_up ps (ask_verdict o r b now ps x room m) x) (still x)
counts_rise o r b now ps (Take a room) x =
    either (eqb a b && accepts (take_refusals o b room x)) x _ x (record { acknowledged = omega arith; given_up = omega arith; lost = omega arith }) (still x)
counts_rise o r b now ps (Settle a serial n) x =
    either (eqb a b && accepts (settle_refusals o b serial x)) x _ x (settled_up n x.line x) (still x)
counts_rise o r b now ps (Tell a) x = still x
