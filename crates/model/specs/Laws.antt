-- Laws of single calls.
--     RefusedKeeps     a call that is refused leaves everything as it was
--     NothingIsWaiting   take is refused with 24 exactly when the AF is on the sheet, the buffer is large enough, nothing is out and nothing waits
--     RecordsApart     an ask, take, settle or tell of one AF leaves the record of another as it was, its serial too
--     CountsRise       acknowledged, given up and lost never fall
--     ShownExactly     the set of fields that an ask shows holds exactly those that are requested, in the view and stored
use Rattle.std.specs.Prelude.{◌≡◌, ℕ, ◌<◌, ◌≤◌, true, false, ◌&&◌, List, is_some, Option, ◌==◌}
use Rattle.fieldset.specs.Sets.{has}
use Rattle.model.specs.Values.{Sets, Book, Session, Opening, Call, Ask, Take, Settle, Tell, refused, in_view}
use Rattle.model.specs.Steps.{Af, State, number_of, off_sheet, short_buffer, is_empty, take_refusals, requested, is_stored, shown, af_after, after, reply}

abbrev pub RefusedKeeps : Type 0
RefusedKeeps = (o : Opening) (R : Book) (s : State) (c : Call) → refused (reply o R s c) ≡ true → after o R s c ≡ s

abbrev pub ReadyButEmpty : Opening → ℕ → ℕ → Af → Type 0
ReadyButEmpty o a room x = (off_sheet o a ≡ false) × (short_buffer room ≡ false) × (is_some x.out ≡ false) × (is_empty x.line ≡ true)

abbrev pub NothingIsWaiting : Type 0
NothingIsWaiting =
    (o : Opening) (a room : ℕ) (x : Af)
    → (number_of (take_refusals o a room x) ≡ 24 → ReadyButEmpty o a room x) × (ReadyButEmpty o a room x → number_of (take_refusals o a room x) ≡ 24)

abbrev pub ShownExactly : Type 0
ShownExactly =
    (r : Sets) (named : Option ℕ) (s : Session) (k : ℕ)
    → (k < 10 → has (shown r named s) k ≡ (has (requested named) k && (in_view r s k && is_stored s k))) × (10 ≤ k → has (shown r named s) k ≡ false)

abbrev pub RecordsApart : Type 0
RecordsApart =
    (o : Opening) (r : Sets) (b now : ℕ) (ps : List (Option Session)) (x : Af) (a : ℕ) → (a == b) ≡ false
    → (room serial n : ℕ) (m : List ℕ)
    → (af_after o r b now ps (Ask a room m) x ≡ x)
    × (af_after o r b now ps (Take a room) x ≡ x)
    × (af_after o r b now ps (Settle a serial n) x ≡ x)
    × (af_after o r b now ps (Tell a) x ≡ x)

pub record Risen (x y : Af) : Type 0 where
  pub acknowledged : x.acknowledged ≤ y.acknowledged
  pub given_up : x.given_up ≤ y.given_up
  pub lost : x.lost ≤ y.lost

abbrev pub CountsRise : Type 0
CountsRise = (o : Opening) (r : Sets) (b now : ℕ) (ps : List (Option Session)) (c : Call) (x : Af) → Risen x (af_after o r b now ps c x)
