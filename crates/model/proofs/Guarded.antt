-- The laws are not empty.
use Rattle.std.proofs.Common.{◌≡◌, ℕ, zero, suc, ◌+◌, ◌*◌, Bool, true, false, eqb, List, [], ◌∷◌, get_or, is_some, Some, None, Option, sym, refl, ap, ◌∙◌, subst, arith}
use lib.Count.{ones}
use Rattle.std.specs.Option.{option_map}
use Rattle.std.proofs.lemmas.Bool.{false≢true, true≢false}
use Rattle.diameter.specs.Lists.{cut}
use Rattle.diameter.specs.Soundness.{walk, sound}
use Rattle.fieldset.specs.Sets.{members}
use Rattle.request.specs.Faults.{with_parts, repeated}
use Rattle.request.specs.Readings.{union}
use Rattle.answer.specs.Answers.{answer_bytes}
use Rattle.model.specs.Values.{Reply, Done, Answered, Taken, Counts}
use Rattle.model.specs.Places.{free_place}
use Rattle.model.specs.Guards.{PairAlike, LeaksShutOut, MiscountsShutOut, PlacesChosen}
use Rattle.model.proofs.Agrees.{Chosen, chosen}

pub pair_alike : PairAlike
unfolding cut walk sound members with_parts repeated union answer_bytes free_place ones
pair_alike = (record { names = refl; host = refl; realm = refl; places = refl; sets = refl; calls = refl }, refl, refl, refl, refl)

-- a number that tells the replies here apart
abbrev weight : Reply → ℕ
weight (Done n) = n
weight (Answered n shown bytes) = n + 100 * shown
weight (Taken af serial bytes) = 1000 + serial
weight (Counts acknowledged given_up lost waiting) = lost + 10 * waiting

abbrev weights : List Reply → ℕ
weights [] = 0
weights (x ∷ later) = weight x + weights later

apart : (n : ℕ) {xs ys : List Reply} → eqb (weights xs) n ≡ true → eqb (weights ys) n ≡ false → xs ≡ ys → ⊥
apart n h g e = true≢false (sym h ∙ ap (λ l. eqb (weights l) n) e ∙ g)

pub leaks_shut_out : LeaksShutOut
leaks_shut_out = (
  λ u. apart 100 refl refl (u (record { names = refl; host = refl; realm = refl; places = refl; sets = refl; calls = refl })),
  λ u. apart 16 refl refl (u (record { names = refl; host = refl; realm = refl; places = refl; sets = refl; calls = refl })),
  λ u. apart 1000 refl refl (u (record { names = refl; host = refl; realm = refl; places = refl; sets = refl; calls = refl })),
  λ u. apart 1001 refl refl (u (record { names = refl; host = refl; realm = refl; places = refl; sets = refl; calls = refl })),
  λ u. apart 17 refl refl (u (record { names = refl; host = refl; realm = refl; places = refl; sets = refl; calls = refl })),
)

pub miscounts_shut_out : MiscountsShutOut
unfolding cut walk sound members with_parts repeated union answer_bytes free_place ones
miscounts_shut_out = (
  λ b. true≢false (ap (λ x. eqb (weight x) 1) (b 0 [] [] _ (omega arith) refl (omega arith)).0),
  λ b. false≢true (ap (λ x. eqb (weight x) 10) (b 1 (_ ∷ _ ∷ _ ∷ _ ∷ []) [] _ (omega arith) refl (omega arith)).0),
)

there : (marks : List Bool) (i : ℕ) → get_or marks i true ≡ false → is_some (free_place marks) ≡ true
unfolding free_place
there [] i h = absurd (true≢false h)
there (false ∷ marks) i h = refl
there (true ∷ marks) zero h = absurd (true≢false h)
there (true ∷ marks) (suc i) h = kept (free_place marks) (there marks i h)
  where
    kept : (m : Option ℕ) → is_some m ≡ true → is_some (option_map suc m) ≡ true
    kept None e = e
    kept (Some i) e = refl

pub places_chosen : PlacesChosen
places_chosen = (λ marks i e. subst (Chosen marks) e (chosen marks), there)
