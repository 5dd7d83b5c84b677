-- What an AF sees of a session, from three sets: those allowed to it, those overriding for it, and those withheld.
--     seen a o w k         field k is seen: it is allowed, and not withheld or overriding
--     view a o w           the fields that are seen
--     view_under e a o w   the same where the fields e are taken out of what is allowed and overriding
--     WorkedViews         fields 1, 4 and 5 allowed, 1 overriding, 1 and 5 withheld: 1 and 4 are seen, and 4 alone where 1 is shut
use Rattle.std.specs.Prelude.{◌≡◌, ℕ, Bool, not, ◌&&◌, ◌||◌}
use Rattle.fieldset.specs.Sets.{has, minus}

abbrev pub seen : ℕ → ℕ → ℕ → ℕ → Bool
seen a o w k = has a k && (not (has w k) || has o k)

abbrev pub view : ℕ → ℕ → ℕ → ℕ
view a o w = minus a (minus w o)

abbrev pub view_under : ℕ → ℕ → ℕ → ℕ → ℕ
view_under e a o w = view (minus a e) (minus o e) w

abbrev pub WorkedViews : Type 0
WorkedViews = (view 50 2 34 ≡ 18) × (view_under 2 50 2 34 ≡ 16)
