-- What holds of every table, whatever its kind of places.
--     ChoiceLaws         the place chosen for a new entry is within, is free, is there exactly when some place is free, and hangs on nothing but
--                         which places are taken
--     RoomCounted        some place is free exactly when fewer are taken than there are
--     ToldHere           after a step the map has at the key what the step put there: an entry put in is found, one taken out is not
--     ToldElsewhere      at every other key it has what it had
--     FreedServes        when an entry was taken out, a place is free
--     Swept, SweptTold   a change of every place that only frees or keeps what it finds: each entry is changed, and nothing else
--     Apart, DistinctMeans   no two taken places have the same key, said of any two of them
--     NumberOfMap       tables with the same map have as many places taken: the number taken is the number of entries
--     EmptyTable         places that are all free are distinct and have no entry
use Rattle.std.specs.Prelude.{◌≡◌, ℕ, ◌<◌, ◌≤◌, Bool, true, false, List, map as each, length, replicate, is_some, Some, None, Decides, Option, ◌≢◌, nat_lt, slice_index_or}
use Rattle.table.specs.Tables.{holder, at, distinct, Distinct, number, room}
use Rattle.table.specs.Choices.{choice}
use Rattle.table.specs.Steps.{Updated, changed_content}

pub record ChoiceLaws {P : Type 0} (taken : P → Bool) : Type 0 where
  pub there : (ps : List P) → is_some (choice taken ps) ≡ room taken ps
  pub within : (ps : List P) (i : ℕ) → choice taken ps ≡ Some i → i < length ps
  pub free : (ps : List P) (i : ℕ) (d : P) → choice taken ps ≡ Some i → taken (slice_index_or ps i d) ≡ false
  pub marks : (ps : List P) → choice taken ps ≡ choice (λ b. b) (each taken ps)

abbrev pub RoomCounted : {P : Type 0} → (P → Bool) → Type 0
RoomCounted {P} taken = (ps : List P) → room taken ps ≡ nat_lt (number taken ps) (length ps)

module _ {P E : Type 0} (taken : P → Bool) (key : P → List ℕ) (entry : P → E) where
  abbrev pub ToldHere : Type 0
  ToldHere = (ps qs : List P) (k : List ℕ) (v : Option E) → Updated taken key entry ps qs k v → at taken key entry qs k ≡ v

  abbrev pub ToldElsewhere : Type 0
  ToldElsewhere = (ps qs : List P) (k n : List ℕ) (v : Option E) → Updated taken key entry ps qs k v → (n ≢ k) → at taken key entry qs n ≡ at taken key entry ps n

  abbrev pub FreedServes : Type 0
  FreedServes = (ps qs : List P) (k : List ℕ) → Updated taken key entry ps qs k None → is_some (at taken key entry ps k) ≡ true → room taken qs ≡ true

  pub record Swept (f : P → P) (ps : List P) : Type 0 where
    pub map : at taken key entry (each f ps) ≡ λ k. changed_content taken entry f (holder taken key ps k)
    pub apart : Distinct taken key (each f ps)
    pub taken_number : number taken (each f ps) ≤ number taken ps

  abbrev pub SweptTold : Type 0
  SweptTold = (f : P → P) → ((p : P) → taken (f p) ≡ true → (taken p ≡ true) × (key (f p) ≡ key p)) → (ps : List P) → Distinct taken key ps → Swept f ps

  abbrev pub NumberOfMap : Type 0
  NumberOfMap = (ps qs : List P) → Distinct taken key ps → Distinct taken key qs → at taken key entry ps ≡ at taken key entry qs → number taken ps ≡ number taken qs

  pub record EmptyTable : Type 0 where
    pub apart : (p : P) (n : ℕ) → taken p ≡ false → Distinct taken key (replicate n p)
    pub map : (p : P) (n : ℕ) → taken p ≡ false → at taken key entry (replicate n p) ≡ λ _. None
    pub taken_number : (p : P) (n : ℕ) → taken p ≡ false → number taken (replicate n p) ≡ 0

module _ {P : Type 0} (taken : P → Bool) (key : P → List ℕ) where
  abbrev pub Apart : List P → Type 0
  Apart ps = (i j : ℕ) (d : P) → i < j → j < length ps → taken (slice_index_or ps i d) ≡ true → taken (slice_index_or ps j d) ≡ true → key (slice_index_or ps i d) ≢ key (slice_index_or ps j d)

  abbrev pub DistinctMeans : Type 0
  DistinctMeans = (ps : List P) → Decides (distinct taken key ps) (Apart ps)
