-- One walk over the AVPs of a request, as the code makes it.
--     marked seen k    the known AVP k is there, where `seen` has a mark for each by its place in the dictionary
--     Scans after l s  what a walk over the AVPs l that finds no stranger notes, in the words of the faults
use Rattle.std.specs.Prelude.{◌≡◌, ℕ, Bool, false, List, None, Option, slice_index_or}
use Rattle.diameter.specs.Lists.{Avp}
use Rattle.diameter.specs.Views.{found}
use Rattle.dictionary.specs.Names.{index}
use Rattle.dictionary.specs.declared.known.Known.{Known}
use Rattle.request.specs.Faults.{there, stranger, repeated, misfit}
use Rattle.request.specs.declared.scan.Scan.{Scan}

abbrev pub marked : List Bool → Known → Bool
marked seen k = slice_index_or seen (index k) false

pub record Scans (after : Option ℕ) (l : List Avp) (s : Scan) : Type 0 where
  pub stranger : None ≡ stranger l
  pub repeat : found s.repeat ≡ repeated (λ _. false) l
  pub misfit : found s.misfit ≡ misfit after l
  pub seen : (k : Known) → marked s.seen k ≡ there k l
