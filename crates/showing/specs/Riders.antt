-- What reading an entry comes to, in the words of the rules: the same for showing and for the plain copy.
use Rattle.std.specs.Prelude.{◌≡◌, ℕ, ◌-◌, ◌<◌, ◌≤◌, List, [], ◌++◌, drop, length, Ok, Err, Result, slice_index_or}
use Rattle.record.specs.Editions.{Meaning, Extends}
use Rattle.sums.specs.Laws.{Exactly}
use Rattle.manual.specs.declared.faults.FileFault.{FileFault}
use Rattle.manual.specs.Manual.{Reading, Follows}
use Rattle.filing.specs.Volumes.{Records}
use Rattle.report.specs.Riders.{Finds, FindsFirst}
use Rattle.report.specs.Listing.{records_in}
use Rattle.filing.specs.declared.faults.VolumeFault.{VolumeFault}
use Rattle.filing.specs.declared.faults.VolumeFault.TheVariants.{NoEntry, Rider}

-- an answer to reading entry k, with these records, under an edition
pub record RidersRead (m : Meaning) (k : ℕ) (e : Records) (answer : Result ℕ VolumeFault) : Type 0 where
  -- it is refused by 13 or 14 exactly where the edition knows a record of the entry and finds it ill-formed or at a wrong level
  pub refused : Exactly ((f : FileFault) × (answer ≡ Err (Rider k f))) (Finds m e)
  -- and then tells the first such record
  pub first : (f : FileFault) → answer ≡ Err (Rider k f) → FindsFirst m e f
  -- that never comes where the edition of the entry's taking in extends the reader's
  pub never : (taken : Meaning) (file : List ℕ) (r : Reading) → records_in file ≡ e → Follows taken file r → Extends taken m → (f : FileFault) → answer ≡ Err (Rider k f) → ⊥

-- among these entries: where there is entry k, its riders are read so; where there is none, 24 comes
pub record ReadsEntry (m : Meaning) (k : ℕ) (es : List Records) (answer : Result ℕ VolumeFault) : Type 0 where
  pub there : 0 < k → k ≤ length es → RidersRead m k (slice_index_or es (k - 1) []) answer
  pub nowhere : (0 < k → k ≤ length es → ⊥) → answer ≡ Err (NoEntry k)

-- what is done with the places that the caller lends, which held `before` and then hold `after`, where entry k is asked for, and so much of
-- it is to be filled in
pub record FillsEntry {A : Type 0} (fill : Records → List A) (short : ℕ → VolumeFault) (m : Meaning) (k : ℕ) (es : List Records) (before after : List A) (answer : Result ℕ VolumeFault) : Type 0 where
  -- where the entry is there and the edition finds no rider of it wrong: with places enough all is filled in, in front of what stood behind
  pub whole : 0 < k → k ≤ length es → (Finds m (slice_index_or es (k - 1) []) → ⊥) → length (fill (slice_index_or es (k - 1) [])) ≤ length before
      → (answer ≡ Ok (length (fill (slice_index_or es (k - 1) [])))) × (after ≡ fill (slice_index_or es (k - 1) []) ++ drop (length (fill (slice_index_or es (k - 1) []))) before)
  -- with fewer places none is, and the refusal tells how many are needed
  pub too_few : 0 < k → k ≤ length es → (Finds m (slice_index_or es (k - 1) []) → ⊥) → length before < length (fill (slice_index_or es (k - 1) []))
      → answer ≡ Err (short (length (fill (slice_index_or es (k - 1) []))))
  -- every refusal leaves all as it was
  pub kept : (f : VolumeFault) → answer ≡ Err f → after ≡ before
