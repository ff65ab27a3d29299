-- The plain copy behind a list of calls. It is none of them, since it leaves the list as it was.
use Rattle.std.specs.Prelude.{◌≡◌, ℕ, ◌-◌, Bool, true, List, [], None, Ok, Err, Result, length, slice_index_or}
use Rattle.record.specs.Editions.{Meaning}
use Rattle.manual.specs.declared.faults.Cause.{Cause}
use Rattle.filing.specs.declared.faults.VolumeFault.{VolumeFault}
use Rattle.filing.specs.declared.faults.VolumeFault.TheVariants.{NoEntry, Rider, CopyShort}
use Rattle.filing.specs.Volumes.{Records}
use Rattle.showing.specs.Showing.{copying, how_many, filled_in}
use Rattle.twins.specs.Agreeing.{fault_at}
use Rattle.twins.specs.Twins.{Follow, Partners}
use Rattle.law.specs.Archive.{Archive, entries, Call}
use Rattle.law.specs.Law.{Lawful}
use Rattle.law.specs.Runs.{archive, Made}
use Rattle.law.specs.TwoRuns.{SameEdition, SameCalls}

-- the records of entry k, which a number in a refusal names
abbrev pub entry_at : Archive → ℕ → Records
entry_at a k = slice_index_or (entries a) (k - 1) []

-- two copies are the same bytes in the same buffer, or both are refused alike, at record numbers that F relates
pub data CopyAlike (F : ℕ → ℕ → Type 0) : Result ℕ VolumeFault → List ℕ → Result ℕ VolumeFault → List ℕ → Type 0 where
  both_copied : (n : ℕ) (buffer : List ℕ) → CopyAlike F (Ok n) buffer (Ok n) buffer
  both_no_entry : (k : ℕ) (buffer : List ℕ) → CopyAlike F (Err (NoEntry k)) buffer (Err (NoEntry k)) buffer
  both_rider : (k : ℕ) (c : Cause) (i j : ℕ) (buffer : List ℕ) → F i j → CopyAlike F (Err (Rider k (fault_at i c))) buffer (Err (Rider k (fault_at j c))) buffer
  both_short : (n : ℕ) (buffer : List ℕ) → CopyAlike F (Err (CopyShort n)) buffer (Err (CopyShort n)) buffer

-- what copying entry k of an archive answers, with a buffer of these bytes; and the buffer afterwards
abbrev pub copy_answer : Archive → Meaning → ℕ → List ℕ → Result ℕ VolumeFault
copy_answer a m k buffer = how_many (copying m k (length buffer) (entries a))

abbrev pub copy_buffer : Archive → Meaning → ℕ → List ℕ → List ℕ
copy_buffer a m k buffer = filled_in (copying m k (length buffer) (entries a)) buffer

-- a plain copy of entry k behind these calls, with the buffer before and after it
pub record CopyGoes (limit : ℕ) (past : List Call) (m : Meaning) (k : ℕ) (before : List ℕ) (r : Result ℕ VolumeFault) (after : List ℕ) (rs : Records) (room : ℕ) : Type 0 where
  -- the law holds of the archive which the calls have made
  pub lawful : Lawful (archive limit past)
  -- and the copy is that of this archive
  pub answers : r ≡ copy_answer (archive limit past) m k before
  pub buffer : after ≡ copy_buffer (archive limit past) m k before
  -- for another depositor of the same calls with twin files the same bytes are written, under an edition with the same tables, where that
  -- knows no spare code
  pub alike : (spare : ℕ → Bool) (other : ℕ) (others : List Call) (n : Meaning) → SameCalls spare limit past other others → SameEdition m n
      → ((c : ℕ) → spare c ≡ true → m.level c ≡ None)
      → CopyAlike (Follow spare (entry_at (archive limit past) k) (entry_at (archive other others) k))
      r after (copy_answer (archive other others) n k before) (copy_buffer (archive other others) n k before)
      × Partners spare (entry_at (archive limit past) k) (entry_at (archive other others) k)
  -- and the shelf is still what the same calls have made, so that the list goes on as it was
  pub on : Made limit past rs room

-- THE CLAUSE of the plain copy: whatever list of calls has led to the shelf
abbrev pub CopyInLaw : Records → ℕ → Meaning → ℕ → List ℕ → Result ℕ VolumeFault → List ℕ → Type 0
CopyInLaw rs room m k before r after = (limit : ℕ) (past : List Call) → Made limit past rs room → CopyGoes limit past m k before r after rs room
