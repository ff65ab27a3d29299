-- The refusals of a volume.
use Rattle.std.specs.Prelude.{ℕ, List, [], ◌∷◌, Contains, IfErr, Some, None, Option, Result}
use Rattle.refusal.specs.declared.FileRefusal.{FileRefusal}
use Rattle.refusal.specs.declared.Refusal.{Refusal}
use Rattle.refusal.specs.declared.Reason.{Reason}
use Rattle.refusal.specs.declared.Reason.TheVariants as reason
use Rattle.refusal.specs.declared.Layer.TheVariants as layer
use Rattle.refusal.specs.Reasons.{number_of}
use Rattle.refusal.specs.declared.Place.{Place}
use Rattle.refusal.specs.declared.Place.TheVariants.{Entry, EntryRecord, ShelfRecord, Rows, Bytes}
use Rattle.manual.specs.Refusals.{told_of, file_refusal}
use Rattle.filing.specs.declared.faults.VolumeFault.{VolumeFault}
use Rattle.filing.specs.declared.faults.VolumeFault.TheVariants.{File, Marked, SameStamp, NoRoom, NoEntry, NoTrailer, Unreadable, Differs, ClosingDiffers, Rider, RowsShort, BalanceShort, CopyShort}

-- a refusal of the layer volume, with its place if it has one
abbrev pub at_volume : Reason → Option Place → Refusal
at_volume why place = record { reason = why; layer = layer.Volume; place = place; within = None }

-- an entry can't be read: with the file's refusal entire
abbrev pub unreadable : ℕ → FileRefusal → Refusal
unreadable entry file = record { reason = reason.EntryUnreadable; layer = layer.Volume; place = Some (Entry entry); within = Some file }

-- a file's refusal, told of the record in its entry
abbrev pub at_entry_record : ℕ → FileRefusal → Refusal
at_entry_record entry file = record { reason = file.reason; layer = layer.File; place = Some (EntryRecord entry file.at); within = None }

-- what each refusal tells; those of the file to be taken in keep reason, layer and place
abbrev pub volume_refusal : VolumeFault → Refusal
volume_refusal (File e) = file_refusal e
volume_refusal Marked = at_volume reason.MarkedTest None
volume_refusal (SameStamp entry) = at_volume reason.SameTimeStamp (Some (Entry entry))
volume_refusal NoRoom = at_volume reason.NoRoom None
volume_refusal (NoEntry entry) = at_volume reason.NoEntry (Some (Entry entry))
volume_refusal (NoTrailer n) = at_volume reason.NoTrailer (Some (ShelfRecord n))
volume_refusal (Unreadable entry e) = unreadable entry (told_of e)
volume_refusal (Differs entry) = at_volume reason.TrailerDisagrees (Some (Entry entry))
-- the closing record is told as entry 0
volume_refusal ClosingDiffers = at_volume reason.TrailerDisagrees (Some (Entry 0))
volume_refusal (Rider entry e) = at_entry_record entry (told_of e)
volume_refusal (RowsShort n) = at_volume reason.RowTableShort (Some (Rows n))
volume_refusal BalanceShort = at_volume reason.BalanceTableShort None
volume_refusal (CopyShort n) = at_volume reason.CopyBufferShort (Some (Bytes n))

-- the number that a refusal of a volume tells
abbrev pub number_told : VolumeFault → ℕ
number_told f = number_of (volume_refusal f).reason

-- an answer that is refused, if it is, by one of these numbers
abbrev pub RefusedBy : {T : Type 0} → List ℕ → Result T VolumeFault → Type 0
RefusedBy numbers answer = IfErr answer (λ f. Contains numbers (number_told f))

-- the numbers by which each of these calls can be refused, in ascending order

-- opening
abbrev pub of_opening : List ℕ
of_opening = 22 ∷ 30 ∷ 31 ∷ 32 ∷ []

-- taking in: those of checking the file, and its own
abbrev pub of_taking : List ℕ
of_taking = 1 ∷ 2 ∷ 3 ∷ 4 ∷ 5 ∷ 6 ∷ 7 ∷ 8 ∷ 9 ∷ 10 ∷ 11 ∷ 12 ∷ 13 ∷ 14 ∷ 20 ∷ 21 ∷ 22 ∷ []

-- fetching
abbrev pub of_fetching : List ℕ
of_fetching = 24 ∷ []

-- showing, and the plain copy
abbrev pub of_showing : List ℕ
of_showing = 13 ∷ 14 ∷ 24 ∷ 25 ∷ []

abbrev pub of_copying : List ℕ
of_copying = 13 ∷ 14 ∷ 24 ∷ 27 ∷ []
