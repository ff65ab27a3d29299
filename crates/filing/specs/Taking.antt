-- Taking a file in: what is asked beyond that it is accepted, and what the shelf then holds.
use Rattle.std.specs.Prelude.{ℕ, ◌+◌, Bool, true, false, cond, List, [], ◌∷◌, length, Some, None, Ok, Err, Option, Result, ◌==◌, nat_le}
use Rattle.record.specs.declared.fields.Core.{Core}
use Rattle.record.specs.declared.fields.Core.TheVariants as core
use Rattle.record.specs.declared.fields.End.{End}
use Rattle.record.specs.declared.fields.Field.{Field}
use Rattle.record.specs.declared.fields.Start.{Start}
use Rattle.record.specs.declared.fields.TestMark.{TestMark}
use Rattle.record.specs.declared.fields.TestMark.TheVariants.{Test, Production}
use Rattle.record.specs.declared.classes.Class.{Class}
use Rattle.record.specs.declared.classes.Class.TheVariants as class
use Rattle.record.specs.Classes.{class_of}
use Rattle.record.specs.Editions.{bare}
use Rattle.manual.specs.declared.faults.FileFault.{FileFault}
use Rattle.filing.specs.declared.faults.VolumeFault.{VolumeFault}
use Rattle.filing.specs.declared.faults.VolumeFault.TheVariants.{File, Marked, SameStamp, NoRoom}
use Rattle.filing.specs.Volumes.{Records}

-- the fields of a start record
abbrev pub start_core : Core → Option Start
start_core (core.Start x) = Some x
start_core (core.Opening x) = None
start_core (core.Deposit x) = None
start_core (core.Payment x) = None
start_core (core.Deduction x) = None
start_core (core.ExtraReference x) = None
start_core (core.NegativeReference x) = None
start_core core.Information = None
start_core core.Name = None
start_core core.AddressOne = None
start_core core.AddressTwo = None
start_core (core.CompanyNumber n) = None
start_core (core.End x) = None

abbrev pub start_read : Result Core Field → Option Start
start_read (Ok c) = start_core c
start_read (Err f) = None

abbrev pub start_class : Class → Option Start
start_class class.BadCode = None
start_class (class.Core k read) = start_read read
start_class (class.Rider x) = None
start_class class.Unknown = None

abbrev pub start_in : List ℕ → Option Start
start_in r = start_class (class_of bare r)

-- the start record of an entry, or of a file's records: their first record
abbrev pub start_of : Records → Option Start
start_of [] = None
start_of (r ∷ rs) = start_in r

abbrev pub is_test : TestMark → Bool
is_test Test = true
is_test Production = false

-- whether a start record is marked as a test
abbrev pub marked : Option Start → Bool
marked None = false
marked (Some x) = is_test x.mark

-- whether two start records have the same time stamp
abbrev pub has_stamp : ℕ → Option Start → Bool
has_stamp n None = false
has_stamp n (Some x) = x.stamp == n

abbrev pub same_stamp : Option Start → Option Start → Bool
same_stamp None y = false
same_stamp (Some x) y = has_stamp x.stamp y

-- the number of the first entry with the time stamp of this start record, where the first of the list is entry k
abbrev pub first_same : Option Start → ℕ → List Records → Option ℕ
first_same x k [] = None
first_same x k (e ∷ es) = cond (same_stamp x (start_of e)) (Some k) (first_same x (k + 1) es)

-- the file's refusals, as the volume's
abbrev pub by_file : Result End FileFault → Result End VolumeFault
by_file (Ok e) = Ok e
by_file (Err f) = Err (File f)

-- refused with that entry, if there is one
abbrev pub unless_same : Option ℕ → Result (Unit {0}) VolumeFault → Result (Unit {0}) VolumeFault
unless_same None next = next
unless_same (Some k) next = Err (SameStamp k)

-- whether these records may be taken in behind the entries of a shelf with so many records and this limit: not marked as a test, no entry
-- with the same time stamp, and room for them, their trailer and the closing record
abbrev pub admitted : ℕ → ℕ → List Records → Records → Result (Unit {0}) VolumeFault
admitted limit count entries e =
    cond (marked (start_of e)) (Err Marked)
    (unless_same (first_same (start_of e) 1 entries)
    (cond (nat_le (count + length e + 2) limit) (Ok tt) (Err NoRoom)))
