-- What a walk over records asks of each one, by its sort.
use Rattle.std.specs.Prelude.{ℕ, List, Some, None, Option}
use Rattle.record.specs.declared.editions.Level.{Level}
use Rattle.record.specs.declared.classes.Sort.{Sort}
use Rattle.record.specs.declared.classes.Sort.TheVariants as sort
use Rattle.record.specs.Reserve.{blanked}
use Rattle.manual.specs.declared.faults.Cause.{Cause}
use Rattle.manual.specs.Manual.{level_after}
use Rattle.manual.specs.Riders.{rider_cause}

-- why a record at a place of this level is a wrong rider, if it is one
abbrev pub cause_in : Option Level → Sort → Option Cause
cause_in o sort.BadCode = None
cause_in o (sort.Core k) = None
cause_in o (sort.Rider x) = rider_cause o x
cause_in o sort.Unknown = None

-- the level behind one more record: it follows from the last core record
abbrev pub level_behind : Option Level → Sort → Option Level
level_behind o sort.BadCode = o
level_behind o (sort.Core k) = level_after k
level_behind o (sort.Rider x) = o
level_behind o sort.Unknown = o

-- what the plain copy has of a record: a core record with every reserve position blank, a rider as it stands, nothing of others
abbrev pub plain_of : Sort → List ℕ → Option (List ℕ)
plain_of sort.BadCode r = None
plain_of (sort.Core k) r = Some (blanked k r)
plain_of (sort.Rider x) r = Some r
plain_of sort.Unknown r = None

-- and how many records that is
abbrev pub adds : Sort → ℕ
adds sort.BadCode = 0
adds (sort.Core k) = 1
adds (sort.Rider x) = 1
adds sort.Unknown = 0
