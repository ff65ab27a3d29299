-- The sort of a record: its class, less the fields of a core record.
use Rattle.std.specs.Prelude.{ℕ, List}
use Rattle.record.specs.declared.classes.Class.{Class}
use Rattle.record.specs.declared.classes.Class.TheVariants as class
use Rattle.record.specs.declared.classes.Sort.{Sort}
use Rattle.record.specs.declared.classes.Sort.TheVariants as sort
use Rattle.record.specs.Classes.{class_of}
use Rattle.record.specs.Editions.{Meaning}

abbrev pub sort_of : Class → Sort
sort_of class.BadCode = sort.BadCode
sort_of (class.Core k read) = sort.Core k
sort_of (class.Rider x) = sort.Rider x
sort_of class.Unknown = sort.Unknown

-- the sort of a record under an edition's meaning
abbrev pub sort_at : Meaning → List ℕ → Sort
sort_at m line = sort_of (class_of m line)
