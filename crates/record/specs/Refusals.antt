-- Why a record by itself is refused.
use Rattle.std.specs.Prelude.{Ok, Err, Result}
use Rattle.refusal.specs.declared.Reason.{Reason}
use Rattle.refusal.specs.declared.Reason.TheVariants as reason
use Rattle.record.specs.declared.fields.Field.{Field}
use Rattle.record.specs.declared.fields.Core as fields
use Rattle.record.specs.declared.classes.Class.{Class}
use Rattle.record.specs.declared.classes.Class.TheVariants.{BadCode, Core, Rider, Unknown}
use Rattle.record.specs.declared.faults.RecordFault.{RecordFault}
use Rattle.record.specs.declared.faults.RecordFault.TheVariants.{Code, Layout}

-- why a record is refused
abbrev pub reason_of : RecordFault → Reason
reason_of Code = reason.BadCode
reason_of (Layout f) = reason.BadField

-- the fields that were read, or the fault of the record
abbrev pub fields_read : Result fields.Core Field → Result fields.Core RecordFault
fields_read (Ok c) = Ok c
fields_read (Err f) = Err (Layout f)

-- the class of a record that can be read by itself, or why it cannot
abbrev pub sound : Class → Result Class RecordFault
sound BadCode = Err Code
sound (Core k (Ok fields)) = Ok (Core k (Ok fields))
sound (Core k (Err f)) = Err (Layout f)
sound (Rider x) = Ok (Rider x)
sound Unknown = Ok Unknown
