-- The refusals of a file.
use Rattle.refusal.specs.declared.FileRefusal.{FileRefusal}
use Rattle.refusal.specs.declared.Refusal.{Refusal}
use Rattle.refusal.specs.declared.Reason.{Reason}
use Rattle.refusal.specs.declared.Reason.TheVariants as reason
use Rattle.refusal.specs.Refusals.{refusal_of}
use Rattle.record.specs.Refusals as records
use Rattle.manual.specs.declared.faults.Cause.{Cause}
use Rattle.manual.specs.declared.faults.Cause.TheVariants.{Broken, Unreadable, Order, UnlikeItem, Information, NoPlace, PayerOwes, Deposit, Counts, TooMany, Unfinished, RiderIllFormed, RiderLevel}
use Rattle.manual.specs.declared.faults.FileFault.{FileFault}

-- the reason of a cause; the faults of a record by itself keep theirs
abbrev pub reason_of : Cause → Reason
reason_of Broken = reason.BrokenRecord
reason_of (Unreadable e) = records.reason_of e
reason_of Order = reason.OutOfOrder
reason_of UnlikeItem = reason.UnlikeItem
reason_of Information = reason.TooMuchInformation
reason_of NoPlace = reason.NoPlaceForPayer
reason_of PayerOwes = reason.PayerOwes
reason_of Deposit = reason.DepositDisagrees
reason_of Counts = reason.CountsDisagree
reason_of TooMany = reason.TooManyRecords
reason_of Unfinished = reason.Unfinished
reason_of RiderIllFormed = reason.RiderIllFormed
reason_of RiderLevel = reason.RiderAtWrongLevel

-- a file's refusal entire: why, and at which record
abbrev pub told_of : FileFault → FileRefusal
told_of fault = record { reason = reason_of fault.cause; at = fault.number }

-- what the refusal of a file tells
abbrev pub file_refusal : FileFault → Refusal
file_refusal fault = refusal_of (told_of fault)
