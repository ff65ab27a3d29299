-- Faults of a file: a cause, and the number of the record.
use Rattle.std.specs.Prelude.{ℕ, Ok, Err, Result}
use Rattle.manual.specs.declared.faults.Cause.{Cause}
use Rattle.manual.specs.declared.faults.FileFault.{FileFault}

-- an answer whose cause, if it is refused, is one of the record with number n
abbrev pub numbered : {A : Type 0} → ℕ → Result A Cause → Result A FileFault
numbered n (Ok x) = Ok x
numbered n (Err c) = Err (record { number = n; cause = c })
