-- Showing an entry whose records are known, and where a rider of them is wrong.
use Rattle.std.proofs.Common.{ℕ, List, Option, Result}
use Rattle.field.specs.Chains.{then}
use Rattle.record.specs.declared.rows.Row.{Row}
use Rattle.record.specs.Editions.{Meaning}
use Rattle.manual.specs.declared.faults.FileFault.{FileFault}
use Rattle.filing.specs.declared.faults.VolumeFault.{VolumeFault}
use Rattle.filing.specs.Volumes.{Records}
use Rattle.report.specs.Rows.{rows_of}
use Rattle.filing.specs.declared.faults.VolumeFault.TheVariants.{RowsShort}
use Rattle.showing.specs.Showing.{unless_rider, fitting}

-- entry k under an edition, with a table of so many rows
abbrev pub shown_of : ℕ → Meaning → ℕ → Option FileFault → Records → Result (List Row) VolumeFault
shown_of k m n o e = then (unless_rider k o e) (λ x. fitting RowsShort n (rows_of m x))
