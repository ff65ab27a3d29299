-- The first rider among some records that an edition finds wrong: 14 where it stands at another level than its place has, else 13 where it is
-- ill-formed.
use Rattle.std.specs.Prelude.{ℕ, suc, List, [], ◌∷◌, Some, None, Option}
use Rattle.record.specs.declared.editions.Level.{Level}
use Rattle.record.specs.Editions.{Meaning}
use Rattle.record.specs.Sorts.{sort_at}
use Rattle.manual.specs.declared.faults.Cause.{Cause}
use Rattle.manual.specs.declared.faults.FileFault.{FileFault}
use Rattle.report.specs.Sorts.{cause_in, level_behind}

-- the fault at record n, or that of what follows
abbrev pub fault_or : ℕ → Option Cause → Option FileFault → Option FileFault
fault_or n None next = next
fault_or n (Some c) next = Some (record { number = n; cause = c })

-- the first among these records, of which the first is record n at a place of this level
abbrev pub fault_from : Meaning → Option Level → ℕ → List (List ℕ) → Option FileFault
fault_from m o n [] = None
fault_from m o n (r ∷ rs) = fault_or n (cause_in o (sort_at m r)) (fault_from m (level_behind o (sort_at m r)) (suc n) rs)

-- the first among the records of a file; before its first record a place has no level
abbrev pub first_fault : Meaning → List (List ℕ) → Option FileFault
first_fault m rs = fault_from m None 1 rs
