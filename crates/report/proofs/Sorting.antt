-- What a walk asks of a record's sort, by the record's class.
use Rattle.std.proofs.Common.{◌≡◌, ℕ, ◌+◌, ◌≤◌, List, length, Option, arith}
use Rattle.record.specs.declared.classes.Class.{Class}
use Rattle.record.specs.declared.classes.Class.TheVariants as class
use Rattle.record.specs.declared.editions.Level.{Level}
use Rattle.record.specs.Sorts.{sort_of}
use Rattle.manual.specs.declared.faults.Cause.{Cause}
use Rattle.report.specs.Copies.{record_then}
use Rattle.report.specs.Sorts.{plain_of, cause_in, level_behind, adds}

abbrev pub cause_of : Option Level → Class → Option Cause
cause_of o c = cause_in o (sort_of c)

abbrev pub level_past : Option Level → Class → Option Level
level_past o c = level_behind o (sort_of c)

abbrev pub plain_by : Class → List ℕ → Option (List ℕ)
plain_by c r = plain_of (sort_of c) r

pub adds_sorted : (c : Class) (r : List ℕ) (ps : List (List ℕ)) → length (record_then (plain_by c r) ps) ≡ adds (sort_of c) + length ps
adds_sorted class.BadCode r ps = omega arith
adds_sorted (class.Core k read) r ps = omega arith
adds_sorted (class.Rider x) r ps = omega arith
adds_sorted class.Unknown r ps = omega arith

pub adds_one : (c : Class) → adds (sort_of c) ≤ 1
adds_one class.BadCode = omega arith
adds_one (class.Core k read) = omega arith
adds_one (class.Rider x) = omega arith
adds_one class.Unknown = omega arith
