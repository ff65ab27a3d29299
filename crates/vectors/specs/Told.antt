-- An answer of a shelf as two numbers: those of the refusal and of its place, or zeros.
use Rattle.std.specs.Prelude.{ℕ, Ok, Err, Result}
use Rattle.shelf.specs.declared.ShelfFault.{ShelfFault}
use Rattle.shelf.specs.declared.ShelfFault.TheVariants.{Full, NoRecord}

abbrev fault_told : ShelfFault → ℕ × ℕ
fault_told (Full count) = (15, count)
fault_told (NoRecord n) = (16, n)

abbrev pub told_of : Result (Unit {0}) ShelfFault → ℕ × ℕ
told_of (Ok x) = (0, 0)
told_of (Err fault) = fault_told fault
