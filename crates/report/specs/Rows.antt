-- The rows of a file's records: one for each core record and rider, in order.
use Rattle.std.specs.Prelude.{ℕ, suc, List, [], ◌∷◌, Some, None, Ok, Err, Option, Result}
use Rattle.record.specs.declared.fields.Core.{Core}
use Rattle.record.specs.declared.fields.Field.{Field}
use Rattle.record.specs.declared.classes.Class.{Class}
use Rattle.record.specs.declared.classes.Class.TheVariants as class
use Rattle.record.specs.declared.rows.Row.{Row}
use Rattle.record.specs.Classes.{class_of}
use Rattle.record.specs.Editions.{Meaning}
use Rattle.record.specs.Rows.{row_of, bare_row}

-- of a core record that is read; one that breaks its layout stands in no file that was taken in
abbrev pub row_read : ℕ → Result Core Field → Option Row
row_read n (Ok c) = Some (row_of n c)
row_read n (Err f) = None

-- the row of record n, if it has one: riders have number and code only, unknown records have none
abbrev pub row_in : ℕ → Class → Option Row
row_in n class.BadCode = None
row_in n (class.Core k read) = row_read n read
row_in n (class.Rider x) = Some (bare_row n x.code)
row_in n class.Unknown = None

-- a row in front of those behind it, if there is one
abbrev pub row_then : Option Row → List Row → List Row
row_then None rest = rest
row_then (Some row) rest = row ∷ rest

-- the rows of these records, of which the first is record n
abbrev pub rows_from : Meaning → ℕ → List (List ℕ) → List Row
rows_from m n [] = []
rows_from m n (r ∷ rs) = row_then (row_in n (class_of m r)) (rows_from m (suc n) rs)

abbrev pub rows_of : Meaning → List (List ℕ) → List Row
rows_of m rs = rows_from m 1 rs
