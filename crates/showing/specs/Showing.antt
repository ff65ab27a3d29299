-- The calls that read an entry: the rows that show it, the bytes of its plain copy, or the refusal.
use Rattle.std.specs.Prelude.{ℕ, ◌+◌, ◌-◌, cond, List, [], ◌∷◌, ◌++◌, length, take, drop, Some, None, Ok, Err, Option, Result, nat_le, slice_index_or}
use Rattle.field.specs.Chains.{then}
use Rattle.record.specs.declared.rows.Row.{Row}
use Rattle.record.specs.Editions.{Meaning}
use Rattle.manual.specs.declared.faults.FileFault.{FileFault}
use Rattle.report.specs.Rows.{rows_of}
use Rattle.report.specs.Faults.{first_fault}
use Rattle.filing.specs.Volumes.{Records}
use Rattle.volume.specs.Taking.{numbered_in}
use Rattle.report.specs.Copies.{plain_records, copied}
use Rattle.filing.specs.declared.faults.VolumeFault.{VolumeFault}
use Rattle.filing.specs.declared.faults.VolumeFault.TheVariants.{NoEntry, Rider as OfRider, RowsShort, CopyShort}

-- so many, unless a rider is wrong
abbrev pub unless_wrong : Option FileFault → ℕ → Result ℕ FileFault
unless_wrong None n = Ok n
unless_wrong (Some f) n = Err f

-- how many core records and riders there are, unless a rider of them is wrong
abbrev pub surveyed : Meaning → Records → Result ℕ FileFault
surveyed m rs = unless_wrong (first_fault m rs) (length (plain_records m rs))

-- the entry's records, unless a rider of it is wrong
abbrev pub unless_rider : ℕ → Option FileFault → Records → Result Records VolumeFault
unless_rider k None e = Ok e
unless_rider k (Some f) e = Err (OfRider k f)

-- entry k, to be read under an edition: 24 where there is none, else 14 or 13 at the first rider that is wrong
abbrev pub passed : Meaning → ℕ → List Records → Result Records VolumeFault
passed m k es =
    let e = slice_index_or es (k - 1) [] in
    cond (numbered_in k (length es)) (unless_rider k (first_fault m e) e) (Err (NoEntry k))

-- what is to be filled in, where so many places are enough for it
abbrev pub fitting : {A : Type 0} → (ℕ → VolumeFault) → ℕ → List A → Result (List A) VolumeFault
fitting short many xs = cond (nat_le (length xs) many) (Ok xs) (Err (short (length xs)))

-- showing entry k, with a table of so many rows: the rows, or the refusal
abbrev pub shown : Meaning → ℕ → ℕ → List Records → Result (List Row) VolumeFault
shown m k many es = then (passed m k es) (λ e. fitting RowsShort many (rows_of m e))

-- the plain copy of entry k, with a buffer of so many bytes: the bytes, or the refusal
abbrev pub copying : Meaning → ℕ → ℕ → List Records → Result (List ℕ) VolumeFault
copying m k many es = then (passed m k es) (λ e. fitting CopyShort many (copied m e))

-- both answer how much was filled in
abbrev pub how_many : {A : Type 0} → Result (List A) VolumeFault → Result ℕ VolumeFault
how_many (Ok xs) = Ok (length xs)
how_many (Err f) = Err f

-- and leave behind it what stood there; at a refusal all of it
abbrev pub filled_in : {A : Type 0} → Result (List A) VolumeFault → List A → List A
filled_in (Ok xs) table = xs ++ drop (length xs) table
filled_in (Err f) table = table

-- a table with some of it replaced, from place i on
abbrev pub with_part : {A : Type 0} → List A → ℕ → List A → List A
with_part table i part = take i table ++ (part ++ drop (i + length part) table)

-- the line of a record, if there is one
abbrev pub line_of : Option (List ℕ) → List ℕ
line_of None = []
line_of (Some r) = r ++ 13 ∷ 10 ∷ []
