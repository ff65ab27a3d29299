-- What stands on a shelf, and what opening finds there. An entry is the records of one file; its trailer is the record behind it that
-- sums it up; a volume is entries with their trailers, and behind them the closing record where the volume is closed.
use Rattle.std.specs.Prelude.{ℕ, zero, suc, ◌+◌, ◌-◌, Bool, cond, ◌&&◌, List, [], ◌∷◌, ◌++◌, map, reverse, length, Some, None, Ok, Err, Option, Result, ◌==◌, nat_lt, slice_index, slice_index_or}
use Rattle.std.specs.List.{between}
use Rattle.field.specs.Chains.{then}
use Rattle.manual.specs.declared.faults.FileFault.{FileFault}
use Rattle.trailer.specs.declared.layout.Totals.{Totals}
use Rattle.trailer.specs.declared.layout.Trailer.{Trailer}
use Rattle.trailer.specs.Trailers.{trailer_of, closing_of, read_trailer, right_closing, closing_says}
use Rattle.filing.specs.declared.faults.VolumeFault.{VolumeFault}
use Rattle.filing.specs.declared.faults.VolumeFault.TheVariants.{NoRoom, NoTrailer, Unreadable, Differs, ClosingDiffers}
use Rattle.filing.specs.declared.standing.Opened.{Opened}
use Rattle.filing.specs.declared.standing.Standing.{Standing}
use Rattle.filing.specs.declared.standing.Standing.TheVariants.{Open, Closed}

-- records of a shelf, each a list of its bytes
abbrev pub Records : Type 0
Records = List (List ℕ)

-- a way to read an entry: what its records come to, or why they are no file
abbrev pub Reads : Type 0
Reads = Records → Result Totals FileFault

abbrev pub no_totals : Totals
no_totals = record { payments = 0; deductions = 0; sek = 0; eur = 0 }

-- the totals that were read, zeros where the entry was refused
abbrev pub totals_or : Result Totals FileFault → Totals
totals_or (Ok t) = t
totals_or (Err e) = no_totals

-- the trailer of an entry that comes to this and lies behind so many entries, in so many records
abbrev pub trailer_with : ℕ → ℕ → Records → Totals → Trailer
trailer_with entries places e totals = record { records = length e; entry = suc entries; previous = places; totals = totals }

-- what stands behind so many entries, of which the last trailer has this number: the closing record that says both, or nothing
abbrev pub closing_behind : Standing → ℕ → ℕ → Records
closing_behind Open entries last = []
closing_behind Closed entries last = closing_of entries last ∷ []

module _ (reads : Reads) where
  -- the trailer of an entry that lies there, with what reading it answers
  abbrev pub trailer_behind : ℕ → ℕ → Records → Trailer
  trailer_behind entries places e = trailer_with entries places e (totals_or (reads e))

  -- entries with their trailers as they lie; the list has the newest first
  unfoldable pub laid : List Records → Records
  laid [] = []
  laid (e ∷ es) = laid es ++ (e ++ trailer_of (trailer_behind (length es) (length (laid es)) e) ∷ [])

  -- the same for a list that has the first entry first
  abbrev pub lay : List Records → Records
  lay es = laid (reverse es)

  -- entries laid one after the other, behind so many entries in so many records
  unfoldable pub lay_from : ℕ → ℕ → List Records → Records
  lay_from k places [] = []
  lay_from k places (e ∷ es) = (e ++ trailer_of (trailer_behind k places e) ∷ []) ++ lay_from (k + 1) (places + length e + 1) es

  -- what stands behind the entries
  abbrev pub tail : Standing → List Records → Records
  tail s es = closing_behind s (length es) (length (lay es))

  -- the volume of these entries, open or closed
  abbrev pub volume : Standing → List Records → Records
  volume s es = lay es ++ tail s es

-- an entry as it was found on a shelf, and the trailer behind it
pub record Part : Type 0 where
  pub entry : Records
  pub trailer : Trailer

-- going on from a right trailer, or the fault
abbrev pub after_trailer : Option Trailer → VolumeFault → (Trailer → Result (List Part) VolumeFault) → Result (List Part) VolumeFault
after_trailer (Some t) e f = f t
after_trailer None e f = Err e

-- one part more: the records between the previous trailer and this one, which is record i + 1
abbrev pub before : Records → ℕ → Trailer → List Part → Result (List Part) VolumeFault
before rs i t ps = Ok (record { entry = between t.previous i rs; trailer = t } ∷ ps)

-- the parts in the records up to a number, from trailer to trailer back to the start, the newest first; refused with the shelf number
-- where no right trailer is. The last argument bounds the steps: the first number itself is enough, since each trailer lies lower.
unfoldable pub walk : Records → ℕ → ℕ → Result (List Part) VolumeFault
walk rs zero n = Ok []
walk rs (suc i) zero = Err (NoTrailer (suc i))
walk rs (suc i) (suc n) =
    after_trailer (read_trailer (slice_index_or rs i []) (suc i)) (NoTrailer (suc i)) (λ t. then (walk rs t.previous n) (before rs i t))

abbrev pub same_totals : Totals → Totals → Bool
same_totals x y =
    (x.payments == y.payments) && (x.deductions == y.deductions && (x.sek == y.sek && x.eur == y.eur))

-- whether the trailer has the entry's number and the totals that were read
abbrev pub agrees : ℕ → Part → Totals → Bool
agrees k p t = p.trailer.entry == k && same_totals p.trailer.totals t

-- entry k read, and compared with its trailer
abbrev pub compared : ℕ → Part → Result Totals FileFault → Result (Unit {0}) VolumeFault
compared k p (Ok t) = cond (agrees k p t) (Ok tt) (Err (Differs k))
compared k p (Err cause) = Err (Unreadable k cause)

-- each entry read and compared with its trailer, from entry 1 on; the list has the newest first
unfoldable pub judge : Reads → List Part → Result (Unit {0}) VolumeFault
judge reads [] = Ok tt
judge reads (p ∷ ps) = then (judge reads ps) (λ _. compared (suc (length ps)) p (reads p.entry))

abbrev pub judged : Reads → (List Part → Result Opened VolumeFault) → List Part → Result Opened VolumeFault
judged reads end ps = then (judge reads ps) (λ _. end ps)

-- whether a record is taken for a closing record: it begins with `98`
abbrev pub begins_98 : List ℕ → Bool
begins_98 r = slice_index r 0 == 57 && slice_index r 1 == 56

-- the last record of a shelf, empty where there is none
abbrev pub last_of : Records → List ℕ
last_of rs = slice_index_or rs (length rs - 1) []

-- the shelf number of the last trailer of a volume with so many records
abbrev pub last_trailer : Standing → ℕ → ℕ
last_trailer Open count = count
last_trailer Closed count = count - 1

-- what opening answers of the parts on a shelf with so many records
abbrev pub found : Standing → ℕ → List Part → Opened
found s count ps = record { entries = length ps; last = last_trailer s count; standing = s }

-- the end of an open volume: one place is free, so that it can be closed
abbrev pub ends_open : ℕ → Records → List Part → Result Opened VolumeFault
ends_open limit rs ps = cond (nat_lt (length rs) limit) (Ok (found Open (length rs) ps)) (Err NoRoom)

-- the end of a closed volume: the closing record has the number of entries, and its zeros
abbrev pub ends_closed : Records → List Part → Result Opened VolumeFault
ends_closed rs ps = cond (closing_says (last_of rs) (length ps)) (Ok (found Closed (length rs) ps)) (Err ClosingDiffers)

abbrev pub opening_open : Reads → ℕ → Records → Result Opened VolumeFault
opening_open reads limit rs = then (walk rs (length rs) (length rs)) (judged reads (ends_open limit rs))

abbrev pub opening_closed : Reads → Records → Result Opened VolumeFault
opening_closed reads rs =
    cond (right_closing (last_of rs) (length rs))
    (then (walk rs (length rs - 1) (length rs - 1)) (judged reads (ends_closed rs)))
    (Err (NoTrailer (length rs)))

-- what opening a shelf with this limit and these records answers; an empty shelf is an empty open volume
unfoldable pub opening : Reads → ℕ → Records → Result Opened VolumeFault
opening reads limit rs = cond (begins_98 (last_of rs)) (opening_closed reads rs) (opening_open reads limit rs)

-- the shelf number where the last trailer is due
abbrev pub top_of : Records → ℕ
top_of rs = cond (begins_98 (last_of rs)) (length rs - 1) (length rs)

abbrev pub parts_or : Result (List Part) VolumeFault → List Part
parts_or (Ok ps) = ps
parts_or (Err e) = []

abbrev pub entry_of : Part → Records
entry_of p = p.entry

-- the entries that are found on a shelf, the first one first
abbrev pub entries_of : Records → List Records
entries_of rs = reverse (map entry_of (parts_or (walk rs (top_of rs) (top_of rs))))
