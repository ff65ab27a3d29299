-- What the commands at a shelf leave of its records and of its volume, and when they may be said to be done. What they print, and what is in a file that they
-- read, no term can say.
use Rattle.std.specs.Prelude.{◌≡◌, ℕ, ◌⊎◌, List, true, is_ok, Ok, Result, ⊤}
use Rattle.field.specs.Chains.{then}
use Rattle.record.specs.declared.rows.Row.{Row}
use Rattle.record.specs.Editions.{Meaning}
use Rattle.manual.specs.Slots.{front}
use Rattle.manual.specs.Judging.{check_of}
use Rattle.manual.specs.Laws.{judging}
use Rattle.manual.specs.Slots.{slots}
use Rattle.filing.specs.declared.faults.VolumeFault.{VolumeFault}
use Rattle.filing.specs.Volumes.{Records, entries_of}
use Rattle.report.specs.Copies.{copied}
use Rattle.report.specs.Rows.{rows_of}
use Rattle.showing.specs.Showing.{passed}
use Rattle.volume.specs.Taking.{fetched}
use Rattle.volume.specs.declared.tokens.Volume.{Volume}
use Rattle.archive.specs.declared.NotLaid.{NotLaid}
use Rattle.tifrozel.specs.declared.requests.AtShelf.{AtShelf}
use Rattle.tifrozel.specs.declared.requests.AtShelf.TheVariants.{Open, TakeIn, Close, Show, Fetch, Balance, Plain}
use Rattle.tifrozel.specs.declared.words.EditionName.{EditionName}
use Rattle.archive.specs.Archives.{taking_answer, taking_records, taking_volume, closing_answer, closing_records, closing_volume}
use Rattle.tifrozel.specs.Editions.{meant}

-- whether the command can lay something, and so leave what could not be written
abbrev pub Lays : AtShelf → Type 0
Lays Open = ⊥
Lays (TakeIn f) = ⊤
Lays Close = ⊤
Lays (Show a) = ⊥
Lays (Fetch k n) = ⊥
Lays Balance = ⊥
Lays (Plain a path) = ⊥

-- taking in a file of these bytes under this edition, with so many rows for payers, in an archive with this limit: what is answered
abbrev pub file_answer : ℕ → EditionName → List ℕ → ℕ → Records → Volume → Result ℕ NotLaid
file_answer payers edition bytes limit rs v = taking_answer (check_of (judging payers) (meant edition) bytes) limit rs v (front (slots bytes))

-- and what is left
abbrev pub LeavesTaking : ℕ → EditionName → List ℕ → ℕ → Records → Volume → Records → Volume → Type 0
LeavesTaking payers edition bytes limit rs v after w =
    let answer = file_answer payers edition bytes limit rs v in
    (after ≡ taking_records answer rs v (front (slots bytes))) × (w ≡ taking_volume answer rs v (front (slots bytes)))

-- nothing is changed
abbrev pub Kept : Records → Volume → Records → Volume → Type 0
Kept rs v after w = (after ≡ rs) × (w ≡ v)

-- closing: the closing record was laid, or nothing changed as the volume was closed
abbrev pub LeavesClosing : Records → Volume → Records → Volume → Type 0
LeavesClosing rs v after w = (after ≡ closing_records v rs) × (w ≡ closing_volume v)

-- the rows of entry k under an edition, or why it is not shown: never that the table is short, as it has a row for each record
abbrev pub entry_rows : Meaning → ℕ → List Records → Result (List Row) VolumeFault
entry_rows m k es = then (passed m k es) (λ e. Ok (rows_of m e))

-- the bytes of its plain copy, or why it is not copied
abbrev pub entry_copy : Meaning → ℕ → List Records → Result (List ℕ) VolumeFault
entry_copy m k es = then (passed m k es) (λ e. Ok (copied m e))

-- a command, with so many rows for payers, in an archive with this limit: taking in leaves what taking in the
-- bytes that were read leaves, under the edition that was asked for, or nothing is changed where they could not be read; but for closing the
-- others change nothing
abbrev pub Leaves : AtShelf → ℕ → ℕ → Records → Volume → Records → Volume → Type 0
Leaves Open payers limit rs v after w = Kept rs v after w
Leaves (TakeIn f) payers limit rs v after w = Kept rs v after w ⊎ ((bytes : List ℕ) × LeavesTaking payers f.edition bytes limit rs v after w)
Leaves Close payers limit rs v after w = LeavesClosing rs v after w
Leaves (Show a) payers limit rs v after w = Kept rs v after w
Leaves (Fetch k n) payers limit rs v after w = Kept rs v after w
Leaves Balance payers limit rs v after w = Kept rs v after w
Leaves (Plain a path) payers limit rs v after w = Kept rs v after w

-- when a command may be said to be done: taking in where some bytes were read and their file was taken in, closing where the volume was open, fetching where
-- there is such a record, showing and the plain copy where the entry can be read under the edition that was asked for; balancing is never refused
abbrev pub Does : AtShelf → ℕ → ℕ → Records → Volume → Type 0
Does Open payers limit rs v = ⊤
Does (TakeIn f) payers limit rs v = (bytes : List ℕ) × (is_ok (file_answer payers f.edition bytes limit rs v) ≡ true)
Does Close payers limit rs v = is_ok (closing_answer v) ≡ true
Does (Show a) payers limit rs v = is_ok (entry_rows (meant a.edition) a.entry (entries_of rs)) ≡ true
Does (Fetch k n) payers limit rs v = is_ok (fetched k n (entries_of rs)) ≡ true
Does Balance payers limit rs v = ⊤
Does (Plain a path) payers limit rs v = is_ok (entry_copy (meant a.edition) a.entry (entries_of rs)) ≡ true
