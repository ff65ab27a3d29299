-- What is done at an archive: on an open volume the volume's own call, on a closed one nothing.
use Rattle.std.specs.Prelude.{ℕ, ◌+◌, ◌-◌, cond, List, [], length, Some, None, Ok, Err, Option, Result, slice_index_or, Contains, ⊤}
use Rattle.record.specs.declared.fields.End.{End}
use Rattle.manual.specs.declared.faults.FileFault.{FileFault}
use Rattle.filing.specs.declared.faults.VolumeFault.{VolumeFault}
use Rattle.filing.specs.Entries.{reads}
use Rattle.filing.specs.Refusals.{number_told}
use Rattle.filing.specs.Volumes.{Records}
use Rattle.filing.specs.Laws.{taken, closed}
use Rattle.volume.specs.declared.tokens.Volume.{Volume}
use Rattle.volume.specs.declared.tokens.Volume.TheVariants as volume
use Rattle.volume.specs.Taking.{take_answer, numbered_in}
use Rattle.volume.specs.Tokens.{says}
use Rattle.archive.specs.declared.NotLaid.{NotLaid}
use Rattle.archive.specs.declared.NotLaid.TheVariants.{Closed, Refused}

-- the volume's answer, as the archive gives it
abbrev pub archive_answer : Result ℕ VolumeFault → Result ℕ NotLaid
archive_answer (Ok k) = Ok k
archive_answer (Err e) = Err (Refused e)

-- nothing was laid as the volume is closed, or by a refusal with one of these numbers
abbrev pub ToldBy : List ℕ → NotLaid → Type 0
ToldBy numbers Closed = ⊤
ToldBy numbers (Refused f) = Contains numbers (number_told f)

-- taking in: what is answered, given what checking the file answers and its records e
abbrev pub taking_answer : Result End FileFault → ℕ → Records → Volume → Records → Result ℕ NotLaid
taking_answer checked limit rs (volume.Open t) e = archive_answer (take_answer checked limit rs t e)
taking_answer checked limit rs (volume.Closed t) e = Err Closed

-- taking in: the records of the shelf afterwards, with the file's and their trailer behind the others, or as they were
abbrev pub taking_records : Result ℕ NotLaid → Records → Volume → Records → Records
taking_records (Ok k) rs v e = taken reads (says v).entries rs e
taking_records (Err f) rs v e = rs

-- taking in: the volume afterwards, open with one entry more, or as it was
abbrev pub taking_volume : Result ℕ NotLaid → Records → Volume → Records → Volume
taking_volume (Ok k) rs v e = volume.Open (record { entries = (says v).entries + 1; last = length rs + length e + 1 })
taking_volume (Err f) rs v e = v

-- closing: the number of entries, or that the volume is closed already
abbrev pub closing_answer : Volume → Result ℕ NotLaid
closing_answer (volume.Open t) = Ok t.entries
closing_answer (volume.Closed t) = Err Closed

-- closing: the records of the shelf afterwards, with the closing record last, or as they were
abbrev pub closing_records : Volume → Records → Records
closing_records (volume.Open t) rs = closed t.entries rs
closing_records (volume.Closed t) rs = rs

-- closing: the volume afterwards, closed
abbrev pub closing_volume : Volume → Volume
closing_volume (volume.Open t) = volume.Closed (record { entries = t.entries; last = t.last })
closing_volume (volume.Closed t) = volume.Closed t

-- how many records entry k has; none where there is no such entry
abbrev pub record_count : ℕ → List Records → Option ℕ
record_count k es = cond (numbered_in k (length es)) (Some (length (slice_index_or es (k - 1) []))) None
