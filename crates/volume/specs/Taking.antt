-- Taking a file in, closing, fetching: what they answer, and what shelf and token are afterwards.
use Rattle.std.specs.Prelude.{ℕ, ◌+◌, ◌-◌, Bool, cond, ◌&&◌, List, [], length, Ok, Err, Result, nat_le, slice_index_or}
use Rattle.field.specs.Chains.{then}
use Rattle.record.specs.declared.fields.End.{End}
use Rattle.manual.specs.declared.faults.FileFault.{FileFault}
use Rattle.filing.specs.declared.faults.VolumeFault.{VolumeFault}
use Rattle.filing.specs.declared.faults.VolumeFault.TheVariants.{NoEntry}
use Rattle.filing.specs.Entries.{reads}
use Rattle.filing.specs.Volumes.{Records, entries_of}
use Rattle.filing.specs.Laws.{taken}
use Rattle.filing.specs.Taking.{by_file, admitted}
use Rattle.volume.specs.declared.tokens.OpenVolume.{OpenVolume}

-- taking in, given what checking the file answers and its records e: the file's refusals, then those of the volume, or the entry's number
abbrev pub take_answer : Result End FileFault → ℕ → Records → OpenVolume → Records → Result ℕ VolumeFault
take_answer checked limit rs t e =
    then (by_file checked) (λ _. then (admitted limit (length rs) (entries_of rs) e) (λ _. Ok (t.entries + 1)))

-- the records of the shelf afterwards: the file's records and their trailer behind the others; at a refusal as they were
abbrev pub take_records : Result ℕ VolumeFault → Records → OpenVolume → Records → Records
take_records (Ok k) rs t e = taken reads t.entries rs e
take_records (Err f) rs t e = rs

-- the token afterwards: one entry more; at a refusal as it was
abbrev pub take_token : Result ℕ VolumeFault → Records → OpenVolume → Records → OpenVolume
take_token (Ok k) rs t e = record { entries = t.entries + 1; last = length rs + length e + 1 }
take_token (Err f) rs t e = t

-- whether k is the number of one of so many, counted from 1
abbrev pub numbered_in : ℕ → ℕ → Bool
numbered_in k many = nat_le 1 k && nat_le k many

-- record n of an entry; refused where there is none
abbrev pub in_entry : ℕ → ℕ → Records → Result (List ℕ) VolumeFault
in_entry k n e = cond (numbered_in n (length e)) (Ok (slice_index_or e (n - 1) [])) (Err (NoEntry k))

-- record n of entry k, or the refusal with the entry that was asked for
abbrev pub fetched : ℕ → ℕ → List Records → Result (List ℕ) VolumeFault
fetched k n es = cond (numbered_in k (length es)) (in_entry k n (slice_index_or es (k - 1) [])) (Err (NoEntry k))

-- fetching answers nothing but whether it is refused
abbrev pub fetch_answer : Result (List ℕ) VolumeFault → Result (Unit {0}) VolumeFault
fetch_answer (Ok r) = Ok tt
fetch_answer (Err e) = Err e

-- the caller's 80 bytes afterwards: the record, or what they held
abbrev pub fetch_bytes : Result (List ℕ) VolumeFault → List ℕ → List ℕ
fetch_bytes (Ok r) out = r
fetch_bytes (Err e) out = out
