-- A record read by itself: no order, sum or count is judged.
use Rattle.std.specs.Prelude.{◌≡◌, ℕ, ◌+◌, ◌<◌, List, [], length, drop, Some, None, Ok, Err, Option, Result}
use Rattle.std.specs.List.{between}
use Rattle.record.specs.declared.classes.Class.{Class}
use Rattle.record.specs.declared.faults.RecordFault.{RecordFault}
use Rattle.record.specs.declared.lines.LineEnd.{LineEnd}
use Rattle.record.specs.Classes.{class_of}
use Rattle.record.specs.Editions.{Meaning}
use Rattle.record.specs.Lines.{cut, width}
use Rattle.record.specs.Refusals.{sound}
use Rattle.manual.specs.declared.faults.Cause.{Cause}
use Rattle.manual.specs.declared.faults.Cause.TheVariants.{Broken, Unreadable}
use Rattle.manual.specs.declared.faults.FileFault.{FileFault}
use Rattle.file.specs.declared.single.One.{One}
use Rattle.file.specs.Numbering.{numbered}

-- the record whose line has w bytes, or why it cannot be read
abbrev pub with_width : ℕ → Result Class RecordFault → Result One Cause
with_width w (Ok c) = Ok (record { class = c; width = w })
with_width w (Err e) = Err (Unreadable e)

-- the first 80 bytes as a record, where they are a whole line
abbrev pub on_line : Meaning → List ℕ → Option LineEnd → Result One Cause
on_line m bs None = Err Broken
on_line m bs (Some end) = with_width (width end) (sound (class_of m (between 0 80 bs)))

-- the first record of the bytes
abbrev pub one_of : Meaning → List ℕ → Result One Cause
one_of m bs = on_line m bs (cut bs)

-- reading record by record from the bytes, of which n records stand before: how many can be read, and what then ends it before the end of the bytes
pub data Listed (m : Meaning) : ℕ → List ℕ → ℕ → Option FileFault → Type 0 where
  done : (n : ℕ) → Listed m n [] n None
  stop : (n : ℕ) (bs : List ℕ) (f : FileFault) → 0 < length bs → numbered (n + 1) (one_of m bs) ≡ Err f → Listed m n bs n (Some f)
  next : (n : ℕ) (bs : List ℕ) (one : One) (k : ℕ) (end : Option FileFault) → 0 < length bs → numbered (n + 1) (one_of m bs) ≡ Ok one
      → Listed m (n + 1) (drop one.width bs) k end → Listed m n bs k end
