-- Lines of a file, as code holds them.
use Rattle.std.specs.Prelude.{ℕ, List, take, drop, Ok, Err, Option, Result}
use Rattle.std.specs.Option.{option_map}
use Rattle.std.specs.Borrow.{Bor}
use Rattle.record.specs.Lines.{cut, width}
use Rattle.manual.specs.Slots.{Slot, whole, broken}
use Rattle.file.specs.declared.lines.Broken.{Broken}

-- the first line of the bytes, if it is a whole record, without its line end; and the bytes behind it
abbrev pub first_line : List ℕ → Option (List ℕ × List ℕ)
first_line bs = option_map (λ end. (take 80 bs, drop (width end) bs)) (cut bs)

-- what is lent of a line, and of what is behind it
abbrev pub line_parts : Bor (List ℕ) × Bor (List ℕ) → List ℕ × List ℕ
line_parts p = (p.0.now, p.1.now)

-- a line that was read is a whole record; bytes that are none are a broken slot
abbrev pub slot_in : Result (Bor (List ℕ)) Broken → Slot
slot_in (Ok line) = whole line.now
slot_in (Err e) = broken
