-- Lines: a whole record is 80 text bytes, and ends with LF or CR LF.
use Rattle.std.specs.Prelude.{ℕ, cond, ◌&&◌, List, length, take, drop, Some, None, Option, ◌==◌, nat_le, slice_index}
use Rattle.field.specs.Bytes.{is_text, every}
use Rattle.record.specs.declared.lines.LineEnd.{LineEnd}
use Rattle.record.specs.declared.lines.LineEnd.TheVariants.{Lf, CrLf}

-- the line end with which the bytes begin: 10, or 13 and 10
abbrev pub line_end : List ℕ → Option LineEnd
line_end bs = cond (slice_index bs 0 == 10) (Some Lf) (cond (slice_index bs 0 == 13 && slice_index bs 1 == 10) (Some CrLf) None)

-- how the first line of the bytes ends, if it is a whole record
abbrev pub cut : List ℕ → Option LineEnd
cut bs = cond (nat_le 80 (length bs) && every is_text (take 80 bs)) (line_end (drop 80 bs)) None

-- the bytes of a record with its line end
abbrev pub width : LineEnd → ℕ
width Lf = 81
width CrLf = 82
