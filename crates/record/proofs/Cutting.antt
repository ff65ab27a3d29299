-- Whether the first line is a whole record, test by test.
use Rattle.std.proofs.Common.{◌≡◌, ℕ, ◌-◌, ◌≤◌, true, List, length, take, drop, Option, sym, ap, ◌∙◌}
use Rattle.std.proofs.lemmas.List.{take_rest}
use Rattle.std.proofs.lemmas.Bool.{le-leb}
use Rattle.field.specs.Bytes.{is_text, every}
use Rattle.record.specs.declared.lines.LineEnd.{LineEnd}
use Rattle.record.specs.Lines.{cut, line_end}

pub whole_line : (bs : List ℕ) (r : Option LineEnd) → 80 ≤ length bs → every is_text (take 80 bs) ≡ true → r ≡ line_end (take (length bs - 80) (drop 80 bs)) → r ≡ cut bs
whole_line bs r h t e = e ∙ ap line_end (take_rest bs 80) ∙ sym (rw (le-leb 80 (length bs) h, t))
