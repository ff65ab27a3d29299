use Rattle.std.proofs.Common.{length}
use Rattle.entries.proofs.FileLines.{Measuring}
use Rattle.manual.specs.Slots.{slots}
use Rattle.entries.proofs.lines.measure_lines.Given as goal

abbrev pub invariant-loop-line : goal.invariant-loop-line
invariant-loop-line l = Measuring (length l.file) (slots l.file) (slots l.line-iterator.rest.now) l.records l.deposits
