use Rattle.std.proofs.Common.{rules}
use Rattle.record.proofs.Cutting.{whole_line}
use Rattle.record.proofs.lines.cut.Goals as goal

pub returns-clause-value : goal.returns-clause-value
returns-clause-value c = search (rules, whole_line)
