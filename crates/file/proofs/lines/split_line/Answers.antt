use Rattle.file.proofs.LineSlots.{line_is_first}
use Rattle.file.proofs.lines.split_line.Goals as goal

pub returns : goal.returns
returns c = line_is_first c.args.bytes.now _ _ _ _ _ c.in_ok-end.ensures.value c.width.ensures c.split_at.ensures.front c.in_ok-first_chunk.ensures.cases.same c.split_at.ensures.back
