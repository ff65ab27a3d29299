use Rattle.std.proofs.Common.{◌≡◌, take, replicate}
use Rattle.sums.specs.Table.{zero_row}
use Rattle.sums.proofs.empty.Given as goal

abbrev pub invariant-loop-row : goal.invariant-loop-row
invariant-loop-row g l = take l.row-index l.rows ≡ replicate l.row-index (zero_row g.K.Key.zero)
