use Rattle.std.proofs.Common.{◌≡◌, [], length, take, drop}
use Rattle.sums.specs.Laws.{run}
use Rattle.report.specs.Pairs.{same_pair, no_pair}
use Rattle.report.specs.Balances.{moves_from}
use Rattle.balancing.proofs.table.enter_all.Given as goal

abbrev pub invariant-loop-i : goal.invariant-loop-i
invariant-loop-i g l = record {
  lender : l.table.rows.ghost_name ≡ l.initial.table.rows.ghost_name;
  room : length l.table.rows.now ≡ length l.initial.table.rows.now;
  rest : run same_pair (length l.initial.table.rows.now) (take l.table.used l.table.rows.now) (moves_from l.pair (drop l.i (g.S.Shelf.records l.shelf)))
      ≡ run same_pair (length l.initial.table.rows.now) [] (moves_from no_pair (g.S.Shelf.records l.shelf));
}
