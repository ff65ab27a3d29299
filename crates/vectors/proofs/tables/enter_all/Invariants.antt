use Rattle.std.proofs.Common.{◌≡◌, [], length, take, drop}
use Rattle.sums.specs.Laws.{run}
use Rattle.vectors.proofs.tables.enter_all.Given as goal

abbrev pub invariant-loop-entry : goal.invariant-loop-entry
invariant-loop-entry g l = record {
  lender : l.table.rows.ghost_name ≡ l.initial.table.rows.ghost_name;
  room : length l.table.rows.now ≡ length l.initial.table.rows.now;
  rest : run g.K.Key.same (length l.initial.table.rows.now) (take l.table.used l.table.rows.now) (drop l.entry-index l.entries) ≡ run g.K.Key.same (length l.initial.table.rows.now) [] l.entries;
}
