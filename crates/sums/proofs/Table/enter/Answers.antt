use Rattle.sums.proofs.Entries.{puts, refuses, adds}
use Rattle.sums.proofs.Table.enter.Goals as goal

pub returns-in-Some-clause-entered : goal.returns-in-Some-clause-entered
returns-in-Some-clause-entered g c =
    adds _ g.met.K.Key.lawful _ _ c.args.self.now.within c.args.entry _ c.rows.ensures _ c.index-self-i.result _ c.in-Some.ensures.within c.in-Some.ensures.first c.plus.ensures

pub returns-then-self-clause-entered : goal.returns-then-self-clause-entered
returns-then-self-clause-entered g c =
    refuses _ g.met.K.Key.lawful _ _ c.args.self.now.within c.args.entry _ c.rows.ensures c.in_default.ensures.first c.if-self.true

pub returns-clause-entered : goal.returns-clause-entered
returns-clause-entered g c =
    puts _ g.met.K.Key.lawful _ _ c.args.self.now.within c.args.entry _ c.rows.ensures c.in_default.ensures.first c.if-self.false
