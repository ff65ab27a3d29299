use Rattle.std.proofs.Common.{length, ap, arith}
use Rattle.file.proofs.LineSlots.{no_slots, slots-line, slots-broken}
use Rattle.file.proofs.lines.LinesIterator.next.Goals as goal

pub returns-then-is_empty-clause-steps : goal.returns-then-is_empty-clause-steps
returns-then-is_empty-clause-steps c = let none = no_slots _ c.if-is_empty.ensures in (none, none)

pub returns-in-Some-clause-steps : goal.returns-in-Some-clause-steps
returns-in-Some-clause-steps c = slots-line _ _ _ c.in-Some.ensures

pub returns-in-Some-clause-goes : goal.returns-in-Some-clause-goes
returns-in-Some-clause-goes c =
    let one = slots-line c.args.self.now.rest.now c.in-Some.record.now c.in-Some.rest.now c.in-Some.ensures in
    record { on = λ _. (tt, tt, omega (arith, ap length one)); keeps = tt; rests = λ _. tt }

pub returns-in-None-clause-steps : goal.returns-in-None-clause-steps
returns-in-None-clause-steps c = slots-broken _ c.if-is_empty.ensures c.in-None.ensures

pub returns-in-None-clause-goes : goal.returns-in-None-clause-goes
returns-in-None-clause-goes c =
    let one = slots-broken c.args.self.now.rest.now c.if-is_empty.ensures c.in-None.ensures in
    record { on = λ _. (tt, tt, omega (arith, ap length one)); keeps = tt; rests = λ _. tt }
