use Rattle.std.proofs.Common.{length, ap, arith}
use Rattle.entries.proofs.Walks.{none_below, not_none, stepped}
use Rattle.entries.proofs.walking.WalkIterator.next.Goals as goal

pub returns-then-self-eq0-clause-steps : goal.returns-then-self-eq0-clause-steps
returns-then-self-eq0-clause-steps g c = let none = none_below _ _ c.if-self-eq0.true in (none, none)

pub returns-in_err-trailer-clause-steps : goal.returns-in_err-trailer-clause-steps
returns-in_err-trailer-clause-steps g c = absurd (not_none _ _ _ c.if-self-eq0.false c.args.self.now.walked c.trailer_at.ensures.is c.in_err-trailer.was)

pub overflow_sub-self : goal.overflow_sub-self
overflow_sub-self g c = (stepped c.if-self-eq0.false c.args.self.now.walked c.in_ok-trailer.ensures.is).some

pub invariant_of-self-clause-walked : goal.invariant_of-self-clause-walked
invariant_of-self-clause-walked g c = (stepped c.if-self-eq0.false c.args.self.now.walked c.in_ok-trailer.ensures.is).walked

pub returns-clause-steps : goal.returns-clause-steps
returns-clause-steps g c = (stepped c.if-self-eq0.false c.args.self.now.walked c.in_ok-trailer.ensures.is).trailers

pub returns-clause-goes : goal.returns-clause-goes
returns-clause-goes g c =
    let below = stepped c.if-self-eq0.false c.args.self.now.walked c.in_ok-trailer.ensures.is in
    record { on = λ _. (tt, tt, omega (arith, ap length below.trailers)); keeps = tt; rests = λ _. tt }
