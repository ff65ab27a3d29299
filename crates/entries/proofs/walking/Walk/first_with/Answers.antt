use Rattle.std.proofs.Common.{true, false, rules}
use Rattle.entries.specs.Walks.{part_of}
use Rattle.entries.proofs.EntryStamps.{seeking_begun, seeking_step}
use Rattle.entries.proofs.Walks.{ended, inside, step}
use Rattle.entries.proofs.walking.Walk.first_with.Goals as goal

pub loop-number-init : goal.loop-number-init
loop-number-init g c = search (rules, seeking_begun)

pub has_same-requires : goal.has_same-requires
has_same-requires g c = inside _ _ _ c.loop-number.invariant _ _ _ c.in-Some.ensures.steps

pub loop-number-preserved-then-has_same : goal.loop-number-preserved-then-has_same
loop-number-preserved-then-has_same g c = step _ _ _ c.loop-number.invariant _ _ _ c.in-Some.ensures.steps _ (seeking_step _ _ (part_of _ c.in-Some.trailer) true _ _ c.if-has_same.ensures)

pub loop-number-preserved : goal.loop-number-preserved
loop-number-preserved g c = step _ _ _ c.loop-number.invariant _ _ _ c.in-Some.ensures.steps _ (seeking_step _ _ (part_of _ c.in-Some.trailer) false _ _ c.if-has_same.ensures)

pub returns : goal.returns
returns g c = ended _ _ _ c.loop-number.invariant c.in-None.ensures.steps.0
