use Rattle.std.proofs.Common.{rules}
use Rattle.entries.proofs.Walks.{ended, inside, step, judging_begun, judging_ended, judging_step}
use Rattle.entries.proofs.walking.Walk.judge.Goals as goal

pub loop-number-init : goal.loop-number-init
loop-number-init g c = search (rules, judging_begun)

pub judge_one-requires : goal.judge_one-requires
judge_one-requires g c = inside _ _ _ c.loop-number.invariant _ _ _ c.in-Some.ensures.steps

pub loop-number-preserved : goal.loop-number-preserved
loop-number-preserved g c = let on = step _ _ _ c.loop-number.invariant _ _ _ c.in-Some.ensures.steps _ (judging_step _ _ _ c.judge_one.result _ _ c.judge_one.ensures) in search rules

pub returns : goal.returns
returns g c = judging_ended _ _ _ (ended _ _ _ c.loop-number.invariant c.in-None.ensures.steps.0)
