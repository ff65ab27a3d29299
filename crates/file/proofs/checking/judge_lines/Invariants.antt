use Rattle.std.proofs.Common.{◌≡◌, ◌≤◌, length, take}
use Rattle.manual.specs.Judging.{judge, check_of}
use Rattle.manual.specs.Laws.{judging}
use Rattle.manual.specs.Slots.{slots}
use Rattle.file.specs.Judges.{held_by}
use Rattle.file.proofs.checking.judge_lines.Given as goal

-- what is left of the lines gives the whole answer
abbrev pub invariant-loop-line : goal.invariant-loop-line
invariant-loop-line g l =
    (length l.judge.payers.rows.now ≡ length l.fn.payers)
    × (l.number ≤ 50001)
    × (judge (judging (length l.fn.payers)) (g.E.Edition.meaning l.edition) l.number (held_by l.judge (take l.judge.payers.used l.judge.payers.rows.now)) (slots l.line-iterator.rest.now) ≡ check_of (judging (length l.fn.payers)) (g.E.Edition.meaning l.edition) l.file)
