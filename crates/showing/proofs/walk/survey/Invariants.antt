use Rattle.std.proofs.Common.{◌≡◌, ◌+◌, ◌≤◌, length}
use Rattle.std.specs.List.{between}
use Rattle.entries.proofs.Entries.{left_from}
use Rattle.report.specs.Copies.{plain_records}
use Rattle.report.specs.Faults.{fault_from, first_fault}
use Rattle.showing.proofs.walk.survey.Given as goal

-- what is left of the entry has the first fault of all, and the core records and riders that are not counted yet
abbrev pub invariant-loop-i : goal.invariant-loop-i
invariant-loop-i g l =
    let rs = g.S.Shelf.records l.shelf in
    let m = g.E.Edition.meaning l.edition in
    let es = between l.before (l.before + l.count) rs in
    let left = left_from rs l.before l.count (l.i + 1) in
    (fault_from m l.level (l.i + 1) left ≡ first_fault m es)
    × (l.rows + length (plain_records m left) ≡ length (plain_records m es))
    × (l.rows + length left ≤ length es)
