use Rattle.std.proofs.Common.{◌≡◌, ◌+◌, []}
use Rattle.std.specs.List.{between}
use Rattle.record.specs.Editions.{bare}
use Rattle.manual.specs.Judging.{begin, judge}
use Rattle.manual.specs.Laws.{not_judging}
use Rattle.file.specs.Judges.{held_by}
use Rattle.filing.specs.Entries.{entry_slots, deposits_from, no_deposits}
use Rattle.entries.proofs.Entries.{left_from}
use Rattle.entries.proofs.reading.read_entry.Given as goal

-- what is left of the entry gives the whole answer, and the whole sums
abbrev pub invariant-loop-i : goal.invariant-loop-i
invariant-loop-i g l =
    let rs = g.S.Shelf.records l.shelf in
    let es = between l.before (l.before + l.count) rs in
    let left = left_from rs l.before l.count (l.i + 1) in
    (judge not_judging bare (l.i + 1) (held_by l.judge []) (entry_slots left) ≡ judge not_judging bare 1 begin (entry_slots es))
    × (deposits_from l.deposits left ≡ deposits_from no_deposits es)
