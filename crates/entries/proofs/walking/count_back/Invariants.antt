use Rattle.std.proofs.Common.{◌≡◌, ◌+◌, ◌≤◌}
use Rattle.filing.specs.Volumes.{walk}
use Rattle.entries.specs.Walks.{counted_from, counted}
use Rattle.entries.proofs.walking.count_back.Given as goal

-- what is left gives the whole, and no more entries were met than records
abbrev pub invariant-loop-at : goal.invariant-loop-at
invariant-loop-at g l =
    let rs = g.S.Shelf.records l.shelf in
    (l.entries + l.at ≤ l.top) × (counted_from l.entries (walk rs l.at l.at) ≡ counted (walk rs l.top l.top))

abbrev pub decreases-loop-at : goal.decreases-loop-at
decreases-loop-at g l = l.at
