use Rattle.filing.specs.Entries.{reads}
use Rattle.filing.specs.Volumes.{judge}
use Rattle.entries.specs.Walks.{parts_below, numbered}
use Rattle.entries.proofs.Walks.{Ahead, Judging}
use Rattle.entries.proofs.walking.Walk.judge.Given as goal

abbrev pub invariant-loop-number : goal.invariant-loop-number
invariant-loop-number g l =
    Ahead (g.S.Shelf.records l.shelf) (numbered (parts_below (g.S.Shelf.records l.number-iterator.shelf.now) l.number-iterator.at)) (Judging reads l.answer (judge reads (parts_below (g.S.Shelf.records l.fn.self.shelf.now) l.fn.self.at)))
