use Rattle.entries.specs.Walks.{parts_below, numbered}
use Rattle.entries.proofs.EntryStamps.{Seeking, first_in}
use Rattle.entries.proofs.Walks.{Ahead}
use Rattle.entries.proofs.walking.Walk.first_with.Given as goal

abbrev pub invariant-loop-number : goal.invariant-loop-number
invariant-loop-number g l =
    let rs = g.S.Shelf.records l.shelf in
    Ahead rs (numbered (parts_below (g.S.Shelf.records l.number-iterator.shelf.now) l.number-iterator.at)) (Seeking l.start l.found (first_in l.start (parts_below (g.S.Shelf.records l.fn.self.shelf.now) l.fn.self.at)))
