use Rattle.std.proofs.Common.{◌≡◌, ◌++◌, take}
use Rattle.shelf.proofs.runs.lay.Given as goal

abbrev pub invariant-loop-item : goal.invariant-loop-item
invariant-loop-item g l =
    let s = g.S.Shelf in
    (s.records l.shelf ≡ s.records l.initial.shelf ++ take l.item-index l.items)
    × (s.room l.shelf ≡ s.room l.initial.shelf)
    × s.same l.initial.shelf l.shelf
