use Rattle.std.proofs.Common.{ℕ, ◌+◌}
use Rattle.std.specs.List.{between}
use Rattle.entries.proofs.Entries.{left_from}
use Rattle.report.specs.Copies.{copied}
use Rattle.showing.proofs.Filling.{Filling}
use Rattle.showing.proofs.copying.write.Given as goal

-- the bytes written so far and those of what is left are all, and the rest of the buffer is as it was
abbrev pub invariant-loop-i : goal.invariant-loop-i
invariant-loop-i g l =
    let rs = g.S.Shelf.records l.shelf in
    let m = g.E.Edition.meaning l.edition in
    Filling ℕ (copied m (between l.before (l.before + l.count) rs)) l.fn.buffer l.buffer l.filled (copied m (left_from rs l.before l.count (l.i + 1)))
