use Rattle.std.proofs.Common.{◌≡◌, ◌-◌, ◌*◌, ◌++◌, length, take, drop}
use Rattle.shelf.specs.Records.{flat}
use Rattle.shelf.proofs.runs.read_range.Given as goal

abbrev pub invariant-loop-i : goal.invariant-loop-i
invariant-loop-i g l =
    (length l.item ≡ 80)
    × (l.out ≡ flat (take l.i (drop (l.n - 1) (g.S.Shelf.records l.shelf))) ++ drop (80 * l.i) l.initial.out)
