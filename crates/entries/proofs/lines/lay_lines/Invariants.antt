use Rattle.std.proofs.Common.{◌≡◌, ◌++◌}
use Rattle.manual.specs.Slots.{slots}
use Rattle.manual.specs.Slots.{front}
use Rattle.entries.proofs.lines.lay_lines.Given as goal

-- what was laid and what is left are the whole, on the same shelf
abbrev pub invariant-loop-line : goal.invariant-loop-line
invariant-loop-line g l =
    let s = g.S.Shelf in
    (s.records l.shelf ++ front (slots l.line-iterator.rest.now) ≡ s.records l.initial.shelf ++ front (slots l.file))
    × (s.room l.shelf ≡ s.room l.initial.shelf)
    × s.same l.initial.shelf l.shelf
