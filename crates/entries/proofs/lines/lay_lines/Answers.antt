use Rattle.std.proofs.Common.{◌≤◌, ◌++◌, length, ◌∙◌, arith, length-append, rules}
use Rattle.manual.specs.Slots.{slots}
use Rattle.manual.specs.Slots.{front}
use Rattle.entries.proofs.FileLines.{laid_line}
use Rattle.entries.proofs.lines.lay_lines.Goals as goal

pub loop-line-preserved : goal.loop-line-preserved
loop-line-preserved g c =
    let s = g.S.Shelf in
    let rs = s.records c.args.shelf.now in
    let es = front (slots c.args.file.now) in
    let few : length (rs ++ es) ≤ s.room c.loop-line.shelf = omega (arith, length-append rs es) in (
      laid_line (rs ++ es) (s.records c.loop-line.shelf) _ _ _ _ _ c.loop-line.invariant.0 few (search rules) c.add.ensures.list,
      c.add.ensures.limit ∙ c.loop-line.invariant.1,
      s.laws.same_trans _ _ _ c.loop-line.invariant.2 c.add.ensures.same,
    )
