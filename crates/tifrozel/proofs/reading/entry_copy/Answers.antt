use Rattle.std.proofs.Common.{◌≡◌, ◌*◌, length, sym, ap, ◌∙◌, rules}
use Rattle.filing.specs.Volumes.{entries_of}
use Rattle.volume.specs.Tokens.{says}
use Rattle.showing.specs.Showing.{copying, how_many}
use Rattle.tifrozel.proofs.Rooms.{rows_for, buffer_enough, not_filled}
use Rattle.tifrozel.proofs.reading.entry_copy.Goals as goal

pub returns-in-Err : goal.returns-in-Err
returns-in-Err g c =
    let m = g.E.Edition.meaning c.args.edition.now in
    let k = c.args.entry in
    let archive = c.args.archive.now in
    let rs = g.S.Shelf.records archive.shelf in
    let es = entries_of rs in
    let long : length c.deref_mut.result.now ≡ 82 * rows_for k es = search rules in
    let enough = buffer_enough m k rs (g.S.Shelf.room archive.shelf) (g.S.Shelf.laws.whole archive.shelf) (says archive.volume) archive.own c.records_of.result c.records_of.ensures.records c.records_of.ensures.run in
    sym enough ∙ not_filled (copying m k (82 * rows_for k es) es) c.in-Err.fault (c.in-Err.ensures.answer ∙ ap (λ n. how_many (copying m k n es)) long)
