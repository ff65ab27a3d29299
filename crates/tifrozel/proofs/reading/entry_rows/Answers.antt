use Rattle.std.proofs.Common.{◌≡◌, length, sym, ap, ◌∙◌, rules}
use Rattle.filing.specs.Volumes.{entries_of}
use Rattle.showing.specs.Showing.{shown, how_many}
use Rattle.tifrozel.proofs.Rooms.{rows_for, table_enough, not_filled}
use Rattle.tifrozel.proofs.reading.entry_rows.Goals as goal

pub returns-in-Err : goal.returns-in-Err
returns-in-Err g c =
    let m = g.E.Edition.meaning c.args.edition.now in
    let k = c.args.entry in
    let es = entries_of (g.S.Shelf.records c.args.archive.now.shelf) in
    let long : length c.deref_mut.result.now ≡ rows_for k es = search rules in
    sym (table_enough m k es) ∙ not_filled (shown m k (rows_for k es) es) c.in-Err.fault (c.in-Err.ensures.answer ∙ ap (λ n. how_many (shown m k n es)) long)
