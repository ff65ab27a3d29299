use Rattle.std.proofs.Common.{◌≡◌, ◌+◌, true, length, Ok, sym, ap, ◌∙◌, subst}
use Rattle.std.specs.List.{between}
use Rattle.filing.specs.Volumes.{entries_of}
use Rattle.volume.specs.Taking.{numbered_in}
use Rattle.volume.proofs.Fetched.{many}
use Rattle.showing.proofs.Passing.{none_passes, wrong_stops, right_passes, rows_counted, entry_fine}
use Rattle.report.proofs.Same.{All-whole}
use Rattle.report.proofs.Copying.{All-readable}
use Rattle.showing.proofs.walk.find.Goals as goal

pub returns-then-not-is_among-clause-refused : goal.returns-then-not-is_among-clause-refused
returns-then-not-is_among-clause-refused g c =
    let shelf = c.args.shelf.now in
    let rs = g.S.Shelf.records shelf in
    let own = c.requires ∙ ap Ok (sym c.from-opened.ensures) in
    let all = many rs (g.S.Shelf.room shelf) (g.S.Shelf.laws.whole shelf) c.from-opened.result own in
    none_passes (g.E.Edition.meaning c.args.edition.now) c.args.entry (entries_of rs) (ap (numbered_in c.args.entry) all ∙ sym c.if-not-is_among.ensures)

pub returns-in-Ok-clause-records : goal.returns-in-Ok-clause-records
returns-in-Ok-clause-records g c =
    let shelf = c.args.shelf.now in
    let rs = g.S.Shelf.records shelf in
    let own = c.requires ∙ ap Ok (sym c.from-opened.ensures) in
    let all = many rs (g.S.Shelf.room shelf) (g.S.Shelf.laws.whole shelf) c.from-opened.result own in
    let some : numbered_in c.args.entry (length (entries_of rs)) ≡ true = ap (numbered_in c.args.entry) all ∙ sym c.if-not-is_among.ensures in
    let t = c.find_trailer-trailer.result in
    right_passes (g.E.Edition.meaning c.args.edition.now) c.args.entry (entries_of rs) some (between t.previous (t.previous + t.records) rs) c.find_trailer-trailer.ensures.entry c.in-Ok.rows c.in-Ok.ensures

pub returns-in-Err-clause-refused : goal.returns-in-Err-clause-refused
returns-in-Err-clause-refused g c =
    let shelf = c.args.shelf.now in
    let rs = g.S.Shelf.records shelf in
    let own = c.requires ∙ ap Ok (sym c.from-opened.ensures) in
    let all = many rs (g.S.Shelf.room shelf) (g.S.Shelf.laws.whole shelf) c.from-opened.result own in
    let some : numbered_in c.args.entry (length (entries_of rs)) ≡ true = ap (numbered_in c.args.entry) all ∙ sym c.if-not-is_among.ensures in
    let t = c.find_trailer-trailer.result in
    wrong_stops (g.E.Edition.meaning c.args.edition.now) c.args.entry (entries_of rs) some (between t.previous (t.previous + t.records) rs) c.find_trailer-trailer.ensures.entry c.in-Err.fault c.in-Err.ensures

pub returns-in-Ok-clause-rows : goal.returns-in-Ok-clause-rows
returns-in-Ok-clause-rows g c =
    let shelf = c.args.shelf.now in
    let rs = g.S.Shelf.records shelf in
    let own = c.requires ∙ ap Ok (sym c.from-opened.ensures) in
    let whole = g.S.Shelf.laws.whole shelf in
    let all = many rs (g.S.Shelf.room shelf) whole c.from-opened.result own in
    let some : numbered_in c.args.entry (length (entries_of rs)) ≡ true = ap (numbered_in c.args.entry) all ∙ sym c.if-not-is_among.ensures in
    let t = c.find_trailer-trailer.result in
    let e = between t.previous (t.previous + t.records) rs in
    let is = c.find_trailer-trailer.ensures.entry in
    let fine = entry_fine rs (g.S.Shelf.room shelf) whole c.from-opened.result own c.args.entry some t.previous (t.previous + t.records) (sym is) in
    rows_counted (g.E.Edition.meaning c.args.edition.now) c.args.entry (entries_of rs) some e is (subst All-whole (sym is) fine.0) (subst All-readable (sym is) fine.1) c.in-Ok.rows c.in-Ok.ensures
