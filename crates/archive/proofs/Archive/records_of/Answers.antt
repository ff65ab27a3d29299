use Rattle.std.proofs.Common.{◌≡◌, true, false, length, sym, ap, ◌∙◌, arith}
use Rattle.filing.specs.Volumes.{entries_of}
use Rattle.volume.specs.Taking.{numbered_in}
use Rattle.volume.proofs.Fetched.{many}
use Rattle.archive.proofs.Counted.{no_entry, entry_long}
use Rattle.archive.proofs.Archive.records_of.Goals as goal

pub returns-then-is_among : goal.returns-then-is_among
returns-then-is_among g c =
    let shelf = c.args.self.now.shelf in
    let rs = g.S.Shelf.records shelf in
    let all = many rs (g.S.Shelf.room shelf) (g.S.Shelf.laws.whole shelf) c.opened-opened.result (sym c.opened-opened.ensures) in
    let some : numbered_in c.args.entry (length (entries_of rs)) ≡ true = ap (numbered_in c.args.entry) all ∙ sym c.if-is_among.ensures in
    let t = c.find_trailer.result in
    record {
      records = entry_long c.args.entry (entries_of rs) some rs t.previous t.records c.find_trailer.ensures.entry c.find_trailer.ensures.inside;
      few = omega (arith, c.find_trailer.ensures.inside, g.S.Shelf.laws.inside shelf, g.S.Shelf.laws.bound shelf);
      run = (t.previous, sym c.find_trailer.ensures.entry);
    }

pub returns-else-is_among : goal.returns-else-is_among
returns-else-is_among g c =
    let shelf = c.args.self.now.shelf in
    let rs = g.S.Shelf.records shelf in
    let all = many rs (g.S.Shelf.room shelf) (g.S.Shelf.laws.whole shelf) c.opened-opened.result (sym c.opened-opened.ensures) in
    let none : numbered_in c.args.entry (length (entries_of rs)) ≡ false = ap (numbered_in c.args.entry) all ∙ sym c.if-is_among.ensures in
    record { records = no_entry c.args.entry (entries_of rs) none; few = tt; run = tt }
