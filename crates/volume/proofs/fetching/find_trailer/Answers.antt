use Rattle.std.proofs.Common.{ap}
use Rattle.volume.proofs.Fetched.{walked, inside, entry_found}
use Rattle.volume.proofs.fetching.find_trailer.Goals as goal

pub of-requires : goal.of-requires
of-requires g c =
    let shelf = c.args.shelf.now in
    let rs = g.S.Shelf.records shelf in
    let whole = g.S.Shelf.laws.whole shelf in
    record { top = inside rs (g.S.Shelf.room shelf) whole c.args.opened c.requires.own; walked = walked rs (g.S.Shelf.room shelf) whole c.args.opened c.requires.own }

pub returns : goal.returns
returns g c =
    let shelf = c.args.shelf.now in
    let rs = g.S.Shelf.records shelf in
    let found = entry_found rs (g.S.Shelf.room shelf) (g.S.Shelf.laws.whole shelf) c.args.opened c.requires.own _ _ (ap g.S.Shelf.records c.of.ensures.shelf) c.of.ensures.top c.args.k c.find_entry.result c.find_entry.ensures.part c.find_entry.ensures.inside in
    record { entry = found.0; inside = found.1 }
