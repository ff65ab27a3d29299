use Rattle.std.proofs.Common.{◌≡◌, ◌⊎◌, subst, rules}
use Rattle.tifrozel.specs.Commands.{Lays, Leaves}
use Rattle.tifrozel.specs.declared.shelves.Seat.TheVariants.{At, Unwritten}
use Rattle.tifrozel.proofs.Left.{joined}
use Rattle.tifrozel.proofs.shelves.at_seat.Goals as goal

pub returns-in-At-clause-archive : goal.returns-in-At-clause-archive
returns-in-At-clause-archive g c d e =
    let same : c.in-At.archive ≡ d = search rules in
    subst
    (λ x. (c.seat_of.result ≡ Unwritten × Lays c.args.asked)
    ⊎ ((after : _) × (c.seat_of.result ≡ At after × Leaves c.args.asked c.args.payers (g.S.Shelf.room x.shelf) (g.S.Shelf.records x.shelf) x.volume (g.S.Shelf.records after.shelf) after.volume)))
    same
    (joined c.at_archive-left.result.0 c.at_archive-left.ensures.left c.seat_of.ensures)
