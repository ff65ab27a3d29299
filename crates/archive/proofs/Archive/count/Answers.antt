use Rattle.std.proofs.Common.{◌≤◌, length, arith}
use Rattle.volume.specs.Tokens.{says}
use Rattle.balancing.proofs.Balanced.{balance_few}
use Rattle.archive.proofs.Archive.count.Goals as goal

pub returns-clause-enough : goal.returns-clause-enough
returns-clause-enough g c =
    let shelf = c.args.self.now.shelf in
    let rs = g.S.Shelf.records shelf in
    let few : length rs ≤ 500000 = omega (arith, g.S.Shelf.laws.inside shelf, g.S.Shelf.laws.bound shelf) in
    omega (arith, c.count.ensures, balance_few rs (g.S.Shelf.room shelf) (g.S.Shelf.laws.whole shelf) few (says c.args.self.now.volume) c.args.self.now.own 0)
