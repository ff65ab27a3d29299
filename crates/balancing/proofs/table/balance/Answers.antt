use Rattle.std.proofs.Common.{◌≤◌, length, arith}
use Rattle.filing.specs.Volumes.{entries_of}
use Rattle.volume.specs.Tokens.{says}
use Rattle.balancing.proofs.Balanced.{stands_on}
use Rattle.balancing.proofs.Standing.{answer_gives}
use Rattle.balancing.proofs.table.balance.Goals as goal

pub returns-clause-refusals : goal.returns-clause-refusals
returns-clause-refusals g c = answer_gives (length c.args.rows.now) (entries_of (g.S.Shelf.records c.args.shelf.now)) c.balance_all.result c.balance_all.ensures.answer

pub returns-clause-stands : goal.returns-clause-stands
returns-clause-stands g c =
    let shelf = c.args.shelf.now in
    let rs = g.S.Shelf.records shelf in
    let few : length rs ≤ 500000 = omega (arith, g.S.Shelf.laws.inside shelf, g.S.Shelf.laws.bound shelf) in
    stands_on rs (g.S.Shelf.room shelf) (g.S.Shelf.laws.whole shelf) few (says c.args.volume.now) c.requires c.args.rows.now c.balance_all.new.rows c.balance_all.result c.balance_all.ensures.answer c.balance_all.ensures.table
