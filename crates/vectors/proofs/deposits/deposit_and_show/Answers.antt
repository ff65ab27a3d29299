use Rattle.std.proofs.Common.{[], ◌∷◌, length}
use Rattle.law.specs.Archive.{taking_in, closing}
use Rattle.vectors.proofs.Depositing.{shown_once}
use Rattle.vectors.proofs.deposits.deposit_and_show.Goals as goal

pub returns : goal.returns
returns g c = λ none.
    let m = g.E.Edition.meaning c.args.edition.now in
    let room = g.S.Shelf.room c.args.shelf.now in
    let n = length c.args.payers.now in
    let took = c.take_in.ensures.law room [] (c.in-Ok-Open.ensures.first none) in
    let closed = c.close-token.ensures.law room (taking_in c.args.file.now m n ∷ []) took.on in
    let shown = c.show.ensures.law room (taking_in c.args.file.now m n ∷ closing ∷ []) closed.on in
    shown_once room c.args.file.now m n c.in-Ok.entry c.take_in.result took.answers c.in-Ok.is c.args.rows.now c.show.new.rows c.show.result shown.lawful shown.answers
