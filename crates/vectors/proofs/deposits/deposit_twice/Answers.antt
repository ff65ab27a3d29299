use Rattle.std.proofs.Common.{[], ◌∷◌, length, sym}
use Rattle.law.specs.Archive.{taking_in}
use Rattle.vectors.proofs.Depositing.{equal_counts}
use Rattle.vectors.proofs.deposits.deposit_twice.Goals as goal

pub returns : goal.returns
returns g c = λ none empty tables twins.
    let m = g.E.Edition.meaning c.args.edition.now in
    let room = g.S.Shelf.room c.args.shelf.now in
    let limit = g.T.Shelf.room c.args.other.now in
    let made = c.in-Ok-Open-open.ensures.first empty in
    let one = c.take_in.ensures.law room [] (c.in-Ok-Open.ensures.first none) in
    let two = c.take_in-2.ensures.law limit [] made in
    let n = length c.args.payers.now in
    let j = length c.take_in.new.payers in
    let k = c.in-Ok.entry in
    let shown = c.show-one.ensures.law room (taking_in c.args.file.now m n ∷ []) one.on in
    let other = c.show-two.ensures.law limit (taking_in c.args.twin.now m j ∷ []) two.on in
    equal_counts room limit m n j (sym c.take_in.auto.payers) c.args.file.now c.args.twin.now twins c.args.rows.now c.args.others.now tables
    k c.take_in.result c.take_in-2.result c.in-Ok-take_in.field-0 c.in-Ok.is c.in-Ok-take_in.is
    _ _ made.some made.bound _ _ _ _ _ _ c.show-one.result c.show-two.result c.show-one.new.rows c.show-two.new.rows one two shown other
