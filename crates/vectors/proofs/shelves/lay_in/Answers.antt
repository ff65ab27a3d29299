use Rattle.std.proofs.Common.{◌≡◌, length, ap, ◌∙◌, arith, rules}
use Rattle.shelf.specs.Records.{held, places, inside_held}
use Rattle.shelf.specs.Runs.{laid}
use Rattle.shelf.proofs.Eighties.{held_recount}
use Rattle.vectors.proofs.shelves.lay_in.Goals as goal

pub returns-clause-list : goal.returns-clause-list
returns-clause-list c =
    let old = c.args.bytes.now in
    let count = c.args.count in
    let items = c.args.items.now in
    let made = c.new-shelf.ensures in
    let after = c.lay.new.shelf in
    let said = c.lay.ensures in
    let list : held after.bytes.now after.count ≡ laid (held old count) (places old) items =
    said.list ∙ ap (λ l. laid l (places c.new-shelf.result.bytes.now) items) made.records ∙ ap (λ bs. laid (held old count) (places bs) items) made.bytes
    in
    let inside = inside_held after.bytes.now after.count in
    let size = ap length list in
    let same = said.same in
    let here = held_recount after.bytes.now after.count (length (laid (held old count) (places old) items)) _ list (omega arith) in
    search rules
