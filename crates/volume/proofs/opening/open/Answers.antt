use Rattle.std.proofs.Common.{◌≡◌, sym, ap, ◌∙◌}
use Rattle.volume.specs.Tokens.{with_token, found_on}
use Rattle.entries.proofs.Walks.{some_end}
use Rattle.volume.proofs.Opened.{opens-exactly, own_made, found-closed, found_open}
use Rattle.volume.proofs.Giving.{open_gives}
use Rattle.volume.proofs.opening.open.Goals as goal

pub open_closed-requires : goal.open_closed-requires
open_closed-requires g c = some_end (g.S.Shelf.records c.args.shelf.now) (sym c.ends_98.ensures ∙ c.if-ends_98.true)

pub returns-then-ends_98 : goal.returns-then-ends_98
returns-then-ends_98 g c =
    let shelf = c.args.shelf.now in
    let rs = g.S.Shelf.records shelf in
    let limit = g.S.Shelf.room shelf in
    let laws = g.S.Shelf.laws in
    let answer : c.open_closed.result ≡ with_token (found_on rs limit) = c.open_closed.ensures ∙ ap with_token (found-closed rs limit (sym c.ends_98.ensures ∙ c.if-ends_98.true)) in
    record { answer = answer; laws = c.filing_laws.ensures.filing; readings = c.filing_laws.ensures.readings; exactly = opens-exactly rs limit (laws.whole shelf) (laws.inside shelf) (laws.bound shelf) c.open_closed.result answer; own = own_made rs limit c.open_closed.result answer; refusals = open_gives rs limit c.open_closed.result answer }

pub returns-else-ends_98 : goal.returns-else-ends_98
returns-else-ends_98 g c =
    let shelf = c.args.shelf.now in
    let rs = g.S.Shelf.records shelf in
    let limit = g.S.Shelf.room shelf in
    let laws = g.S.Shelf.laws in
    let answer : c.open_open.result ≡ with_token (found_on rs limit) = c.open_open.ensures ∙ ap with_token (found_open rs limit (sym c.ends_98.ensures ∙ c.if-ends_98.false)) in
    record { answer = answer; laws = c.filing_laws.ensures.filing; readings = c.filing_laws.ensures.readings; exactly = opens-exactly rs limit (laws.whole shelf) (laws.inside shelf) (laws.bound shelf) c.open_open.result answer; own = own_made rs limit c.open_open.result answer; refusals = open_gives rs limit c.open_open.result answer }
