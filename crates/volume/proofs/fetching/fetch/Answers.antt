use Rattle.std.proofs.Common.{◌≡◌, true, length, Ok, sym, refl, ap, ◌∙◌, arith}
use Rattle.filing.specs.Volumes.{entries_of}
use Rattle.volume.specs.Taking.{numbered_in, fetch_answer, fetch_bytes}
use Rattle.volume.proofs.Fetched.{many, no_entry, no_record, record_found}
use Rattle.volume.proofs.fetching.fetch.Goals as goal

pub returns-then-not-is_among : goal.returns-then-not-is_among
returns-then-not-is_among g c =
    let shelf = c.args.shelf.now in
    let rs = g.S.Shelf.records shelf in
    let k = c.args.entry in
    let own = c.requires ∙ ap Ok (sym c.from-opened.ensures) in
    let all = many rs (g.S.Shelf.room shelf) (g.S.Shelf.laws.whole shelf) c.from-opened.result own in
    let is = no_entry k c.args.number (entries_of rs) (ap (numbered_in k) all ∙ sym c.if-not-is_among.ensures) in
    record { answer = ap fetch_answer is; buffer = ap (λ r. fetch_bytes r c.args.out.now) is; refusals = (0, omega arith, refl) }

pub returns-then-not-is_among-2 : goal.returns-then-not-is_among-2
returns-then-not-is_among-2 g c =
    let shelf = c.args.shelf.now in
    let rs = g.S.Shelf.records shelf in
    let k = c.args.entry in
    let own = c.requires ∙ ap Ok (sym c.from-opened.ensures) in
    let all = many rs (g.S.Shelf.room shelf) (g.S.Shelf.laws.whole shelf) c.from-opened.result own in
    let some : numbered_in k (length (entries_of rs)) ≡ true = ap (numbered_in k) all ∙ sym c.if-not-is_among.ensures in
    let t = c.find_trailer-trailer.result in
    let is = no_record k c.args.number (entries_of rs) some rs t c.find_trailer-trailer.ensures.entry c.find_trailer-trailer.ensures.inside (sym c.if-not-is_among-2.ensures) in
    record { answer = ap fetch_answer is; buffer = ap (λ r. fetch_bytes r c.args.out.now) is; refusals = (0, omega arith, refl) }

pub returns : goal.returns
returns g c =
    let shelf = c.args.shelf.now in
    let rs = g.S.Shelf.records shelf in
    let k = c.args.entry in
    let own = c.requires ∙ ap Ok (sym c.from-opened.ensures) in
    let all = many rs (g.S.Shelf.room shelf) (g.S.Shelf.laws.whole shelf) c.from-opened.result own in
    let some : numbered_in k (length (entries_of rs)) ≡ true = ap (numbered_in k) all ∙ sym c.if-not-is_among.ensures in
    let t = c.find_trailer-trailer.result in
    let is = record_found k c.args.number (entries_of rs) some rs t c.find_trailer-trailer.ensures.entry c.find_trailer-trailer.ensures.inside (sym c.if-not-is_among-2.ensures) in
    record { answer = ap fetch_answer is; buffer = c.record_at.ensures ∙ ap (λ r. fetch_bytes r c.args.out.now) is; refusals = tt }
