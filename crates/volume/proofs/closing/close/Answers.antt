use Rattle.std.proofs.Common.{◌≡◌, ◌^◌, ◌<◌, [], ◌∷◌, ◌++◌, length, refl, ap, ◌∙◌, arith}
use Rattle.shelf.proofs.Calls.{added_is}
use Rattle.trailer.specs.Trailers.{closing_of}
use Rattle.filing.specs.Entries.{reads}
use Rattle.filing.specs.Laws.{closed}
use Rattle.filing.specs.Volumes.{entries_of}
use Rattle.volume.specs.Tokens.{found_on, open_says}
use Rattle.volume.proofs.Opened.{laws, last-is-count}
use Rattle.volume.proofs.closing.close.Goals as goal

pub returns : goal.returns
returns g c =
    let shelf = c.args.shelf.now in
    let rs = g.S.Shelf.records shelf in
    let limit = g.S.Shelf.room shelf in
    let t = c.args.volume in
    let room : length rs < limit = laws.open_room reads limit rs (open_says t) c.requires refl in
    let small : length rs < 10 ^ 8 = omega (arith, g.S.Shelf.laws.inside shelf, g.S.Shelf.laws.bound shelf) in
    let wrote : c.write_closing.new.out ≡ closing_of t.entries (length rs) = c.write_closing.ensures ∙ ap (closing_of t.entries) (last-is-count rs limit (g.S.Shelf.laws.whole shelf) t c.requires) in
    let lies : g.S.Shelf.records c.add.new.self ≡ closed t.entries rs = c.add.ensures.list ∙ added_is rs limit c.write_closing.new.out room ∙ ap (λ x. rs ++ x ∷ []) wrote in
    let done = laws.closes reads limit rs (open_says t) (g.S.Shelf.laws.whole shelf) c.requires refl small in
    record {
      entries = refl;
      last = refl;
      list = lies;
      limit = c.add.ensures.limit;
      same = c.add.ensures.same;
      found = ap entries_of lies ∙ done.entries;
      own = ap (λ n. found_on (g.S.Shelf.records c.add.new.self) n) c.add.ensures.limit ∙ ap (λ x. found_on x limit) lies ∙ done.opens;
    }
