use Rattle.std.proofs.Common.{◌*◌, length, Ok, sym, ap, ◌∙◌, arith}
use Rattle.volume.specs.Tokens.{says}
use Rattle.showing.specs.Showing.{how_many, filled_in}
use Rattle.showing.proofs.Copied.{entry_stands, needed_is, short_copy, whole_copy, rows_bound}
use Rattle.showing.proofs.copying.copy_entry.Goals as goal

pub overflow_mul-needed : goal.overflow_mul-needed
overflow_mul-needed g c =
    let shelf = c.args.shelf.now in
    let rs = g.S.Shelf.records shelf in
    let p = c.in_ok-span.span in
    let few = rows_bound (g.E.Edition.meaning c.args.edition.now) rs p.before p.count p.rows c.in_ok-span.ensures.inside c.in_ok-span.ensures.rows in
    omega (arith, few, g.S.Shelf.laws.inside shelf, g.S.Shelf.laws.bound shelf)

pub returns-then-buffer-needed : goal.returns-then-buffer-needed
returns-then-buffer-needed g c =
    let shelf = c.args.shelf.now in
    let rs = g.S.Shelf.records shelf in
    let m = g.E.Edition.meaning c.args.edition.now in
    let p = c.in_ok-span.span in
    let passes = c.in_ok-span.ensures.records in
    let needed = needed_is rs (g.S.Shelf.room shelf) (g.S.Shelf.laws.whole shelf) (says c.args.volume.now) c.requires m c.args.entry p.before p.count passes p.rows c.in_ok-span.ensures.rows in
    let is = short_copy rs (g.S.Shelf.room shelf) (g.S.Shelf.laws.whole shelf) (says c.args.volume.now) c.requires m c.args.entry p.before p.count passes (length c.args.buffer.now) (p.rows * 82) needed (omega (arith, c.if-buffer-needed.true)) in
    record { answer = sym (ap how_many is); buffer = sym (ap (λ r. filled_in r c.args.buffer.now) is); stands = tt }

pub write-requires-clause-enough : goal.write-requires-clause-enough
write-requires-clause-enough g c =
    let shelf = c.args.shelf.now in
    let rs = g.S.Shelf.records shelf in
    let m = g.E.Edition.meaning c.args.edition.now in
    let p = c.in_ok-span.span in
    let needed = needed_is rs (g.S.Shelf.room shelf) (g.S.Shelf.laws.whole shelf) (says c.args.volume.now) c.requires m c.args.entry p.before p.count c.in_ok-span.ensures.records p.rows c.in_ok-span.ensures.rows in
    omega (arith, needed, c.if-buffer-needed.false)

pub returns : goal.returns
returns g c =
    let shelf = c.args.shelf.now in
    let rs = g.S.Shelf.records shelf in
    let m = g.E.Edition.meaning c.args.edition.now in
    let p = c.in_ok-span.span in
    let passes = c.in_ok-span.ensures.records in
    let needed = needed_is rs (g.S.Shelf.room shelf) (g.S.Shelf.laws.whole shelf) (says c.args.volume.now) c.requires m c.args.entry p.before p.count passes p.rows c.in_ok-span.ensures.rows in
    let is = whole_copy rs (g.S.Shelf.room shelf) (g.S.Shelf.laws.whole shelf) (says c.args.volume.now) c.requires m c.args.entry p.before p.count passes (length c.args.buffer.now) (p.rows * 82) needed (omega (arith, c.if-buffer-needed.false)) in
    record {
      answer = ap Ok needed ∙ sym (ap how_many is);
      buffer = c.write.ensures ∙ sym (ap (λ r. filled_in r c.args.buffer.now) is);
      stands = entry_stands rs (g.S.Shelf.room shelf) (g.S.Shelf.laws.whole shelf) (says c.args.volume.now) c.requires m c.args.entry p.before p.count passes;
    }
