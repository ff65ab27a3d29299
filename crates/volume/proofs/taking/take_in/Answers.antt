use Rattle.std.proofs.Common.{◌≡◌, ◌+◌, length, Ok, Err, sym, ap, ◌∙◌, arith, length-append, rules}
use Rattle.manual.specs.Slots.{front}
use Rattle.manual.specs.Slots.{slots}
use Rattle.filing.specs.declared.standing.Standing.TheVariants.{Open}
use Rattle.filing.specs.Refusals.{of_taking}
use Rattle.filing.specs.Taking.{admitted}
use Rattle.filing.specs.Volumes.{entries_of}
use Rattle.filing.proofs.Giving.{checked_gives}
use Rattle.volume.specs.Tokens.{found_on}
use Rattle.volume.proofs.Giving.{rose_gives, not_admitted}
use Rattle.volume.proofs.Opened.{last-is-count, few-entries}
use Rattle.volume.proofs.Taken.{has_room, few-records, laid_by_reading, trailer-is, taken_is, found}
use Rattle.volume.proofs.taking.take_in.Goals as goal

pub admit-requires-clause-few : goal.admit-requires-clause-few
admit-requires-clause-few g c =
    let few = few-records (length c.args.payers.now) (g.E.Edition.meaning c.args.edition.now) c.args.file.now c.in_ok-counts.counts c.in_ok-counts.ensures.answer in
    omega (arith, few, c.measure_lines-size.ensures.records)

pub returns-in_err-admit-clause-same : goal.returns-in_err-admit-clause-same
returns-in_err-admit-clause-same g c = g.S.Shelf.laws.same_refl c.args.shelf.now

pub returns-in_err-counts-clause-refusals : goal.returns-in_err-counts-clause-refusals
returns-in_err-counts-clause-refusals g c = rose_gives of_taking c.from_residual.result _ c.from_residual.ensures.1 (checked_gives (Err c.in_err-counts.field-0.0))

pub returns-in_err-admit-clause-refusals : goal.returns-in_err-admit-clause-refusals
returns-in_err-admit-clause-refusals g c =
    let shelf = c.args.shelf.now in
    let rs = g.S.Shelf.records shelf in
    let e = front (slots c.args.file.now) in
    let refused : Err c.in_err-admit.field-0.0 ≡ admitted (g.S.Shelf.room shelf) (length rs) (entries_of rs) e = sym c.in_err-admit.was ∙ c.admit.ensures in
    not_admitted (g.S.Shelf.room shelf) (length rs) (entries_of rs) e c.from_residual-in_err-admit.result c.in_err-admit.field-0.0 refused c.from_residual-in_err-admit.ensures.1

pub overflow_add-trailer : goal.overflow_add-trailer
overflow_add-trailer g c =
    let shelf = c.args.shelf.now in
    omega (arith, few-entries (g.S.Shelf.records shelf) (g.S.Shelf.room shelf) (g.S.Shelf.laws.whole shelf) c.args.volume.now c.requires, g.S.Shelf.laws.inside shelf, g.S.Shelf.laws.bound shelf)

pub lay_lines-requires : goal.lay_lines-requires
lay_lines-requires g c =
    let shelf = c.args.shelf.now in
    let rs = g.S.Shelf.records shelf in
    let e = front (slots c.args.file.now) in
    omega (arith, has_room (g.S.Shelf.room shelf) (length rs) (entries_of rs) e (sym c.in_ok-admit.was ∙ c.admit.ensures))

pub lay_trailer-requires : goal.lay_trailer-requires
lay_trailer-requires g c =
    let shelf = c.args.shelf.now in
    let rs = g.S.Shelf.records shelf in
    let e = front (slots c.args.file.now) in
    let room = has_room (g.S.Shelf.room shelf) (length rs) (entries_of rs) e (sym c.in_ok-admit.was ∙ c.admit.ensures) in
    omega (arith, room, ap length c.lay_lines.ensures.list ∙ length-append rs e, c.lay_lines.ensures.limit)

pub overflow_add-volume : goal.overflow_add-volume
overflow_add-volume g c =
    let shelf = c.args.shelf.now in
    omega (arith, few-entries (g.S.Shelf.records shelf) (g.S.Shelf.room shelf) (g.S.Shelf.laws.whole shelf) c.args.volume.now c.requires, g.S.Shelf.laws.inside shelf, g.S.Shelf.laws.bound shelf)

pub overflow_add-volume-2 : goal.overflow_add-volume-2
overflow_add-volume-2 g c =
    let few = few-records (length c.args.payers.now) (g.E.Edition.meaning c.args.edition.now) c.args.file.now c.in_ok-counts.counts c.in_ok-counts.ensures.answer in
    omega (arith, few, c.measure_lines-size.ensures.records)

pub overflow_add-volume-3 : goal.overflow_add-volume-3
overflow_add-volume-3 g c =
    let shelf = c.args.shelf.now in
    let few = few-records (length c.args.payers.now) (g.E.Edition.meaning c.args.edition.now) c.args.file.now c.in_ok-counts.counts c.in_ok-counts.ensures.answer in
    let last = last-is-count (g.S.Shelf.records shelf) (g.S.Shelf.room shelf) (g.S.Shelf.laws.whole shelf) c.args.volume.now c.requires in
    omega (arith, few, last, c.measure_lines-size.ensures.records, g.S.Shelf.laws.inside shelf, g.S.Shelf.laws.bound shelf)

pub returns : goal.returns
returns g c =
    let shelf = c.args.shelf.now in
    let rs = g.S.Shelf.records shelf in
    let limit = g.S.Shelf.room shelf in
    let whole = g.S.Shelf.laws.whole shelf in
    let t = c.args.volume.now in
    let cap = length c.args.payers.now in
    let m = g.E.Edition.meaning c.args.edition.now in
    let file = c.args.file.now in
    let e = front (slots file) in
    let counts = c.in_ok-counts.counts in
    let ok = c.in_ok-counts.ensures.answer in
    let size = c.measure_lines-size.ensures in
    let passed : Ok tt ≡ admitted limit (length rs) (entries_of rs) e = sym c.in_ok-admit.was ∙ c.admit.ensures in
    let room = has_room limit (length rs) (entries_of rs) e passed in
    let n = c.measure_lines-size.result.records in
    let sums = c.totals.ensures in
    let is = (λ i. record { records = n; entry = t.entries + 1; previous = t.last; totals = sums i }) ∙ trailer-is cap m file counts ok rs limit whole t c.requires c.measure_lines-size.result.records c.measure_lines-size.result.deposits size.records size.deposits in
    let lies = taken_is cap m file counts ok rs limit whole t c.requires _ (g.S.Shelf.records c.lay_lines.new.shelf) (g.S.Shelf.records c.lay_trailer.new.shelf) is c.lay_lines.ensures.list c.lay_trailer.ensures.list in
    let f = found cap m file counts ok rs limit whole t c.requires (g.S.Shelf.laws.bound shelf) room in
    let last : t.last + (c.measure_lines-size.result.records + 1) ≡ length rs + length e + 1 = omega (arith, last-is-count rs limit whole t c.requires, size.records) in
    let kept = c.lay_trailer.ensures.limit ∙ c.lay_lines.ensures.limit in
    record {
      answer = search rules;
      list = lies;
      token = λ i. record { entries = t.entries + 1; last = last i };
      limit = kept;
      same = g.S.Shelf.laws.same_trans shelf c.lay_lines.new.shelf c.lay_trailer.new.shelf c.lay_lines.ensures.same c.lay_trailer.ensures.same;
      entries = ap entries_of lies ∙ f.entries;
      reading = laid_by_reading cap m file counts ok rs t (g.S.Shelf.records c.lay_trailer.new.shelf) lies;
      readings = c.filing_laws.ensures.readings;
      own =
          ap (found_on (g.S.Shelf.records c.lay_trailer.new.shelf)) kept ∙ ap (λ x. found_on x limit) lies ∙ f.opens
          ∙ ap (λ n. Ok (record { entries = t.entries + 1; last = n; standing = Open })) (sym last);
      refusals = tt;
      examples = search rules;
    }
