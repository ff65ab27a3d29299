use Rattle.std.proofs.Common.{◌≡◌, ◌+◌, ◌-◌, ◌<◌, [], length, get_or, take, Some, None, sym, ap, ◌∙◌, arith}
use Rattle.sums.specs.Laws.{run}
use Rattle.report.specs.Pairs.{same_pair, no_pair}
use Rattle.report.specs.Balances.{moves_from}
use Rattle.balancing.specs.Balancing.{entered_by}
use Rattle.balancing.proofs.Balanced.{goes_on, stops}
use Rattle.balancing.proofs.table.enter_all.Goals as goal

pub loop-i-preserved : goal.loop-i-preserved
loop-i-preserved g c =
    let rs = g.S.Shelf.records c.args.shelf.now in
    let i = c.loop-i.i in
    let table = c.loop-i.table in
    let n = length c.new-table.result.rows.now in
    let front = take table.used table.rows.now in
    let at : i + 1 - 1 ≡ i = omega arith in
    let is = c.record_at.ensures ∙ ap (λ k. get_or rs k []) at in
    let inside : i < length rs = omega (arith, c.loop-i-test.true, c.count-i-end.ensures) in
    let after = c.enter.new.table in
    let held : Some (take after.used after.rows.now) ≡ entered_by n front c.movement.result =
    ap (λ k. Some (take k after.rows.now)) (sym c.in-Some.ensures.used) ∙ c.in-Some.ensures.held ∙ ap (λ k. entered_by k front c.movement.result) c.loop-i.invariant.room in
    record {
      lender = c.enter.ensures.lender ∙ c.loop-i.invariant.lender;
      room = c.enter.ensures.room ∙ c.loop-i.invariant.room;
      rest = goes_on rs i inside c.record_at.result c.classify-class.result c.loop-i.pair c.movement.result is c.classify-class.ensures.class c.movement.ensures
          n front (take after.used after.rows.now) (run same_pair n [] (moves_from no_pair rs)) c.pair_behind-pair.result c.loop-i.invariant.rest held c.pair_behind-pair.ensures;
    }

pub returns-in_default-clause-held : goal.returns-in_default-clause-held
returns-in_default-clause-held g c =
    let rs = g.S.Shelf.records c.args.shelf.now in
    let i = c.loop-i.i in
    let table = c.loop-i.table in
    let n = length c.new-table.result.rows.now in
    let front = take table.used table.rows.now in
    let at : i + 1 - 1 ≡ i = omega arith in
    let is = c.record_at.ensures ∙ ap (λ k. get_or rs k []) at in
    let inside : i < length rs = omega (arith, c.loop-i-test.true, c.count-i-end.ensures) in
    let held : None ≡ entered_by n front c.movement.result = c.in_default.ensures.held ∙ ap (λ k. entered_by k front c.movement.result) c.loop-i.invariant.room in
    stops rs i inside c.record_at.result c.classify-class.result c.loop-i.pair c.movement.result is c.classify-class.ensures.class c.movement.ensures
    n front (run same_pair n [] (moves_from no_pair rs)) c.loop-i.invariant.rest held
    ∙ ap (λ rows. run same_pair (length rows) [] (moves_from no_pair rs)) c.new-table.ensures.rows
