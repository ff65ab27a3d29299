use Rattle.std.proofs.Common.{◌≡◌, ◌-◌, ◌≤◌, ◌++◌, length, take, replicate, Ok, sym, ap, ◌∙◌, arith}
use Rattle.std.proofs.lemmas.List.{length-take-le}
use Rattle.sums.specs.Table.{zero_row}
use Rattle.volume.specs.Tokens.{says}
use Rattle.report.specs.Pairs.{no_pair}
use Rattle.balancing.specs.Balancing.{balance_answer, balance_table}
use Rattle.balancing.proofs.Balanced.{balanced_ok, balanced_short}
use Rattle.balancing.proofs.table.balance_all.Goals as goal

pub returns-in_default : goal.returns-in_default
returns-in_default g c =
    let shelf = c.args.shelf.now in
    let rs = g.S.Shelf.records shelf in
    let n = length c.args.rows.now in
    let few : length rs ≤ 500000 = omega (arith, g.S.Shelf.laws.inside shelf, g.S.Shelf.laws.bound shelf) in
    let is = balanced_short rs (g.S.Shelf.room shelf) (g.S.Shelf.laws.whole shelf) few (says c.args.volume.now) c.requires n c.in_default.ensures.held in
    record {
      answer = ap balance_answer is;
      table = c.empty.ensures ∙ ap (λ k. replicate k (zero_row no_pair)) c.in_default.ensures.room ∙ ap (λ b. balance_table b n) is;
    }

pub returns : goal.returns
returns g c =
    let shelf = c.args.shelf.now in
    let rs = g.S.Shelf.records shelf in
    let n = length c.args.rows.now in
    let few : length rs ≤ 500000 = omega (arith, g.S.Shelf.laws.inside shelf, g.S.Shelf.laws.bound shelf) in
    let rows = take c.in-Some.used c.enter_all.new.rows in
    let is = balanced_ok rs (g.S.Shelf.room shelf) (g.S.Shelf.laws.whole shelf) few (says c.args.volume.now) c.requires n rows c.in-Some.ensures.held in
    let long : length rows ≡ c.in-Some.used = length-take-le c.in-Some.used c.enter_all.new.rows c.in-Some.ensures.within in
    record {
      answer = ap Ok (sym long) ∙ ap balance_answer is;
      table =
          c.empty_from.ensures
          ∙ (λ i. take c.in-Some.used c.enter_all.new.rows ++ replicate (c.in-Some.ensures.room i - sym long i) (zero_row no_pair))
          ∙ ap (λ b. balance_table b n) is;
    }
