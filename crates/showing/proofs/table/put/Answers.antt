use Rattle.std.proofs.Common.{[], sym, ap, ◌∙◌, length, arith}
use Rattle.report.specs.Rows.{row_then}
use Rattle.showing.specs.Showing.{with_part}
use Rattle.showing.proofs.Filling.{with_one}
use Rattle.showing.proofs.table.put.Goals as goal

pub returns-in-Some-clause-rows : goal.returns-in-Some-clause-rows
returns-in-Some-clause-rows c =
    let rows = c.args.rows.now in
    let row = c.in-Some.is in
    with_one rows c.args.filled c.in-Some.row (omega (arith, c.requires, ap (λ o. length (row_then o [])) row)) ∙ sym (ap (λ o. with_part rows c.args.filled (row_then o [])) row)
