use Rattle.std.proofs.Common.{◌≡◌, ◌+◌, ◌≤◌, length, None, sym, ap, ◌∙◌, arith}
use Rattle.std.specs.List.{between}
use Rattle.entries.proofs.Entries.{left_from, left-next, left-none}
use Rattle.report.specs.Copies.{plain_records}
use Rattle.report.specs.Faults.{fault_from, first_fault}
use Rattle.showing.specs.Showing.{unless_wrong}
use Rattle.std.proofs.lemmas.List.Edits.{length-between}
use Rattle.showing.proofs.Surveying.{counted, fault_step, no-cause}
use Rattle.showing.proofs.walk.survey.Goals as goal

pub returns-in-Some : goal.returns-in-Some
returns-in-Some g c =
    let rs = g.S.Shelf.records c.args.shelf.now in
    let m = g.E.Edition.meaning c.args.edition.now in
    let n = c.loop-i.i + 1 in
    let es = between c.args.before (c.args.before + c.args.count) rs in
    let next = left-next rs c.args.before c.args.count c.requires n (omega arith) (omega (arith, c.loop-i-test.true)) in
    let later = left_from rs c.args.before c.args.count (n + 1) in
    let step = fault_step m c.loop-i.level n (left_from rs c.args.before c.args.count n) later _ _ _ _ next c.record_at.ensures c.sort_in-sort.ensures c.in-Some.ensures in
    ap (λ o. unless_wrong o (length (plain_records m es))) (sym step ∙ c.loop-i.invariant.0)

pub overflow_add-rows : goal.overflow_add-rows
overflow_add-rows g c =
    let rs = g.S.Shelf.records c.args.shelf.now in
    let m = g.E.Edition.meaning c.args.edition.now in
    let n = c.loop-i.i + 1 in
    let es = between c.args.before (c.args.before + c.args.count) rs in
    let next = left-next rs c.args.before c.args.count c.requires n (omega arith) (omega (arith, c.loop-i-test.true)) in
    let later = left_from rs c.args.before c.args.count (n + 1) in
    let more = counted m (left_from rs c.args.before c.args.count n) later _ _ _ next c.record_at.ensures c.sort_in-sort.ensures c.loop-i.rows (length (plain_records m es)) (length es) c.copies_of-rows.result c.loop-i.invariant.1 c.loop-i.invariant.2 c.copies_of-rows.ensures in
    let long : length es ≤ c.args.count = omega (arith, length-between rs c.args.before (c.args.before + c.args.count) c.requires) in
    omega (arith, more.1, long, c.ranges.count.fits)

pub loop-i-preserved : goal.loop-i-preserved
loop-i-preserved g c =
    let rs = g.S.Shelf.records c.args.shelf.now in
    let m = g.E.Edition.meaning c.args.edition.now in
    let n = c.loop-i.i + 1 in
    let es = between c.args.before (c.args.before + c.args.count) rs in
    let next = left-next rs c.args.before c.args.count c.requires n (omega arith) (omega (arith, c.loop-i-test.true)) in
    let left = left_from rs c.args.before c.args.count n in
    let later = left_from rs c.args.before c.args.count (n + 1) in
    let more = counted m left later _ _ _ next c.record_at.ensures c.sort_in-sort.ensures c.loop-i.rows (length (plain_records m es)) (length es) c.copies_of-rows.result c.loop-i.invariant.1 c.loop-i.invariant.2 c.copies_of-rows.ensures in
    let step = fault_step m c.loop-i.level n left later _ _ _ None next c.record_at.ensures c.sort_in-sort.ensures (sym (no-cause c.cause_in.result c.in_default.not-Some) ∙ c.cause_in.ensures) in (
      ap (λ x. fault_from m x (n + 1) later) c.level_behind-level.ensures ∙ sym step ∙ c.loop-i.invariant.0,
      more.0,
      more.1,
    )

pub returns : goal.returns
returns g c =
    let rs = g.S.Shelf.records c.args.shelf.now in
    let m = g.E.Edition.meaning c.args.edition.now in
    let n = c.loop-i.i + 1 in
    let es = between c.args.before (c.args.before + c.args.count) rs in
    let none = left-none rs c.args.before c.args.count n (omega (arith, c.loop-i-test.false)) in
    let clean : None ≡ first_fault m es = sym (ap (fault_from m c.loop-i.level n) none) ∙ c.loop-i.invariant.0 in
    let many : c.loop-i.rows ≡ length (plain_records m es) = omega (arith, c.loop-i.invariant.1, ap (λ l. length (plain_records m l)) none) in
    λ i. unless_wrong (clean i) (many i)
