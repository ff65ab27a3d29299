use Rattle.std.proofs.Common.{ℕ, ◌+◌, subst, arith}
use Rattle.std.specs.List.{between}
use Rattle.showing.specs.Showing.{line_of}
use Rattle.entries.proofs.Entries.{left_from, left-next, left-none}
use Rattle.report.specs.Copies.{copied}
use Rattle.showing.proofs.Filling.{Filling, has_place, filling_put, filled_all}
use Rattle.showing.proofs.Surveying.{copy_step}
use Rattle.showing.proofs.copying.write.Goals as goal

pub put_line-filled-requires : goal.put_line-filled-requires
put_line-filled-requires g c =
    let rs = g.S.Shelf.records c.args.shelf.now in
    let m = g.E.Edition.meaning c.args.edition.now in
    let n = c.loop-i.i + 1 in
    let all = copied m (between c.args.before (c.args.before + c.args.count) rs) in
    let next = left-next rs c.args.before c.args.count c.requires.inside n (omega arith) (omega (arith, c.loop-i-test.true)) in
    let left = left_from rs c.args.before c.args.count n in
    let later = left_from rs c.args.before c.args.count (n + 1) in
    let step = copy_step m left later _ _ _ _ next c.record_at-item.ensures c.sort_in-sort.ensures c.plain_record.ensures in
    has_place all c.args.buffer.now c.loop-i.buffer c.loop-i.filled (line_of c.plain_record.result) (copied m left) (copied m later) step c.loop-i.invariant c.requires.enough

pub loop-i-preserved : goal.loop-i-preserved
loop-i-preserved g c =
    let rs = g.S.Shelf.records c.args.shelf.now in
    let m = g.E.Edition.meaning c.args.edition.now in
    let n = c.loop-i.i + 1 in
    let all = copied m (between c.args.before (c.args.before + c.args.count) rs) in
    let next = left-next rs c.args.before c.args.count c.requires.inside n (omega arith) (omega (arith, c.loop-i-test.true)) in
    let left = left_from rs c.args.before c.args.count n in
    let later = left_from rs c.args.before c.args.count (n + 1) in
    let step = copy_step m left later _ _ _ _ next c.record_at-item.ensures c.sort_in-sort.ensures c.plain_record.ensures in
    filling_put all c.args.buffer.now c.loop-i.buffer c.put_line-filled.new.buffer c.loop-i.filled c.put_line-filled.result (line_of c.plain_record.result) (copied m left) (copied m later) step c.loop-i.invariant c.requires.enough
    c.put_line-filled.ensures.bytes c.put_line-filled.ensures.filled

pub returns : goal.returns
returns g c =
    let rs = g.S.Shelf.records c.args.shelf.now in
    let m = g.E.Edition.meaning c.args.edition.now in
    let n = c.loop-i.i + 1 in
    let all = copied m (between c.args.before (c.args.before + c.args.count) rs) in
    let none = left-none rs c.args.before c.args.count n (omega (arith, c.loop-i-test.false)) in
    filled_all all c.args.buffer.now c.loop-i.buffer c.loop-i.filled
    (subst (λ l. Filling ℕ all c.args.buffer.now c.loop-i.buffer c.loop-i.filled (copied m l)) none c.loop-i.invariant)
