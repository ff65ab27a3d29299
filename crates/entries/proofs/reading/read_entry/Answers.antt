use Rattle.std.proofs.Common.{◌≡◌, ◌+◌, [], ap, ◌∙◌, sym, arith, rules, Ok, Err}
use Rattle.std.specs.List.{between}
use Rattle.std.proofs.lemmas.Result.{err_from_is_err_and}
use Rattle.record.specs.Classes.{class_of}
use Rattle.record.specs.Editions.{bare}
use Rattle.manual.specs.Laws.{not_judging}
use Rattle.file.specs.Judges.{held_by, read_step, finished}
use Rattle.file.specs.Lines.{slot_in}
use Rattle.filing.specs.Entries.{slot_of, deposits_behind, deposits_from}
use Rattle.entries.proofs.Entries.{read-stop, read_on, read_end, read_unended, left_from, left-next, left-none}
use Rattle.entries.proofs.reading.read_entry.Goals as goal

pub returns-in_err-read : goal.returns-in_err-read
returns-in_err-read g c =
    let rs = g.S.Shelf.records c.args.shelf.now in
    let n = c.loop-i.i + 1 in
    let s = held_by c.loop-i.judge [] in
    let next = left-next rs c.args.before c.args.count c.requires n (omega arith) (omega (arith, c.loop-i-test.true)) in
    let refused = err_from_is_err_and c.from_residual.result c.from_residual.ensures.1 in
    let item = c.line_of.ensures ∙ ap slot_of c.record_at-item.ensures in
    refused.1 ∙ ap Err refused.2 ∙ read-stop _ _ n s c.loop-i.invariant.0 _ _ next _ (c.in_err-read.ensures.state ∙ ap (λ k. read_step not_judging bare k s (slot_in c.line_of.result)) (search rules) ∙ ap (read_step not_judging bare n s) item)

pub loop-i-preserved : goal.loop-i-preserved
loop-i-preserved g c =
    let rs = g.S.Shelf.records c.args.shelf.now in
    let es = between c.args.before (c.args.before + c.args.count) rs in
    let n = c.loop-i.i + 1 in
    let s = held_by c.loop-i.judge [] in
    let next = left-next rs c.args.before c.args.count c.requires n (omega arith) (omega (arith, c.loop-i-test.true)) in
    let item = c.line_of.ensures ∙ ap slot_of c.record_at-item.ensures in
    let later = left_from rs c.args.before c.args.count (n + 1) in
    let sums = ap (λ x. deposits_from x later) (c.add_deposit.ensures ∙ ap (λ r. deposits_behind c.loop-i.deposits (class_of bare r)) c.record_at-item.ensures) in (
      read_on es _ n s c.loop-i.invariant.0 _ _ next (held_by c.read.new.self []) (c.in_ok-read.ensures.state ∙ ap (λ k. read_step not_judging bare k s (slot_in c.line_of.result)) (search rules) ∙ ap (read_step not_judging bare n s) item),
      sums ∙ ap (deposits_from c.loop-i.deposits) (sym next) ∙ c.loop-i.invariant.1,
    )

pub returns-in_err-finish : goal.returns-in_err-finish
returns-in_err-finish g c =
    let rs = g.S.Shelf.records c.args.shelf.now in
    let n = c.loop-i.i + 1 in
    let s = held_by c.loop-i.judge [] in
    let none = left-none rs c.args.before c.args.count n (omega (arith, c.loop-i-test.false)) in
    let all : c.args.count ≡ c.loop-i.i = omega (arith, c.loop-i-test.false, c.loop-i.auto.i-end) in
    let refused = err_from_is_err_and c.from_residual-in_err-finish.result c.from_residual-in_err-finish.ensures.1 in
    refused.1 ∙ ap Err refused.2 ∙ read_unended _ _ n s c.loop-i.invariant.0 none _ (c.in_err-finish.ensures ∙ ap (λ k. finished (k + 1) s) all)

pub returns : goal.returns
returns g c =
    let rs = g.S.Shelf.records c.args.shelf.now in
    let n = c.loop-i.i + 1 in
    let s = held_by c.loop-i.judge [] in
    let none = left-none rs c.args.before c.args.count n (omega (arith, c.loop-i-test.false)) in
    let all : c.args.count ≡ c.loop-i.i = omega (arith, c.loop-i-test.false, c.loop-i.auto.i-end) in
    ap Ok c.totals.ensures ∙ read_end _ _ n s c.loop-i.invariant.0 none _ c.loop-i.deposits c.loop-i.invariant.1 (c.in_ok-finish.ensures ∙ ap (λ k. finished (k + 1) s) all)
