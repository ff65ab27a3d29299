use Rattle.std.proofs.Common.{length, take, ap, ◌∙◌}
use Rattle.std.specs.Result.{is_ok}
use Rattle.std.proofs.lemmas.Result.{err_from_is_err_and}
use Rattle.file.proofs.Entering.{finds-room, no_room}
use Rattle.file.proofs.payers.TableU64Payers.enter.Goals as goal

pub returns-clause-room : goal.returns-clause-room
returns-clause-room c =
    let t = c.args.self.now in
    (finds-room (length t.rows.now) (take t.used t.rows.now) c.args.entry.key c.args.entry.added c.args.entry.taken _ c.in_ok-enter.ensures.entered.held).0

pub returns-clause-rows : goal.returns-clause-rows
returns-clause-rows c =
    let t = c.args.self.now in
    (finds-room (length t.rows.now) (take t.used t.rows.now) c.args.entry.key c.args.entry.added c.args.entry.taken _ c.in_ok-enter.ensures.entered.held).1

pub returns-in_err-enter-clause-room : goal.returns-in_err-enter-clause-room
returns-in_err-enter-clause-room c =
    let t = c.args.self.now in
    let refused = err_from_is_err_and c.from_residual.result c.from_residual.ensures.1 in
    ap is_ok refused.1 ∙ no_room (length t.rows.now) (take t.used t.rows.now) c.args.entry.key c.args.entry.added c.args.entry.taken c.in_err-enter.ensures.entered.held
