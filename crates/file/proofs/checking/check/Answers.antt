use Rattle.std.proofs.Common.{length, subst, sym}
use Rattle.manual.specs.Accepting.{Right}
use Rattle.manual.proofs.Accepting.{right}
use Rattle.file.proofs.checking.check.Goals as goal

pub returns-clause-manual : goal.returns-clause-manual
returns-clause-manual g c =
    let cap = length c.args.payers.now in
    let m = g.E.Edition.meaning c.args.edition.now in
    subst (Right cap m c.args.file.now) (sym c.judge_lines.ensures) (right cap m c.args.file.now)
