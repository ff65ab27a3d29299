use Rattle.std.proofs.Common.{ap, ◌∙◌}
use Rattle.record.specs.declared.classes.Class.TheVariants as class
use Rattle.record.specs.declared.classes.Sort.TheVariants as sort
use Rattle.record.proofs.Sorted.{class_sorted}
use Rattle.record.proofs.classes.classify.Goals as goal

pub returns-in-BadCode-clause-class : goal.returns-in-BadCode-clause-class
returns-in-BadCode-clause-class g c = class_sorted (g.E.Edition.meaning c.args.edition.now) c.args.line.now sort.BadCode c.in-BadCode.ensures

pub returns-in-Core-clause-class : goal.returns-in-Core-clause-class
returns-in-Core-clause-class g c =
    ap (class.Core c.in-Core.kind) c.read_core.ensures
    ∙ class_sorted (g.E.Edition.meaning c.args.edition.now) c.args.line.now (sort.Core c.in-Core.kind) c.in-Core.ensures

pub returns-in-Rider-clause-class : goal.returns-in-Rider-clause-class
returns-in-Rider-clause-class g c = class_sorted (g.E.Edition.meaning c.args.edition.now) c.args.line.now (sort.Rider c.in-Rider.rider) c.in-Rider.ensures

pub returns-in-Unknown-clause-class : goal.returns-in-Unknown-clause-class
returns-in-Unknown-clause-class g c = class_sorted (g.E.Edition.meaning c.args.edition.now) c.args.line.now sort.Unknown c.in-Unknown.ensures
