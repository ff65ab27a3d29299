use Rattle.std.proofs.Common.{[], get_or, ◌-◌}
use Rattle.filing.specs.Volumes.{entries_of}
use Rattle.report.proofs.Listed.{rows_stand}
use Rattle.showing.proofs.table.show_entry.Goals as goal

pub returns-clause-stands : goal.returns-clause-stands
returns-clause-stands g c = rows_stand (g.E.Edition.meaning c.args.edition.now) (get_or (entries_of (g.S.Shelf.records c.args.shelf.now)) (c.args.entry - 1) [])
