use Rattle.std.proofs.Common.{◌≡◌, ℕ, length, refl, arith}
use Rattle.filing.specs.Volumes.{entries_of}
use Rattle.report.specs.Rows.{rows_of}
use Rattle.filing.specs.declared.faults.VolumeFault.TheVariants.{RowsShort}
use Rattle.filing.specs.Refusals.{of_showing}
use Rattle.showing.proofs.Filled.{fills_entry}
use Rattle.showing.proofs.Giving.{read_gives}
use Rattle.showing.proofs.Riders.{reads_entry}
use Rattle.showing.proofs.table.show.Goals as goal

pub returns-clause-reads : goal.returns-clause-reads
returns-clause-reads g c =
    let m = g.E.Edition.meaning c.args.edition.now in
    reads_entry RowsShort (λ n k f h. let z : ◌≡◌ {A = ℕ} 0 1 = cc in omega arith) (length c.args.rows.now) (rows_of m) m c.args.entry (entries_of (g.S.Shelf.records c.args.shelf.now)) c.show_entry.result c.show_entry.ensures.answer

pub returns-clause-refusals : goal.returns-clause-refusals
returns-clause-refusals g c =
    let m = g.E.Edition.meaning c.args.edition.now in
    read_gives of_showing (0, omega arith, refl) (1, omega arith, refl) (2, omega arith, refl) m c.args.entry (entries_of (g.S.Shelf.records c.args.shelf.now)) RowsShort (length c.args.rows.now) (rows_of m)
    (λ n. (3, omega arith, refl)) c.show_entry.result c.show_entry.ensures.answer

pub returns-clause-fills : goal.returns-clause-fills
returns-clause-fills g c =
    let m = g.E.Edition.meaning c.args.edition.now in
    fills_entry (rows_of m) RowsShort m c.args.entry (entries_of (g.S.Shelf.records c.args.shelf.now)) c.args.rows.now c.show_entry.new.rows c.show_entry.result c.show_entry.ensures.answer c.show_entry.ensures.table
