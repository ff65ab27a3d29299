use Rattle.std.proofs.Common.{◌≡◌, ℕ, length, refl, arith}
use Rattle.filing.specs.Volumes.{entries_of}
use Rattle.report.specs.Copies.{copied}
use Rattle.filing.specs.declared.faults.VolumeFault.TheVariants.{CopyShort}
use Rattle.filing.specs.Refusals.{of_copying}
use Rattle.showing.proofs.Filled.{fills_entry}
use Rattle.showing.proofs.Giving.{read_gives}
use Rattle.showing.proofs.Riders.{reads_entry}
use Rattle.showing.proofs.copying.plain_copy.Goals as goal

pub returns-clause-reads : goal.returns-clause-reads
returns-clause-reads g c =
    let m = g.E.Edition.meaning c.args.edition.now in
    reads_entry CopyShort (λ n k f h. let z : ◌≡◌ {A = ℕ} 0 1 = cc in omega arith) (length c.args.buffer.now) (copied m) m c.args.entry (entries_of (g.S.Shelf.records c.args.shelf.now)) c.copy_entry.result c.copy_entry.ensures.answer

pub returns-clause-refusals : goal.returns-clause-refusals
returns-clause-refusals g c =
    let m = g.E.Edition.meaning c.args.edition.now in
    read_gives of_copying (0, omega arith, refl) (1, omega arith, refl) (2, omega arith, refl) m c.args.entry (entries_of (g.S.Shelf.records c.args.shelf.now)) CopyShort (length c.args.buffer.now) (copied m)
    (λ n. (3, omega arith, refl)) c.copy_entry.result c.copy_entry.ensures.answer

pub returns-clause-fills : goal.returns-clause-fills
returns-clause-fills g c =
    let m = g.E.Edition.meaning c.args.edition.now in
    fills_entry (copied m) CopyShort m c.args.entry (entries_of (g.S.Shelf.records c.args.shelf.now)) c.args.buffer.now c.copy_entry.new.buffer c.copy_entry.result c.copy_entry.ensures.answer c.copy_entry.ensures.buffer
