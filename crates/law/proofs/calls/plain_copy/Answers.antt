use Rattle.law.proofs.InLaw.{in_law_copied}
use Rattle.law.proofs.calls.plain_copy.Goals as goal

pub returns-clause-law : goal.returns-clause-law
returns-clause-law g c =
    in_law_copied (g.S.Shelf.records c.args.shelf.now) (g.S.Shelf.room c.args.shelf.now) c.args.entry (g.E.Edition.meaning c.args.edition.now) c.args.buffer.now c.plain_copy.new.buffer c.plain_copy.result c.plain_copy.ensures.answer c.plain_copy.ensures.buffer
