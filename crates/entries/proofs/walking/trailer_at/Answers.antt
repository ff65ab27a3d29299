use Rattle.std.proofs.Common.{rules}
use Rattle.entries.proofs.Walks.{placed_cases}
use Rattle.entries.proofs.walking.trailer_at.Goals as goal

pub returns-clause-placed : goal.returns-clause-placed
returns-clause-placed g c = search (rules, placed_cases)
