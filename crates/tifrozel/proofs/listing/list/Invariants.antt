use Rattle.std.proofs.Common.{◌+◌, ◌≤◌, length}
use Rattle.tifrozel.proofs.Turns.{Leads}
use Rattle.tifrozel.proofs.listing.list.Given as goal

abbrev pub invariant-loop-rest : goal.invariant-loop-rest
invariant-loop-rest g l = (l.records + length l.rest ≤ length l.bytes) × Leads (g.E.Edition.meaning l.edition) l.bytes l.records l.rest

abbrev pub decreases-loop-rest : goal.decreases-loop-rest
decreases-loop-rest g l = length l.rest
