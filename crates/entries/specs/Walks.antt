-- What a walk over a shelf finds, as code holds it: how many entries, and a trailer at a time.
use Rattle.std.specs.Prelude.{ℕ, suc, ◌+◌, cond, List, [], ◌∷◌, length, Some, None, Ok, Err, Option, Result, ◌==◌}
use Rattle.std.specs.List.{between}
use Rattle.trailer.specs.declared.layout.Trailer.{Trailer}
use Rattle.filing.specs.declared.faults.VolumeFault.{VolumeFault}
use Rattle.filing.specs.Volumes.{Part, Records, walk, parts_or}

-- how many parts were found, with k counted before
abbrev pub counted_from : ℕ → Result (List Part) VolumeFault → Result ℕ VolumeFault
counted_from k (Ok ps) = Ok (k + length ps)
counted_from k (Err e) = Err e

abbrev pub counted : Result (List Part) VolumeFault → Result ℕ VolumeFault
counted (Ok ps) = Ok (length ps)
counted (Err e) = Err e

-- the parts in the records up to a number, the newest first; none where the walk is refused
abbrev pub parts_below : Records → ℕ → List Part
parts_below rs top = parts_or (walk rs top top)

-- the trailers of such parts, each with its entry's number
abbrev pub numbered : List Part → List (ℕ × Trailer)
numbered [] = []
numbered (p ∷ ps) = (suc (length ps), p.trailer) ∷ numbered ps

-- a trailer with the entry before it
abbrev pub part_of : Records → Trailer → Part
part_of rs t = record { entry = between t.previous (t.previous + t.records) rs; trailer = t }

-- the part of the entry with this number
abbrev pub part_numbered : ℕ → List Part → Option Part
part_numbered k [] = None
part_numbered k (p ∷ ps) = cond (suc (length ps) == k) (Some p) (part_numbered k ps)
