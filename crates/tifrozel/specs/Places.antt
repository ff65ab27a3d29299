-- A shelf's file in memory.
use Rattle.std.specs.Prelude.{ℕ, ◌*◌, ◌-◌, List, ◌++◌, length, take, replicate}

-- so many places of 80 bytes: those of the file as far as they go, then zeros
abbrev pub with_places : ℕ → List ℕ → List ℕ
with_places limit file = let kept = take (80 * limit) file in kept ++ replicate (80 * limit - length kept) 0
