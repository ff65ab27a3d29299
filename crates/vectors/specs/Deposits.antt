-- What a dealer is to be sure of.
use Rattle.std.specs.Prelude.{◌≡◌, ℕ, Ok, Err, Result}
use Rattle.manual.specs.declared.faults.FileFault.{FileFault}
use Rattle.filing.specs.declared.faults.VolumeFault.{VolumeFault}
use Rattle.filing.specs.declared.faults.VolumeFault.TheVariants.{Rider}

-- it is no refusal by 13 or 14
abbrev pub NotWrong : Result ℕ VolumeFault → Type 0
NotWrong r = (k : ℕ) (f : FileFault) → r ≡ Err (Rider k f) → ⊥

-- both are shown in as many rows, or neither is shown
abbrev pub EqualCounts : Result ℕ VolumeFault → Result ℕ VolumeFault → Type 0
EqualCounts (Ok n) (Ok k) = n ≡ k
EqualCounts (Ok n) (Err f) = ⊥
EqualCounts (Err e) (Ok k) = ⊥
EqualCounts (Err e) (Err f) = Unit {0}
