-- Riders that an edition finds wrong, in the words of the rules.
use Rattle.std.specs.Prelude.{◌≡◌, ℕ, ◌+◌, false, ◌⊎◌, List, ◌∷◌, ◌++◌, length, Some, Option, ◌≢◌}
use Rattle.field.specs.Chains.{and_then}
use Rattle.record.specs.declared.editions.Level.{Level}
use Rattle.record.specs.Editions.{Meaning}
use Rattle.manual.specs.declared.faults.Cause.{Cause}
use Rattle.manual.specs.declared.faults.Cause.TheVariants as cause
use Rattle.manual.specs.declared.faults.FileFault.{FileFault}
use Rattle.manual.specs.Manual.{last_kind, level_after}
use Rattle.manual.specs.Wrong.{Rides}

-- the place behind these records has this level, by the last core record
abbrev pub level_of : List (List ℕ) → Option Level
level_of before = and_then (last_kind before) level_after

-- the edition finds this rider wrong behind these records, for this cause: at another level than its place has (14), or at that level and ill-formed (13)
abbrev pub WrongRider : (m : Meaning) → List (List ℕ) → (x : List ℕ) → Rides m x → Cause → Type 0
WrongRider m before x k c =
    ((level_of before ≢ Some k.level) × (c ≡ cause.RiderLevel))
    ⊎ ((level_of before ≡ Some k.level) × (m.formed k.code x ≡ false) × (c ≡ cause.RiderIllFormed))

-- the edition knows a record of these and finds it wrong
pub record Finds (m : Meaning) (rs : List (List ℕ)) : Type 0 where
  pub before : List (List ℕ)
  pub line : List ℕ
  pub behind : List (List ℕ)
  pub lies : rs ≡ before ++ line ∷ behind
  pub knows : Rides m line
  pub cause : Cause
  pub wrong : WrongRider m before line knows cause

-- the fault is that of the first such record
pub record FindsFirst (m : Meaning) (rs : List (List ℕ)) (f : FileFault) : Type 0 where
  pub found : Finds m rs
  pub number : f.number ≡ length found.before + 1
  pub cause : f.cause ≡ found.cause
  pub first : Finds m found.before → ⊥
