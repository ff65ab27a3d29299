-- What a call has to do with the list of calls that led to it.
use Rattle.std.specs.Prelude.{◌≡◌, ℕ, Bool, ◌<◌, ◌≤◌, List, [], ◌∷◌, ◌++◌, Ok, Err, Result}
use Rattle.shelf.specs.Records.{highest}
use Rattle.filing.specs.declared.faults.VolumeFault.{VolumeFault}
use Rattle.filing.specs.declared.standing.Standing.TheVariants.{Open}
use Rattle.filing.specs.Volumes.{Records}
use Rattle.volume.specs.declared.tokens.Volume.{Volume}
use Rattle.volume.specs.Tokens.{says}
use Rattle.law.specs.Archive.{Archive, Told, empty, Call, Answer, answer, after_all, AllAllowed}
use Rattle.law.specs.Law.{shelf_of, Lawful}
use Rattle.law.specs.TwoRuns.{CallsAlike, SameCalls}

-- what these calls make of an empty shelf with this limit
abbrev pub archive : ℕ → List Call → Archive
archive limit past = after_all (empty limit) past

-- a shelf with these records and this room is what these calls have made of an empty shelf with this limit
pub record Made (limit : ℕ) (past : List Call) (rs : Records) (room : ℕ) : Type 0 where
  -- the empty shelf opens, as it has a place; and no shelf has more than the highest limit
  pub some : 0 < limit
  pub bound : limit ≤ highest
  -- the list holds no taking in after a closing, and no second closing
  pub allowed : AllAllowed Open past
  -- the records are what filing the files that were taken in lays down
  pub lies : rs ≡ shelf_of (archive limit past)
  -- the limit is as it was
  pub same : room ≡ limit

-- after these calls the call answers as another depositor's same call, but for record numbers, which follow. Which codes are spare is left
-- open, so that it is said of those that the whole lists leave free, with the calls to come
abbrev pub Alike : ℕ → List Call → Call → Answer → Type 0
Alike limit past c a =
    (spare : ℕ → Bool) (other : ℕ) (others : List Call) (d : Call) → SameCalls spare limit (past ++ c ∷ []) other (others ++ d ∷ [])
    → CallsAlike spare (archive limit past) (archive other others) c d a (answer (archive other others) d)

-- the call answers what the rules say of the archive that the calls before have made; the law holds of that archive, and of the one that
-- the list with this call makes; another depositor's same call answers alike; the shelf is then what the list with this call makes
pub record Goes (limit : ℕ) (past : List Call) (c : Call) (a : Answer) (rs : Records) (room : ℕ) : Type 0 where
  pub answers : a ≡ answer (archive limit past) c
  pub lawful : Lawful (archive limit past)
  pub later : Lawful (archive limit (past ++ c ∷ []))
  pub alike : Alike limit past c a
  pub on : Made limit (past ++ c ∷ []) rs room

-- THE CLAUSE of each call: whatever list of calls, on a shelf of whatever limit that was empty, has led to the shelf; with its records
-- and room before and after the call
abbrev pub InLaw : Records → ℕ → Call → Answer → Records → ℕ → Type 0
InLaw rs room c a left left_room = (limit : ℕ) (past : List Call) → Made limit past rs room → Goes limit past c a left left_room

-- every list of calls on an empty shelf makes an archive of which the law holds
pub record EveryRun : Type 0 where
  pub every : (limit : ℕ) → 0 < limit → limit ≤ highest → (cs : List Call) → AllAllowed Open cs → Lawful (archive limit cs)

-- what opening tells, by the token
abbrev pub tells : Volume → Told
tells v = record { entries = (says v).entries; standing = (says v).standing }

abbrev pub told : Result Volume VolumeFault → Result Told VolumeFault
told (Ok v) = Ok (tells v)
told (Err f) = Err f
