-- What opening and taking in have to do with the manual: a shelf opens exactly where it is what filing some entries with a tree lays
-- down, and taking in lays what the file's reading comes to.
use Rattle.std.specs.Prelude.{◌≡◌, ℕ, List, [], ◌∷◌, ◌++◌, length, Ok, Result}
use Rattle.record.specs.Editions.{Meaning}
use Rattle.trailer.specs.declared.layout.Totals.{Totals}
use Rattle.trailer.specs.Trailers.{trailer_of}
use Rattle.manual.specs.Manual.{Reading, Follows}
use Rattle.filing.specs.declared.faults.VolumeFault.{VolumeFault}
use Rattle.filing.specs.Volumes.{Records, trailer_with, closing_behind, entries_of}
use Rattle.filing.specs.Laws.{Room}
use Rattle.filing.specs.Readings.{EntryReads, Sums, Lie}
use Rattle.volume.specs.declared.tokens.OpenVolume.{OpenVolume}
use Rattle.volume.specs.declared.tokens.Volume.{Volume}
use Rattle.volume.specs.Tokens.{says}

-- a shelf with these records and this limit holds these entries, as the token says
pub record Holds (rs : Records) (limit : ℕ) (v : Volume) (es : List Records) : Type 0 where
  -- the records that the entries take with their trailers
  pub places : Records
  -- each entry has a tree, and lies there with the trailer of what that comes to
  pub lie : Lie 0 0 es places
  -- behind them stands the closing record where the volume is closed, and nothing where it is open
  pub lies : rs ≡ places ++ closing_behind (says v).standing (length es) (length places)
  -- the token has their number, and the place of the last trailer
  pub many : length es ≡ (says v).entries
  pub last : (says v).last ≡ length places
  -- where the volume is open, one place is free
  pub room : Room (says v).standing (length rs) limit

-- an answer to opening such a shelf is right
pub record OpensExactly (rs : Records) (limit : ℕ) (answer : Result Volume VolumeFault) : Type 0 where
  -- what is opened holds the entries that are found on it
  pub opened : (v : Volume) → answer ≡ Ok v → Holds rs limit v (entries_of rs)
  -- what holds entries is opened
  pub opens : (v : Volume) (es : List Records) → Holds rs limit v es → answer ≡ Ok v
  -- and these are the entries that are found on it
  pub once : (v : Volume) (es : List Records) → Holds rs limit v es → es ≡ entries_of rs

-- this file was taken in under an edition with this meaning: the shelf held rs and the token stood for its open volume, the file's
-- records are e, and afterwards the shelf holds this
pub record Laid (m : Meaning) (bytes : List ℕ) (t : OpenVolume) (rs e after : Records) : Type 0 where
  -- the file has a reading
  pub reading : Reading
  pub follows : Follows m bytes reading
  -- whose tree is also that of its records as an entry
  pub entry : EntryReads e reading.tree
  -- the records lie behind the others, with the trailer of what the tree comes to
  pub totals : Totals
  pub sums : Sums reading.tree totals
  pub lies : after ≡ rs ++ (e ++ trailer_of (trailer_with t.entries (length rs) e totals) ∷ [])
