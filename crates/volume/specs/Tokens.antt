-- Tokens: what stands for an opened volume in a program. A token is a shelf's own where opening that shelf would find just what it says.
use Rattle.std.specs.Prelude.{◌≡◌, ℕ, Ok, Err, Result}
use Rattle.filing.specs.declared.faults.VolumeFault.{VolumeFault}
use Rattle.filing.specs.declared.standing.Opened.{Opened}
use Rattle.filing.specs.declared.standing.Standing.{Standing}
use Rattle.filing.specs.declared.standing.Standing.TheVariants as standing
use Rattle.filing.specs.Entries.{reads}
use Rattle.filing.specs.Volumes.{Records, opening}
use Rattle.volume.specs.declared.tokens.OpenVolume.{OpenVolume}
use Rattle.volume.specs.declared.tokens.ClosedVolume.{ClosedVolume}
use Rattle.volume.specs.declared.tokens.Volume.{Volume}
use Rattle.volume.specs.declared.tokens.Volume.TheVariants.{Open, Closed}

-- what opening found, as the tokens say it
abbrev pub open_says : OpenVolume → Opened
open_says t = record { entries = t.entries; last = t.last; standing = standing.Open }

abbrev pub closed_says : ClosedVolume → Opened
closed_says t = record { entries = t.entries; last = t.last; standing = standing.Closed }

abbrev pub says : Volume → Opened
says (Open t) = open_says t
says (Closed t) = closed_says t

-- the token of what opening found
abbrev pub token_by : Standing → ℕ → ℕ → Volume
token_by standing.Open entries last = Open (record { entries = entries; last = last })
token_by standing.Closed entries last = Closed (record { entries = entries; last = last })

abbrev pub token_of : Opened → Volume
token_of o = token_by o.standing o.entries o.last

abbrev pub with_token : Result Opened VolumeFault → Result Volume VolumeFault
with_token (Ok o) = Ok (token_of o)
with_token (Err e) = Err e

-- what opening a shelf with these records and this limit finds: entries read as files under the bare edition, payers not judged
abbrev pub found_on : Records → ℕ → Result Opened VolumeFault
found_on rs limit = opening reads limit rs

-- a token is the own one of a shelf with these records and this limit
abbrev pub Own : Volume → Records → ℕ → Type 0
Own v rs limit = found_on rs limit ≡ Ok (says v)

abbrev pub OwnOpen : OpenVolume → Records → ℕ → Type 0
OwnOpen t rs limit = found_on rs limit ≡ Ok (open_says t)

abbrev pub OwnClosed : ClosedVolume → Records → ℕ → Type 0
OwnClosed t rs limit = found_on rs limit ≡ Ok (closed_says t)
