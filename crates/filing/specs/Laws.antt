-- What holds of volumes: opening finds what was laid, and finds nothing else.
use Rattle.std.specs.Prelude.{◌≡◌, ℕ, ◌+◌, ◌^◌, ◌<◌, ◌≤◌, List, [], ◌∷◌, ◌++◌, length, Ok}
use Rattle.shelf.specs.Records.{Whole, highest}
use Rattle.trailer.specs.declared.layout.Totals.{Totals}
use Rattle.trailer.specs.Trailers.{trailer_of, closing_of}
use Rattle.trailer.specs.Laws.{Fits}
use Rattle.filing.specs.declared.standing.Opened.{Opened}
use Rattle.filing.specs.declared.standing.Standing.{Standing}
use Rattle.filing.specs.declared.standing.Standing.TheVariants.{Open, Closed}
use Rattle.filing.specs.Volumes.{Records, Reads, trailer_behind, lay, lay_from, volume, last_trailer, opening, top_of, entries_of}

-- the entry can be read, and what it comes to fits the digits of a trailer
pub record Good (reads : Reads) (e : Records) : Type 0 where
  pub totals : Totals
  pub is : reads e ≡ Ok totals
  pub fits : Fits totals

abbrev pub All-good : Reads → List Records → Type 0
All-good reads [] = Unit {0}
All-good reads (e ∷ es) = Good reads e × All-good reads es

-- an open volume of so many records leaves one place free
abbrev pub Room : Standing → ℕ → ℕ → Type 0
Room Open count limit = count < limit
Room Closed count limit = Unit {0}

-- what opening is to answer of the volume of these entries
abbrev pub of_entries : Reads → Standing → List Records → Opened
of_entries reads s es = record { entries = length es; last = length (lay reads es); standing = s }

-- the shelf is the volume of the entries found on it; they are good and as many as were answered, and `last` is the place of their last trailer
pub record Held (reads : Reads) (o : Opened) (rs : Records) : Type 0 where
  pub lies : rs ≡ volume reads o.standing (entries_of rs)
  pub good : All-good reads (entries_of rs)
  pub many : length (entries_of rs) ≡ o.entries
  pub last : o.last ≡ length (lay reads (entries_of rs))
  pub top : o.last ≡ top_of rs

-- there are good entries whose volume the shelf is, as many as were answered and with their last trailer there, and room for a closing record
pub record Stands (reads : Reads) (limit : ℕ) (o : Opened) (rs : Records) : Type 0 where
  pub entries : List Records
  pub lies : rs ≡ volume reads o.standing entries
  pub good : All-good reads entries
  pub many : length entries ≡ o.entries
  pub last : o.last ≡ last_trailer o.standing (length rs)
  pub room : Room o.standing (length rs) limit

-- opening answers this, and these are the entries on the shelf
pub record Found (reads : Reads) (limit : ℕ) (o : Opened) (rs : Records) (es : List Records) : Type 0 where
  pub opens : opening reads limit rs ≡ Ok o
  pub entries : entries_of rs ≡ es

-- the records of an open volume of k entries with one entry more and its trailer
abbrev pub taken : Reads → ℕ → Records → Records → Records
taken reads k rs e = rs ++ (e ++ trailer_of (trailer_behind reads k (length rs) e) ∷ [])

-- the records of an open volume of k entries with its closing record
abbrev pub closed : ℕ → Records → Records
closed k rs = rs ++ closing_of k (length rs) ∷ []

pub record FilingLaws : Type 0 where
  -- opening finds the entries that were laid
  pub finds : (reads : Reads) (s : Standing) (limit : ℕ) (es : List Records) → All-good reads es → length (lay reads es) < 10 ^ 8
      → Room s (length (lay reads es)) limit → opening reads limit (volume reads s es) ≡ Ok (of_entries reads s es)
  -- where opening answers, the shelf is the volume of the entries found on it
  pub holds : (reads : Reads) (limit : ℕ) (rs : Records) (o : Opened) → Whole rs → opening reads limit rs ≡ Ok o → Held reads o rs
  -- so opening answers exactly where the shelf is a volume of good entries, open with room or closed
  pub exactly : (reads : Reads) (limit : ℕ) (rs : Records) (o : Opened) → Whole rs → length rs ≤ limit → limit ≤ highest
      → (opening reads limit rs ≡ Ok o → Stands reads limit o rs) × (Stands reads limit o rs → opening reads limit rs ≡ Ok o)
  -- one entry more is laid behind the others, with its trailer
  pub one_more : (reads : Reads) (es : List Records) (e : Records)
      → lay reads (es ++ e ∷ []) ≡ lay reads es ++ (e ++ trailer_of (trailer_behind reads (length es) (length (lay reads es)) e) ∷ [])
  -- entries lie in order, from the first one on
  pub in_order : (reads : Reads) (es : List Records) → lay reads es ≡ lay_from reads 0 0 es
  -- two lists of good entries are not laid alike
  pub once : (reads : Reads) (s t : Standing) (es fs : List Records) → All-good reads es → All-good reads fs
      → length (lay reads es) < 10 ^ 8 → length (lay reads fs) < 10 ^ 8 → volume reads s es ≡ volume reads t fs → es ≡ fs
  -- an open volume with a good entry and its trailer added is found with that entry as its last one
  pub takes_in : (reads : Reads) (limit : ℕ) (rs e : Records) (o : Opened) → Whole rs → opening reads limit rs ≡ Ok o → o.standing ≡ Open
      → Good reads e → length rs + length e + 1 < limit → limit ≤ 10 ^ 8
      → Found reads limit (record { entries = o.entries + 1; last = length rs + length e + 1; standing = Open })
      (taken reads o.entries rs e) (entries_of rs ++ e ∷ [])
  -- an open volume with its closing record added is found closed, with the same entries
  pub closes : (reads : Reads) (limit : ℕ) (rs : Records) (o : Opened) → Whole rs → opening reads limit rs ≡ Ok o → o.standing ≡ Open
      → length rs < 10 ^ 8
      → Found reads limit (record { entries = o.entries; last = o.last; standing = Closed }) (closed o.entries rs) (entries_of rs)
  -- where opening answers an open volume, one place is free
  pub open_room : (reads : Reads) (limit : ℕ) (rs : Records) (o : Opened) → opening reads limit rs ≡ Ok o → o.standing ≡ Open → length rs < limit
