-- An archive as its readers know it: the files that were taken in, and what each call answers of them. Nothing here knows of tokens, of
-- a walk from trailer to trailer, or of where an entry lies. It is what the calls of this crate, and of the
-- crate `archive`, stand for.
use Rattle.std.specs.Prelude.{ℕ, ◌+◌, List, [], ◌∷◌, ◌++◌, map, length, Ok, Err, Result}
use Rattle.field.specs.Chains.{then}
use Rattle.record.specs.declared.rows.Row.{Row as Shown}
use Rattle.record.specs.Editions.{Meaning}
use Rattle.sums.specs.declared.Row.{Row}
use Rattle.manual.specs.Judging.{check_of}
use Rattle.manual.specs.Laws.{judging}
use Rattle.filing.specs.declared.faults.VolumeFault.{VolumeFault}
use Rattle.filing.specs.declared.standing.Standing.{Standing}
use Rattle.filing.specs.declared.standing.Standing.TheVariants.{Open, Closed}
use Rattle.filing.specs.Volumes.{Records}
use Rattle.filing.specs.Taking.{by_file, admitted}
use Rattle.volume.specs.Taking.{fetched, fetch_answer, fetch_bytes}
use Rattle.report.specs.declared.pairs.Pair.{Pair}
use Rattle.report.specs.Listing.{records_in}
use Rattle.showing.specs.Showing.{shown, how_many, filled_in}
use Rattle.balancing.specs.Balancing.{balanced, balance_answer, balance_table}

-- a file that was taken in, and the edition of its taking in
pub record TakenFile : Type 0 where
  pub bytes : List ℕ
  pub edition : Meaning

-- its records
abbrev pub records_of : TakenFile → Records
records_of t = records_in t.bytes

pub record Archive : Type 0 where
  pub files : List TakenFile
  pub standing : Standing
  -- how many records its shelf can hold
  pub limit : ℕ

-- nothing taken in yet
abbrev pub empty : ℕ → Archive
empty limit = record { files = []; standing = Open; limit = limit }

-- entry k is the k-th file that was taken in
abbrev pub entries : Archive → List Records
entries a = map records_of a.files

-- how many records files take on a shelf, each with one more that sums it up
abbrev pub places : List TakenFile → ℕ
places [] = 0
places (t ∷ ts) = length (records_of t) + 1 + places ts

-- THE CALLS, each with all that it brings. Of a payer table only its length matters.
pub data Call : Type 0 where
  taking_in : (file : List ℕ) (edition : Meaning) (payers : ℕ) → Call
  closing : Call
  opening_again : Call
  showing : (entry : ℕ) (edition : Meaning) (table : List Shown) → Call
  fetching : (entry number : ℕ) (bytes : List ℕ) → Call
  balancing : (table : List (Row Pair)) → Call

-- what opening tells: how many entries there are, and whether files can still be taken in
pub record Told : Type 0 where
  pub entries : ℕ
  pub standing : Standing

-- WHAT THEY ANSWER, with every table and buffer afterwards but the payer table
pub data Answer : Type 0 where
  taken_in : Result ℕ VolumeFault → Answer
  closed : Answer
  opened : Result Told VolumeFault → Answer
  rows : Result ℕ VolumeFault → List Shown → Answer
  bytes : Result (Unit {0}) VolumeFault → List ℕ → Answer
  sums : Result ℕ VolumeFault → List (Row Pair) → Answer

-- taking in: the file's refusals, then those of the volume, or the number of the entry
abbrev pub taking : Archive → List ℕ → Meaning → ℕ → Result ℕ VolumeFault
taking a file m payers =
    then (by_file (check_of (judging payers) m file)) (λ _.
    then (admitted a.limit (places a.files) (entries a) (records_in file)) (λ _. Ok (length a.files + 1)))

abbrev pub answer : Archive → Call → Answer
answer a (taking_in file m payers) = taken_in (taking a file m payers)
answer a closing = closed
answer a opening_again = opened (Ok (record { entries = length a.files; standing = a.standing }))
answer a (showing k m table) = let s = shown m k (length table) (entries a) in rows (how_many s) (filled_in s table)
answer a (fetching k n out) = let f = fetched k n (entries a) in bytes (fetch_answer f) (fetch_bytes f out)
answer a (balancing table) = let b = balanced (length table) (entries a) in sums (balance_answer b) (balance_table b (length table))

-- WHAT THEY CHANGE: only taking in and closing do

-- one file more, unless it was refused
abbrev pub with_file : Archive → TakenFile → Result ℕ VolumeFault → Archive
with_file a t (Ok k) = record { files = a.files ++ t ∷ []; standing = a.standing; limit = a.limit }
with_file a t (Err f) = a

abbrev pub shut : Archive → Archive
shut a = record { files = a.files; standing = Closed; limit = a.limit }

abbrev pub after : Archive → Call → Archive
after a (taking_in file m payers) = with_file a (record { bytes = file; edition = m }) (taking a file m payers)
after a closing = shut a
after a opening_again = a
after a (showing k m table) = a
after a (fetching k n out) = a
after a (balancing table) = a

-- LISTS OF CALLS

abbrev pub answers : Archive → List Call → List Answer
answers a [] = []
answers a (c ∷ cs) = answer a c ∷ answers (after a c) cs

abbrev pub after_all : Archive → List Call → Archive
after_all a [] = a
after_all a (c ∷ cs) = after_all (after a c) cs

-- the call lays nothing on the shelf
abbrev pub OnlyReads : Call → Type 0
OnlyReads (taking_in file m payers) = ⊥
OnlyReads closing = ⊥
OnlyReads opening_again = Unit {0}
OnlyReads (showing k m table) = Unit {0}
OnlyReads (fetching k n out) = Unit {0}
OnlyReads (balancing table) = Unit {0}

-- an open archive takes any call, a closed one takes no file in and is not closed again
abbrev pub Allowed : Standing → Call → Type 0
Allowed Open c = Unit {0}
Allowed Closed c = OnlyReads c

-- only closing closes
abbrev pub standing_after : Standing → Call → Standing
standing_after s (taking_in file m payers) = s
standing_after s closing = Closed
standing_after s opening_again = s
standing_after s (showing k m table) = s
standing_after s (fetching k n out) = s
standing_after s (balancing table) = s

-- a list of calls that holds neither of the two misuses, on an archive that stands so before it
abbrev pub AllAllowed : Standing → List Call → Type 0
AllAllowed s [] = Unit {0}
AllAllowed s (c ∷ cs) = Allowed s c × AllAllowed (standing_after s c) cs
