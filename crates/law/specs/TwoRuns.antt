-- Two depositors who make the same calls with twin files.
use Rattle.std.specs.Prelude.{◌≡◌, ℕ, ◌-◌, Bool, true, ◌<◌, ◌≤◌, List, [], ◌∷◌, ◌++◌, length, Ok, Err, Result, slice_index_or}
use Rattle.record.specs.declared.rows.Row.{Row as Shown}
use Rattle.record.specs.Editions.{Meaning, Extends}
use Rattle.shelf.specs.Records.{highest}
use Rattle.sums.specs.declared.Row.{Row}
use Rattle.manual.specs.declared.faults.Cause.{Cause}
use Rattle.manual.specs.declared.faults.Cause.TheVariants as cause
use Rattle.filing.specs.declared.faults.VolumeFault.{VolumeFault}
use Rattle.filing.specs.declared.faults.VolumeFault.TheVariants.{File, Marked, SameStamp, NoRoom, NoEntry, Rider, RowsShort}
use Rattle.filing.specs.declared.standing.Standing.TheVariants.{Open}
use Rattle.filing.specs.Volumes.{Records}
use Rattle.report.specs.declared.pairs.Pair.{Pair}
use Rattle.law.specs.Archive.{Told, Archive, empty, entries, Call, taking_in, closing, opening_again, showing, fetching, balancing, Answer, taken_in, closed, opened, rows, bytes, sums, answer, after, AllAllowed}
use Rattle.report.specs.Listing.{records_in}
use Rattle.twins.specs.Twins.{spare_in, Twins, Follow, Partners}
use Rattle.twins.specs.Agreeing.{Each, fault_at, RowAlike}

-- the editions of a list of calls
abbrev pub editions : List Call → List Meaning
editions [] = []
editions (taking_in file m payers ∷ cs) = m ∷ editions cs
editions (closing ∷ cs) = editions cs
editions (opening_again ∷ cs) = editions cs
editions (showing k m table ∷ cs) = m ∷ editions cs
editions (fetching k n out ∷ cs) = editions cs
editions (balancing table ∷ cs) = editions cs

-- two editions have the same tables: each code has the same level, and of the records of a known code the same are well formed
abbrev pub SameEdition : Meaning → Meaning → Type 0
SameEdition m n = Extends m n × Extends n m

-- the same call, but for a file and its twin
pub data SameCall (spare : ℕ → Bool) : Call → Call → Type 0 where
  takes_in : (a b : List ℕ) (m n : Meaning) (payers : ℕ) → SameEdition m n → Twins spare a b → SameCall spare (taking_in a m payers) (taking_in b n payers)
  closes : SameCall spare closing closing
  opens : SameCall spare opening_again opening_again
  shows : (k : ℕ) (m n : Meaning) (table : List Shown) → SameEdition m n → SameCall spare (showing k m table) (showing k n table)
  fetches : (k n : ℕ) (out : List ℕ) → SameCall spare (fetching k n out) (fetching k n out)
  balances : (table : List (Row Pair)) → SameCall spare (balancing table) (balancing table)

-- two answers are equal but for record numbers, which F relates; those of fetching are set aside
pub data AnswerAlike (F : ℕ → ℕ → Type 0) : Answer → Answer → Type 0 where
  both_taken : (k : ℕ) → AnswerAlike F (taken_in (Ok k)) (taken_in (Ok k))
  both_refused : (c : Cause) (i j : ℕ) → F i j → AnswerAlike F (taken_in (Err (File (fault_at i c)))) (taken_in (Err (File (fault_at j c))))
  both_marked : AnswerAlike F (taken_in (Err Marked)) (taken_in (Err Marked))
  both_same : (k : ℕ) → AnswerAlike F (taken_in (Err (SameStamp k))) (taken_in (Err (SameStamp k)))
  both_closed : AnswerAlike F closed closed
  both_opened : (t : Told) → AnswerAlike F (opened (Ok t)) (opened (Ok t))
  -- so many rows are filled at the front of the table; the later ones are the same
  both_shown : (n : ℕ) (xs ys later : List Shown) → length xs ≡ n → length ys ≡ n → Each (RowAlike F) xs ys
      → AnswerAlike F (rows (Ok n) (xs ++ later)) (rows (Ok n) (ys ++ later))
  both_rider : (k : ℕ) (c : Cause) (i j : ℕ) (table : List Shown) → F i j → AnswerAlike F (rows (Err (Rider k (fault_at i c))) table) (rows (Err (Rider k (fault_at j c))) table)
  both_no_entry : (k : ℕ) (table : List Shown) → AnswerAlike F (rows (Err (NoEntry k)) table) (rows (Err (NoEntry k)) table)
  both_short : (n : ℕ) (table : List Shown) → AnswerAlike F (rows (Err (RowsShort n)) table) (rows (Err (RowsShort n)) table)
  set_aside : (r q : Result (Unit {0}) VolumeFault) (out put : List ℕ) → AnswerAlike F (bytes r out) (bytes q put)
  both_balanced : (r : Result ℕ VolumeFault) (table : List (Row Pair)) → AnswerAlike F (sums r table) (sums r table)

-- an answer is neither 11 nor 22
pub record NotFull (x : Answer) : Type 0 where
  pub few_records : (n : ℕ) → x ≡ taken_in (Err (File (fault_at n cause.TooMany))) → ⊥
  pub has_room : x ≡ taken_in (Err NoRoom) → ⊥

-- nor is any answer to a list of calls
abbrev pub NeverFull : Archive → List Call → Type 0
NeverFull a [] = Unit {0}
NeverFull a (c ∷ cs) = NotFull (answer a c) × NeverFull (after a c) cs

-- the records that the numbers in an answer name: of the file that is taken in, or of the entry that is shown; where there is no such
-- entry the answer has no number
abbrev pub numbered_records : Archive → Call → Records
numbered_records a (taking_in file m payers) = records_in file
numbered_records a closing = []
numbered_records a opening_again = []
numbered_records a (showing k m table) = slice_index_or (entries a) (k - 1) []
numbered_records a (fetching k n out) = []
numbered_records a (balancing table) = []

-- the call c of one archive and d of another have answers that are alike, where the numbers in them follow and fix each other
pub record CallsAlike (spare : ℕ → Bool) (a b : Archive) (c d : Call) (x y : Answer) : Type 0 where
  pub answers : AnswerAlike (Follow spare (numbered_records a c) (numbered_records b d)) x y
  pub partners : Partners spare (numbered_records a c) (numbered_records b d)

-- the answers to two lists of calls, one by one
abbrev pub RunsAlike : (ℕ → Bool) → Archive → Archive → List Call → List Call → Type 0
RunsAlike spare a b [] [] = Unit {0}
RunsAlike spare a b [] (d ∷ ds) = ⊥
RunsAlike spare a b (c ∷ cs) [] = ⊥
RunsAlike spare a b (c ∷ cs) (d ∷ ds) = CallsAlike spare a b c d (answer a c) (answer b d) × RunsAlike spare (after a c) (after b d) cs ds

-- calls ds on an empty shelf of one limit are the calls cs on one of another, but for files that are twins by spare codes, and no answer in
-- either is 11 or 22; that cs is itself a list of calls on an empty shelf that opens is asked by whoever uses this
pub record SameCalls (spare : ℕ → Bool) (limit : ℕ) (cs : List Call) (other : ℕ) (ds : List Call) : Type 0 where
  -- a spare code is neither core nor known to an edition in either list; calls to come may bring more editions, and leave fewer codes spare
  pub spares : (c : ℕ) → spare c ≡ true → spare_in (editions cs ++ editions ds) c ≡ true
  -- the other shelf opens while it is empty, as it has a place; and no shelf has more than the highest limit
  pub some : 0 < other
  pub bound : other ≤ highest
  pub same : Each (SameCall spare) cs ds
  pub never : NeverFull (empty limit) cs
  pub never_other : NeverFull (empty other) ds

-- THE LAW: two depositors, each on an empty shelf of any limit, make the same calls with twin files, and all answers are alike
pub record TwoRuns : Type 0 where
  pub every : (spare : ℕ → Bool) (limit other : ℕ) → 0 < limit → limit ≤ highest → (cs ds : List Call) → AllAllowed Open cs
      → SameCalls spare limit cs other ds → RunsAlike spare (empty limit) (empty other) cs ds
