-- The law over lists of calls, in the words of the rules: what holds of every archive that some list of calls has made of an empty one.
use Rattle.std.specs.Prelude.{◌≡◌, ℕ, ◌-◌, ◌^◌, ◌<◌, ◌≤◌, List, [], ◌∷◌, ◌++◌, length, drop, replicate, slice_get, Some, Ok, Err}
use Rattle.std.specs.List.{AllByRecursion}
use Rattle.record.specs.declared.rows.Row.{Row as Shown}
use Rattle.record.specs.Editions.{Meaning, Extends}
use Rattle.sums.specs.declared.Row.{Row}
use Rattle.sums.specs.Table.{zero_row}
use Rattle.sums.specs.Laws.{Exactly}
use Rattle.manual.specs.declared.faults.FileFault.{FileFault}
use Rattle.manual.specs.Accepting.{Right}
use Rattle.manual.specs.Judging.{check_of}
use Rattle.manual.specs.Laws.{judging}
use Rattle.manual.specs.Manual.{Section, Reading, Follows}
use Rattle.filing.specs.declared.faults.VolumeFault.TheVariants.{NoEntry, Rider, RowsShort, BalanceShort}
use Rattle.filing.specs.Entries.{reads}
use Rattle.filing.specs.Readings.{EntryReads, Lie}
use Rattle.filing.specs.Volumes.{Records, closing_behind, volume, entries_of}
use Rattle.volume.specs.Tokens.{found_on}
use Rattle.report.specs.declared.pairs.Pair.{Pair}
use Rattle.report.specs.Pairs.{no_pair}
use Rattle.report.specs.Riders.{Finds, FindsFirst}
use Rattle.report.specs.Rows.{rows_of}
use Rattle.report.specs.Listing.{RowsStand}
use Rattle.report.specs.Sections.{Balances, pairs}
use Rattle.law.specs.Archive.{TakenFile, records_of, Archive, entries, places, opening_again, showing, fetching, balancing, opened, rows, bytes, sums, answer}

-- the sections of files, as the manual reads these under the edition of each, in order
pub data Sections : List TakenFile → List Section → Type 0 where
  none : Sections [] []
  more : (t : TakenFile) (r : Reading) (ts : List TakenFile) (ss : List Section) → Follows t.edition t.bytes r → Sections ts ss
      → Sections (t ∷ ts) (r.tree.sections ++ ss)

-- item k of a list, counted from 1
abbrev pub At : {A : Type 0} → ℕ → A → List A → Type 0
At k x xs = (0 < k) × (slice_get xs (k - 1) ≡ Some x)

-- the list has no item k
abbrev pub NoneAt : {A : Type 0} → ℕ → List A → Type 0
NoneAt k xs = 0 < k → k ≤ length xs → ⊥

-- showing entry k, whose file this is, under an edition
pub record Shows (a : Archive) (k : ℕ) (t : TakenFile) (m : Meaning) : Type 0 where
  -- it is refused by 13 or 14 exactly when the edition knows a record of the file and finds it ill-formed or at a wrong level
  pub refused : (table : List Shown) → Exactly ((f : FileFault) × (answer a (showing k m table) ≡ rows (Err (Rider k f)) table)) (Finds m (records_of t))
  -- and then tells the first such record
  pub first : (table : List Shown) (f : FileFault) → answer a (showing k m table) ≡ rows (Err (Rider k f)) table → FindsFirst m (records_of t) f
  -- otherwise, given rows enough, it fills exactly the file's rows, and later rows stay
  pub fills : (table : List Shown) → (Finds m (records_of t) → ⊥) → length (rows_of m (records_of t)) ≤ length table
      → answer a (showing k m table) ≡ rows (Ok (length (rows_of m (records_of t)))) (rows_of m (records_of t) ++ drop (length (rows_of m (records_of t))) table)
  -- and else says how many are needed, and leaves the table as it was
  pub short : (table : List Shown) → (Finds m (records_of t) → ⊥) → length table < length (rows_of m (records_of t))
      → answer a (showing k m table) ≡ rows (Err (RowsShort (length (rows_of m (records_of t))))) table
  -- these are the rows of the leaves of its reading, and of its riders, and no other rows are
  pub right : RowsStand m (records_of t)
  -- that refusal never comes if the edition of the file's taking in extends the reader's
  pub extends : Extends t.edition m → Finds m (records_of t) → ⊥

-- balancing, where the files that were taken in have these sections
pub record SumsUp (a : Archive) (ss : List Section) : Type 0 where
  pub balance : List (Row Pair)
  -- each pair of payee and currency of a section is named exactly once, and no other, in order of first appearance, with the plain sums
  -- of its payments and of its deductions in all of them, whose difference is the plain sum of its deposits
  pub right : Balances ss balance
  -- it has as many rows as there are distinct pairs
  pub many : length balance ≡ pairs ss
  -- nothing was cut off: at most 500,000 records of at most 9,999,999,999,999 öre or cents each stay below 2^63
  pub below : AllByRecursion (λ (r : Row Pair). (r.added < 2 ^ 63) × (r.taken < 2 ^ 63)) balance
  -- given so many rows, balancing fills the balance, and later rows become zero
  pub fills : (table : List (Row Pair)) → pairs ss ≤ length table
      → answer a (balancing table) ≡ sums (Ok (length balance)) (balance ++ replicate (length table - length balance) (zero_row no_pair))
  -- and else all rows become zero
  pub short : (table : List (Row Pair)) → length table < pairs ss → answer a (balancing table) ≡ sums (Err BalanceShort) (replicate (length table) (zero_row no_pair))

-- what the shelf of an archive holds: its entries in order, each with its trailer, and behind them the closing record where it is closed
abbrev pub shelf_of : Archive → Records
shelf_of a = volume reads a.standing (entries a)

-- the same, with what stands in the trailers by the trees of the entries
pub record OnShelf (a : Archive) : Type 0 where
  -- the records that the entries take with their trailers
  pub laid : Records
  -- behind each entry stands the trailer with what its tree comes to
  pub lie : Lie 0 0 (entries a) laid
  -- and behind them the closing record where the archive is closed
  pub lies : shelf_of a ≡ laid ++ closing_behind a.standing (length a.files) (length laid)

-- THE LAW of an archive
pub record Lawful (a : Archive) : Type 0 where
  -- each of its files follows the manual under the edition of its taking in
  pub reading : (k : ℕ) (t : TakenFile) → At k t a.files → (r : Reading) × Follows t.edition t.bytes r
  -- and the tree of that reading is also that of its records as an entry, so that its trailer has what the reading comes to
  pub tree : (k : ℕ) (t : TakenFile) (r : Reading) → At k t a.files → Follows t.edition t.bytes r → EntryReads (records_of t) r.tree
  -- taking any file in begins with checking it, and what that answers is right by the manual
  pub checks : (file : List ℕ) (m : Meaning) (payers : ℕ) → Right payers m file (check_of (judging payers) m file)
  -- its shelf
  pub holds : OnShelf a
  -- the entries that are found there are the records of its files, in order; so what a call says of entries found it says of these
  pub entries_found : entries_of (shelf_of a) ≡ entries a
  -- opening the shelf anew is never refused, and finds how many entries there are, the place of the last trailer, and open or closed; so
  -- it finds the token in hand, which is the shelf's own
  pub finds : found_on (shelf_of a) a.limit ≡ Ok (record { entries = length a.files; last = places a.files; standing = a.standing })
  -- opening again answers the number of entries, and whether the archive is open or closed
  pub reopens : answer a opening_again ≡ opened (Ok (record { entries = length a.files; standing = a.standing }))
  -- showing
  pub shows : (k : ℕ) (t : TakenFile) → At k t a.files → (m : Meaning) → Shows a k t m
  pub shows_none : (k : ℕ) → NoneAt k a.files → (m : Meaning) (table : List Shown) → answer a (showing k m table) ≡ rows (Err (NoEntry k)) table
  -- fetching
  pub fetches : (k n : ℕ) (t : TakenFile) (r out : List ℕ) → At k t a.files → At n r (records_of t) → answer a (fetching k n out) ≡ bytes (Ok tt) r
  pub fetches_none : (k n : ℕ) (t : TakenFile) (out : List ℕ) → At k t a.files → NoneAt n (records_of t) → answer a (fetching k n out) ≡ bytes (Err (NoEntry k)) out
  pub fetches_nowhere : (k n : ℕ) (out : List ℕ) → NoneAt k a.files → answer a (fetching k n out) ≡ bytes (Err (NoEntry k)) out
  -- balancing
  pub sections : (ss : List Section) × Sections a.files ss
  pub balances : (ss : List Section) → Sections a.files ss → SumsUp a ss
