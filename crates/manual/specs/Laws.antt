-- What holds of checking any file, under any edition and with any table: laws above the judging machine.
use Rattle.std.specs.Prelude.{◌≡◌, ℕ, ◌+◌, ◌≤◌, Bool, true, false, ◌⊎◌, List, [], ◌∷◌, ◌++◌, map, length, take, Some, Ok, Err, Result}
use Rattle.record.specs.declared.kinds.Kind.{Kind}
use Rattle.record.specs.declared.fields.End.{End}
use Rattle.record.specs.declared.classes.Rider.{Rider}
use Rattle.record.specs.declared.classes.Class.TheVariants as class
use Rattle.record.specs.Editions.{Meaning, bare}
use Rattle.record.specs.Reserve.{Refilled}
use Rattle.record.specs.Laws.{kind_at}
use Rattle.manual.specs.declared.faults.Cause.{Cause}
use Rattle.manual.specs.declared.faults.Cause.TheVariants as cause
use Rattle.manual.specs.declared.faults.FileFault.{FileFault}
use Rattle.manual.specs.Slots.{whole, broken, slots, wholes}
use Rattle.manual.specs.Judging.{Mode, State, step, check_of}
use Rattle.manual.specs.Manual.{Line, laid, records}

-- 13 and 14
abbrev pub of_riders : Cause → Bool
of_riders cause.Broken = false
of_riders (cause.Unreadable e) = false
of_riders cause.Order = false
of_riders cause.UnlikeItem = false
of_riders cause.Information = false
of_riders cause.NoPlace = false
of_riders cause.PayerOwes = false
of_riders cause.Deposit = false
of_riders cause.Counts = false
of_riders cause.TooMany = false
of_riders cause.Unfinished = false
of_riders cause.RiderIllFormed = true
of_riders cause.RiderLevel = true

-- 7 and 8
abbrev pub of_payers : Cause → Bool
of_payers cause.Broken = false
of_payers (cause.Unreadable e) = false
of_payers cause.Order = false
of_payers cause.UnlikeItem = false
of_payers cause.Information = false
of_payers cause.NoPlace = true
of_payers cause.PayerOwes = true
of_payers cause.Deposit = false
of_payers cause.Counts = false
of_payers cause.TooMany = false
of_payers cause.Unfinished = false
of_payers cause.RiderIllFormed = false
of_payers cause.RiderLevel = false

-- the answer is no refusal by 13 or 14
abbrev pub NoRiderFault : Result End FileFault → Type 0
NoRiderFault (Ok e) = Unit {0}
NoRiderFault (Err f) = of_riders f.cause ≡ false

-- the answer is no refusal before record n
abbrev pub NotBefore : ℕ → Result End FileFault → Type 0
NotBefore n (Ok e) = Unit {0}
NotBefore n (Err f) = n ≤ f.number

-- the same record, but for reserve positions if it is a core record
pub data Alike : List ℕ → List ℕ → Type 0 where
  equal : (r : List ℕ) → Alike r r
  refilled : (k : Kind) (r q : List ℕ) → kind_at r ≡ Some k → Refilled k r q → Alike r q

-- the same records one by one, with any line ends
pub data AllAlike : List Line → List Line → Type 0 where
  none : AllAlike [] []
  more : (l k : Line) (ls ks : List Line) → Alike l.bytes k.bytes → AllAlike ls ks → AllAlike (l ∷ ls) (k ∷ ks)

-- payers judged in a table of so many rows, and not judged
abbrev pub judging : ℕ → Mode
judging cap = record { judged = true; cap = cap }

abbrev pub not_judging : Mode
not_judging = record { judged = false; cap = 0 }

pub record CheckLaws : Type 0 where
  -- unknown records, and riders that pass, leave the state as it was
  pub unknown_passes : (mode : Mode) (s t : State) → step mode s class.Unknown ≡ Ok t → t ≡ s
  pub rider_passes : (mode : Mode) (s t : State) (x : Rider) → step mode s (class.Rider x) ≡ Ok t → t ≡ s
  -- where neither 13 nor 14 comes, the answer under any edition is that under the bare one
  pub bare_agrees : (mode : Mode) (m : Meaning) (bs : List ℕ) → NoRiderFault (check_of mode m bs) → check_of mode bare bs ≡ check_of mode m bs
  -- the answer does not depend on reserve positions, nor on LF or CR LF
  pub lines_alike : (mode : Mode) (m : Meaning) (ls ks : List Line) (rest : List ℕ) → AllAlike ls ks → check_of mode m (laid ls rest) ≡ check_of mode m (laid ks rest)
  -- whether payers are judged changes nothing but 7 and 8, and these come where nothing earlier is wrong
  pub payers_only : (cap : ℕ) (m : Meaning) (bs : List ℕ)
      → (check_of (judging cap) m bs ≡ check_of not_judging m bs)
      ⊎ ((f : FileFault) × (check_of (judging cap) m bs ≡ Err f) × (of_payers f.cause ≡ true) × NotBefore f.number (check_of not_judging m bs))
  -- a refusal names a record from 1 to one past the whole records at the file's front
  pub number_within : (mode : Mode) (m : Meaning) (bs : List ℕ) (f : FileFault) → check_of mode m bs ≡ Err f → (1 ≤ f.number) × (f.number ≤ wholes (slots bs) + 1)
  -- a refusal at record n depends on the first n records alone: bytes that begin with the same n lines have the same refusal
  pub first_lines : (mode : Mode) (m : Meaning) (ls : List Line) (rest other : List ℕ) (f : FileFault) → f.number ≤ length ls
      → check_of mode m (laid ls rest) ≡ Err f → check_of mode m (laid ls other) ≡ Err f
  -- where record n is right behind the lines that are the same, whole or not or missing, it depends on the bytes of one more line:
  -- no line has more than 82
  pub next_line : (mode : Mode) (m : Meaning) (ls : List Line) (rest other : List ℕ) (f : FileFault) → f.number ≤ length ls + 1
      → take 82 rest ≡ take 82 other → check_of mode m (laid ls rest) ≡ Err f → check_of mode m (laid ls other) ≡ Err f
  -- so where a file is accepted, no bytes that begin with its first lines are refused at one of these
  pub none_hidden : (mode : Mode) (m : Meaning) (ls : List Line) (rest other : List ℕ) (e : End)
      → check_of mode m (laid ls other) ≡ Ok e → NotBefore (length ls + 1) (check_of mode m (laid ls rest))
  -- the first slots of bytes are the records of the lines at their front
  pub cut_at_lines : (ls : List Line) (rest : List ℕ) → slots (laid ls rest) ≡ map whole (records ls) ++ slots rest
  -- and bytes that are left begin with a line, or are all one slot that is no whole record
  pub line_or_none : (b : ℕ) (bs : List ℕ) → (slots (b ∷ bs) ≡ broken ∷ []) ⊎ ((l : Line) × (rest : List ℕ) × (b ∷ bs ≡ laid (l ∷ []) rest))
