-- What balancing comes to, in the words of the rules, on whatever shelf was opened.
use Rattle.std.specs.Prelude.{◌≡◌, ℕ, ◌-◌, ◌^◌, ◌<◌, ◌≤◌, List, [], ◌∷◌, ◌++◌, length, replicate, Ok, Err, Result}
use Rattle.std.specs.List.{AllByRecursion}
use Rattle.sums.specs.declared.Row.{Row}
use Rattle.sums.specs.Table.{zero_row}
use Rattle.manual.specs.Manual.{Section, Tree}
use Rattle.filing.specs.declared.faults.VolumeFault.{VolumeFault}
use Rattle.filing.specs.declared.faults.VolumeFault.TheVariants.{BalanceShort}
use Rattle.filing.specs.Readings.{EntryReads}
use Rattle.filing.specs.Volumes.{Records}
use Rattle.report.specs.declared.pairs.Pair.{Pair}
use Rattle.report.specs.Pairs.{no_pair}
use Rattle.report.specs.Sections.{Balances, pairs}

-- the sections of entries, each of which has a tree, in order
pub data SectionsIn : List Records → List Section → Type 0 where
  none : SectionsIn [] []
  more : (e : Records) (t : Tree) (es : List Records) (ss : List Section) → EntryReads e t → SectionsIn es ss → SectionsIn (e ∷ es) (t.sections ++ ss)

-- an answer to balancing these entries, with the table before and after it
pub record BalanceStands (es : List Records) (before : List (Row Pair)) (answer : Result ℕ VolumeFault) (after : List (Row Pair)) : Type 0 where
  -- the entries have sections
  pub sections : List Section
  pub lie : SectionsIn es sections
  -- their balance: each pair of payee and currency of a section is named exactly once, and no other, in order of first appearance, with
  -- the plain sums of its payments and deductions, whose difference is the plain sum of its deposits
  pub balance : List (Row Pair)
  pub right : Balances sections balance
  pub many : length balance ≡ pairs sections
  -- nothing was cut off: each sum stays below 2^63
  pub below : AllByRecursion (λ (r : Row Pair). (r.added < 2 ^ 63) × (r.taken < 2 ^ 63)) balance
  -- with rows enough it is filled in, and later rows become zero
  pub fills : pairs sections ≤ length before
      → (answer ≡ Ok (length balance)) × (after ≡ balance ++ replicate (length before - length balance) (zero_row no_pair))
  -- with fewer rows 26 comes, and all rows become zero
  pub short : length before < pairs sections → (answer ≡ Err BalanceShort) × (after ≡ replicate (length before) (zero_row no_pair))
