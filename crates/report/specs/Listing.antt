-- The rows of a file, by the reading that the manual has of it.
use Rattle.std.specs.Prelude.{◌≡◌, ℕ, suc, true, List, [], ◌∷◌, map, is_some, Some, None, Ok}
use Rattle.std.specs.List.{AllByRecursion}
use Rattle.record.specs.declared.kinds.Kind.{Kind}
use Rattle.record.specs.declared.fields.Core.{Core}
use Rattle.record.specs.declared.editions.Level.{Level}
use Rattle.record.specs.declared.rows.Row.{Row}
use Rattle.record.specs.Codes.{code_in}
use Rattle.record.specs.Editions.{Meaning}
use Rattle.record.specs.Laws.{kind_at}
use Rattle.record.specs.Rows.{bare_row, row_of}
use Rattle.manual.specs.Slots.{front, slots}
use Rattle.manual.specs.Manual.{Read, Tree, RiderAt, Reading, leaves, read_by, cores, riders_of, Follows}
use Rattle.report.specs.Rows.{rows_of}

-- the whole records at the front of some bytes: all records of a file, where it follows the manual
abbrev pub records_in : List ℕ → List (List ℕ)
records_in bytes = front (slots bytes)

-- these are the rows of these records under an edition, where the first is record n and stands behind j core records, the core records
-- are read as these leaves, and these are the riders, each in its place: one row for each leaf and one for each rider, with the number of
-- its record, in order
pub data Lists (m : Meaning) : ℕ → ℕ → List (List ℕ) → List (Read Core) → List RiderAt → List Row → Type 0 where
  none : (n j : ℕ) → Lists m n j [] [] [] []
  -- a core record has its leaf's row
  core : (n j : ℕ) (r : List ℕ) (rs : List (List ℕ)) (k : Kind) (l : Read Core) (ls : List (Read Core)) (xs : List RiderAt) (rows : List Row)
      → kind_at r ≡ Some k → read_by k r ≡ Ok l → Lists m (suc n) (suc j) rs ls xs rows → Lists m n j (r ∷ rs) (l ∷ ls) xs (row_of n l.fields ∷ rows)
  -- a rider number and code only
  rider : (n j : ℕ) (r : List ℕ) (rs : List (List ℕ)) (c : ℕ) (v : Level) (ls : List (Read Core)) (x : RiderAt) (xs : List RiderAt) (rows : List Row)
      → code_in r ≡ Some c → m.level c ≡ Some v → x.bytes ≡ r → x.behind ≡ j → Lists m (suc n) j rs ls xs rows → Lists m n j (r ∷ rs) ls (x ∷ xs) (bare_row n c ∷ rows)
  -- an unknown record has none
  unknown : (n j : ℕ) (r : List ℕ) (rs : List (List ℕ)) (c : ℕ) (ls : List (Read Core)) (xs : List RiderAt) (rows : List Row)
      → code_in r ≡ Some c → kind_at r ≡ None → m.level c ≡ None → Lists m (suc n) j rs ls xs rows → Lists m n j (r ∷ rs) ls xs rows

-- the rows that show these records under an edition
pub record RowsStand (m : Meaning) (rs : List (List ℕ)) : Type 0 where
  -- where a file with these records follows the manual, they are those of its reading's leaves and riders
  pub read : (file : List ℕ) (r : Reading) → records_in file ≡ rs → Follows m file r → Lists m 1 0 rs (leaves r.tree) r.riders (rows_of m rs)
  -- where it follows under another edition, that of its taking in, those of its leaves and of the riders that are known here
  pub taken : (taking : Meaning) (file : List ℕ) (r : Reading) → records_in file ≡ rs → Follows taking file r → Lists m 1 0 rs (leaves r.tree) (riders_of m rs) (rows_of m rs)
  -- and so wherever the core records are those of some tree, as in each entry of a shelf
  pub entry : (t : Tree) → AllByRecursion (λ x. is_some (code_in x) ≡ true) rs → cores rs ≡ map Ok (leaves t) → Lists m 1 0 rs (leaves t) (riders_of m rs) (rows_of m rs)
  -- no other rows are
  pub only : (ls ks : List (Read Core)) (xs ys : List RiderAt) (rows others : List Row) → Lists m 1 0 rs ls xs rows → Lists m 1 0 rs ks ys others → rows ≡ others
