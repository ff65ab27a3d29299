-- What holds of the plain copy of an entry, in the words of the rules.
use Rattle.std.specs.Prelude.{◌≡◌, ℕ, suc, ◌-◌, ◌*◌, List, [], ◌∷◌, map, length, drop, replicate, Some, None, Ok, Option, slice_index_or, ◌≢◌}
use Rattle.std.specs.List.{AllByRecursion}
use Rattle.record.specs.declared.kinds.Kind.{Kind}
use Rattle.record.specs.declared.fields.End.{End}
use Rattle.record.specs.declared.classes.Class.TheVariants as class
use Rattle.record.specs.declared.rows.Row.{Row}
use Rattle.record.specs.Reserve.{used}
use Rattle.record.specs.Classes.{class_of}
use Rattle.record.specs.Editions.{Meaning}
use Rattle.record.specs.Laws.{kind_at}
use Rattle.record.specs.Sorts.{sort_at}
use Rattle.manual.specs.Judging.{check_of}
use Rattle.manual.specs.Laws.{judging}
use Rattle.manual.specs.Manual.{Tree, RiderAt, Reading, riders_of, Follows}
use Rattle.report.specs.Rows.{rows_of}
use Rattle.report.specs.Sorts.{plain_of}
use Rattle.report.specs.Copies.{copied}
use Rattle.report.specs.Listing.{records_in}

-- every reserve position is blank, if it is a core record
abbrev pub ReserveBlank : List ℕ → Type 0
ReserveBlank r = (k : Kind) → kind_at r ≡ Some k → drop (used k) r ≡ replicate (80 - used k) 32

-- the row with another number
abbrev pub with_number : ℕ → Row → Row
with_number n x = record { number = n; code = x.code; party = x.party; money = x.money; serial = x.serial; reference = x.reference }

-- rows that are numbered without a gap, from n on
abbrev pub numbered_from : ℕ → List Row → List Row
numbered_from n [] = []
numbered_from n (x ∷ xs) = with_number n x ∷ numbered_from (suc n) xs

-- the record that a row names by its number, among those of its file
abbrev pub named_in : List (List ℕ) → Row → List ℕ
named_in rs x = slice_index_or rs (x.number - 1) []

-- the bytes of a record, none where there is no record
abbrev pub plain_or : Option (List ℕ) → List ℕ
plain_or None = []
plain_or (Some r) = r

-- what the copy has of a record, none of an unknown one
abbrev pub plain_at : Meaning → List ℕ → List ℕ
plain_at m r = plain_or (plain_of (sort_at m r) r)

-- the numbers of the records of which the copy has one, where the first is record n
abbrev pub number_then : Option (List ℕ) → ℕ → List ℕ → List ℕ
number_then None n rest = rest
number_then (Some r) n rest = n ∷ rest

abbrev pub kept_from : Meaning → ℕ → List (List ℕ) → List ℕ
kept_from m n [] = []
kept_from m n (r ∷ rs) = number_then (plain_of (sort_at m r) r) n (kept_from m (suc n) rs)

-- a tree with these riders
abbrev pub with_riders : Tree → List RiderAt → Reading
with_riders t xs = record { tree = t; riders = xs }

-- the copy under an edition, in which it finds no rider wrong, of an entry with these records
pub record CopyStands (m : Meaning) (e : List (List ℕ)) : Type 0 where
  -- where a file with the entry's records follows the manual with some reading, the copy follows it with the same reading, riders included
  pub same_reading : (file : List ℕ) (r : Reading) → records_in file ≡ e → Follows m file r → Follows m (copied m e) r
  -- where it follows under another edition, that of its taking in, the copy has the same tree, and the riders that are known here
  pub same_tree : (taken : Meaning) (file : List ℕ) (r : Reading) → records_in file ≡ e → Follows taken file r → Follows m (copied m e) (with_riders r.tree (riders_of m e))
  -- where checking accepts such a file, it accepts the copy with the same counts, given a payer table of as many rows
  pub accepted : (taken : Meaning) (file : List ℕ) (rows : ℕ) (counts : End) → records_in file ≡ e → check_of (judging rows) taken file ≡ Ok counts
      → check_of (judging rows) m (copied m e) ≡ Ok counts
  -- it holds no record that is unknown to the edition
  pub all_known : AllByRecursion (λ r. class_of m r ≢ class.Unknown) (records_in (copied m e))
  -- every reserve position of its core records is blank
  pub blank : AllByRecursion ReserveBlank (records_in (copied m e))
  -- its riders are the entry's, in order, byte for byte, each behind as many core records
  pub riders : riders_of m (records_in (copied m e)) ≡ riders_of m e
  -- its rows are the entry's but for their numbers: row n is of record n
  pub rows : rows_of m (records_in (copied m e)) ≡ numbered_from 1 (rows_of m e)
  -- the entry's rows have the numbers of the records that the copy keeps, in order: so row n of the copy follows the n-th of these
  pub places : map (λ (x : Row). x.number) (rows_of m e) ≡ kept_from m 1 e
  -- and record n of the copy is the copy of the record that the entry's row n names
  pub numbers : records_in (copied m e) ≡ map (λ (x : Row). plain_at m (named_in e x)) (rows_of m e)
  -- it takes 82 bytes for each row
  pub bytes : length (copied m e) ≡ 82 * length (rows_of m e)
  -- a copy of the copy is the same bytes
  pub again : copied m (records_in (copied m e)) ≡ copied m e
