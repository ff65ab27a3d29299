-- Twins: files that differ only in what no call is to see.
use Rattle.std.specs.Prelude.{◌≡◌, ℕ, suc, ◌+◌, ◌<◌, ◌≤◌, Bool, true, false, cond, not, ◌&&◌, ◌⊎◌, List, [], ◌∷◌, ◌++◌, map, length, is_none, Some, None, Option, slice_get, slice_set}
use Rattle.std.specs.List.{list_all}
use Rattle.field.specs.Bytes.{is_text}
use Rattle.record.specs.declared.kinds.Kind.{Kind}
use Rattle.record.specs.declared.lines.LineEnd.{LineEnd}
use Rattle.record.specs.Kinds.{kind_of}
use Rattle.record.specs.Reserve.{used}
use Rattle.record.specs.Editions.{Meaning, known}
use Rattle.record.specs.Codes.{code_in}
use Rattle.record.specs.Laws.{kind_at}
use Rattle.manual.specs.Manual.{Line, end_bytes, laid}
use Rattle.report.specs.Listing.{records_in}

-- SPARE CODES: neither core nor known to an edition that is in use.

-- whether a code is so for all these editions
abbrev pub spare_in : List Meaning → ℕ → Bool
spare_in ms c = is_none (kind_of c) && list_all (λ (m : Meaning). not (known (m.level c))) ms

-- an edition with this meaning knows no spare code, and none is core
pub record Passes (spare : ℕ → Bool) (m : Meaning) : Type 0 where
  pub no_core : (c : ℕ) → spare c ≡ true → kind_of c ≡ None
  pub not_known : (c : ℕ) → spare c ≡ true → m.level c ≡ None

abbrev pub spare_code : (ℕ → Bool) → Option ℕ → Bool
spare_code spare None = false
spare_code spare (Some c) = spare c

-- a record with two code digits that write a spare code
abbrev pub is_spare : (ℕ → Bool) → List ℕ → Bool
is_spare spare r = spare_code spare (code_in r)

-- TWINS.

-- a record with its line end, and then other bytes
abbrev pub one_line : List ℕ → LineEnd → List ℕ → List ℕ
one_line r end rest = r ++ (end_bytes end ++ rest)

-- one change. Whole records are counted from the file's start without a gap, so what stands in front is lines, and what stands behind may be any bytes.
pub data Change (spare : ℕ → Bool) : List ℕ → List ℕ → Type 0 where
  -- a whole record of a spare code put in, behind at least one line
  put_in : (l : Line) (ls : List Line) (u : Line) (rest : List ℕ) → is_spare spare u.bytes ≡ true
      → Change spare (laid (l ∷ ls) rest) (laid (l ∷ ls) (one_line u.bytes u.ending rest))
  -- a reserve position of a whole core record set to another text byte; index i is position i + 1
  refill : (ls : List Line) (l : Line) (rest : List ℕ) (k : Kind) (i b : ℕ) → kind_at l.bytes ≡ Some k → used k ≤ i → i < 80 → is_text b ≡ true
      → Change spare (laid ls (one_line l.bytes l.ending rest)) (laid ls (one_line (slice_set l.bytes i b) l.ending rest))
  -- LF and CR LF exchanged behind a whole record
  end_by : (ls : List Line) (l : Line) (rest : List ℕ) (end : LineEnd)
      → Change spare (laid ls (one_line l.bytes l.ending rest)) (laid ls (one_line l.bytes end rest))

-- any number of changes, forth and back
pub data Twins (spare : ℕ → Bool) : List ℕ → List ℕ → Type 0 where
  same : (a : List ℕ) → Twins spare a a
  change : (a b : List ℕ) → Change spare a b → Twins spare a b
  back : (a b : List ℕ) → Twins spare a b → Twins spare b a
  join : (a b c : List ℕ) → Twins spare a b → Twins spare b c → Twins spare a c

-- NUMBERS THAT FOLLOW.

-- a record that is left, with its number
pub record Left : Type 0 where
  pub number : ℕ
  pub bytes : List ℕ

abbrev pub numbered : ℕ → List ℕ → Left
numbered n r = record { number = n; bytes = r }

-- the records left where those of spare codes are left out; the first of them is record n
abbrev pub left_from : (ℕ → Bool) → ℕ → List (List ℕ) → List Left
left_from spare n [] = []
left_from spare n (r ∷ rs) = cond (is_spare spare r) (left_from spare (suc n) rs) (numbered n r ∷ left_from spare (suc n) rs)

-- the same of a file's records, of which the first is never left out
abbrev pub left : (ℕ → Bool) → List (List ℕ) → List Left
left spare [] = []
left spare (r ∷ rs) = numbered 1 r ∷ left_from spare 2 rs

abbrev pub numbers : (ℕ → Bool) → List (List ℕ) → List ℕ
numbers spare rs = map (λ (l : Left). l.number) (left spare rs)

-- m and n name the same one of the records left in each file, or each the place behind the last record
abbrev pub Follow : (ℕ → Bool) → List (List ℕ) → List (List ℕ) → ℕ → ℕ → Type 0
Follow spare rs qs m n =
    ((k : ℕ) × (slice_get (numbers spare rs) k ≡ Some m) × (slice_get (numbers spare qs) k ≡ Some n))
    ⊎ ((m ≡ length rs + 1) × (n ≡ length qs + 1))

-- the same of the whole records of two files, counted without a gap from the file's start
abbrev pub FollowIn : (ℕ → Bool) → List ℕ → List ℕ → ℕ → ℕ → Type 0
FollowIn spare a b m n = Follow spare (records_in a) (records_in b) m n

-- a number that names something in one of two files fixes the number in the other: as many records are left in each, so that each has its
-- partner, and numbers follow one to one
pub record Partners (spare : ℕ → Bool) (rs qs : List (List ℕ)) : Type 0 where
  pub as_many : length (numbers spare rs) ≡ length (numbers spare qs)
  pub one : (i j k : ℕ) → Follow spare rs qs i j → Follow spare rs qs i k → j ≡ k
  pub back : (i j k : ℕ) → Follow spare rs qs i k → Follow spare rs qs j k → i ≡ j
