-- What holds of twin files, under every edition that knows no spare code and with any payer table, or payers not judged.
use Rattle.std.specs.Prelude.{◌≡◌, ℕ, Bool, List, map, Some, slice_get}
use Rattle.record.specs.Classes.{class_of}
use Rattle.record.specs.Editions.{Meaning, bare}
use Rattle.manual.specs.Judging.{Mode, check_of}
use Rattle.report.specs.declared.pairs.Pair.{Pair}
use Rattle.report.specs.Rows.{rows_of}
use Rattle.report.specs.Faults.{first_fault}
use Rattle.report.specs.Copies.{copied}
use Rattle.report.specs.Balances.{moves_from}
use Rattle.report.specs.Listing.{records_in}
use Rattle.twins.specs.Twins.{Passes, Twins, Left, left, numbers, Follow, FollowIn, Partners}
use Rattle.twins.specs.Agreeing.{Each, Agree, Few, FaultAlike, RowAlike}

pub record TwinLaws : Type 0 where
  -- the records left have the same classes, in order
  pub classes : (spare : ℕ → Bool) (m : Meaning) (a b : List ℕ) → Twins spare a b
      → map (λ (l : Left). class_of m l.bytes) (left spare (records_in a)) ≡ map (λ (l : Left). class_of m l.bytes) (left spare (records_in b))
  -- checking answers alike, where neither is refused for its 50,001st record
  pub checks : (spare : ℕ → Bool) (mode : Mode) (m : Meaning) (a b : List ℕ) → Passes spare m → Twins spare a b
      → Few (check_of mode m a) → Few (check_of mode m b) → Agree (FollowIn spare a b) (check_of mode m a) (check_of mode m b)
  -- the rows are the same but for their numbers
  pub rows : (spare : ℕ → Bool) (m : Meaning) (a b : List ℕ) → Passes spare m → Twins spare a b
      → Each (RowAlike (FollowIn spare a b)) (rows_of m (records_in a)) (rows_of m (records_in b))
  -- and so is the first rider that an edition finds wrong
  pub riders : (spare : ℕ → Bool) (m : Meaning) (a b : List ℕ) → Passes spare m → Twins spare a b
      → FaultAlike (FollowIn spare a b) (first_fault m (records_in a)) (first_fault m (records_in b))
  -- the plain copies are the same bytes
  pub copies : (spare : ℕ → Bool) (m : Meaning) (a b : List ℕ) → Passes spare m → Twins spare a b → copied m (records_in a) ≡ copied m (records_in b)
  -- what is entered for a balance is equal
  pub moves : (spare : ℕ → Bool) (a b : List ℕ) → Passes spare bare → Twins spare a b → (p : Pair) → moves_from p (records_in a) ≡ moves_from p (records_in b)

-- Numbers that follow are one to one, so that a number in one answer fixes the number in the other.
pub record FollowLaws : Type 0 where
  pub one : (spare : ℕ → Bool) (rs qs : List (List ℕ)) (i j k : ℕ) → Follow spare rs qs i j → Follow spare rs qs i k → j ≡ k
  pub turned : (spare : ℕ → Bool) (rs qs : List (List ℕ)) (i j : ℕ) → Follow spare rs qs i j → Follow spare qs rs j i
  pub joined : (spare : ℕ → Bool) (rs qs ps : List (List ℕ)) (i j k : ℕ) → Follow spare rs qs i j → Follow spare qs ps j k → Follow spare rs ps i k
  -- in twins each record left has one that follows it
  pub partner : (spare : ℕ → Bool) (a b : List ℕ) → Twins spare a b → (n i : ℕ) → slice_get (numbers spare (records_in a)) n ≡ Some i
      → (j : ℕ) × FollowIn spare a b i j
  -- so that in twins a number in one answer fixes the number in the other
  pub partners : (spare : ℕ → Bool) (a b : List ℕ) → Twins spare a b → Partners spare (records_in a) (records_in b)
