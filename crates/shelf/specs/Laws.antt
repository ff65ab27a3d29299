-- What every shelf owes of its meaning: the list of its records, its limit, and which of its states borrow alike.
use Rattle.std.specs.Prelude.{ℕ, ◌≤◌, List, length}
use Rattle.shelf.specs.Records.{Whole, highest}

pub record Laws {S : Type 0} (records : S → List (List ℕ)) (room : S → ℕ) (same : S → S → Type 0) : Type 0 where
  -- each record has 80 bytes
  pub whole : (s : S) → Whole (records s)
  -- the limit is not below the count
  pub inside : (s : S) → length (records s) ≤ room s
  -- and at most 500,000
  pub bound : (s : S) → room s ≤ highest
  -- to borrow from the same lenders goes on from call to call
  pub same_refl : (s : S) → same s s
  pub same_trans : (s t u : S) → same s t → same t u → same s u
