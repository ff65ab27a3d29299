-- A table of sums: a list of rows, looked up by an equality of keys. Assumes nothing.
use Rattle.std.specs.Prelude.{ℕ, suc, ◌+◌, ◌-◌, ◌^◌, min, Bool, cond, List, [], ◌∷◌, ◌++◌, length, take, drop, Some, None, Option, Ok, Err, Result, nat_le}
use Rattle.std.specs.Option.{option_map}
use Rattle.std.specs.List.{list_all}
use Rattle.sums.specs.declared.Row.{Row}

-- a sum as a column holds it: at most 2 ^ 64 - 1
abbrev pub capped : ℕ → ℕ → ℕ
capped x y = min (x + y) (2 ^ 64 - 1)

-- a row of the key k under which nothing was entered
abbrev pub zero_row : {K : Type 0} → K → Row K
zero_row k = record { key = k; added = 0; taken = 0 }

-- the row with a more added and t more taken; its key stays
abbrev pub grown : {K : Type 0} → Row K → ℕ → ℕ → Row K
grown r a t = record { key = r.key; added = capped r.added a; taken = capped r.taken t }

module _ {K : Type 0} (same : K → K → Bool) where
  -- the index of the first row whose key equals k
  abbrev pub place : List (Row K) → K → Option ℕ
  place [] k = None
  place (r ∷ rs) k = cond (same r.key k) (Some 0) (option_map suc (place rs k))

  -- the rows with a added and t taken under k: in its row, or in a new last row
  abbrev pub entered : List (Row K) → K → ℕ → ℕ → List (Row K)
  entered [] k a t = record { key = k; added = a; taken = t } ∷ []
  entered (r ∷ rs) k a t = cond (same r.key k) (grown r a t ∷ rs) (r ∷ entered rs k a t)

  -- the rows after one entry, where there is room for cap rows; none if they would be more
  unfoldable pub enter : ℕ → List (Row K) → K → ℕ → ℕ → Option (List (Row K))
  enter cap rows k a t = cond (nat_le (length (entered rows k a t)) cap) (Some (entered rows k a t)) None

-- the slice after an entry: the rows then in use at its front, and behind them what stood there; as it was if none
abbrev pub over : {K : Type 0} → List (Row K) → Option (List (Row K)) → List (Row K)
over rows None = rows
over rows (Some t) = t ++ drop (length t) rows

-- the rows in use, of a slice and the number of rows in use, if any is answered
abbrev pub in_use : {K : Type 0} → List (Row K) → Option ℕ → Option (List (Row K))
in_use rows used = option_map (λ n. take n rows) used

-- no row has more taken than added
abbrev pub covered : {K : Type 0} → List (Row K) → Bool
covered rows = list_all (λ r. nat_le r.taken r.added) rows

-- how many rows are in use after an entry, if it was not refused
abbrev pub answered : {E : Type 0} → Result (Unit {0}) E → ℕ → Option ℕ
answered (Ok done) used = Some used
answered (Err cause) used = None
