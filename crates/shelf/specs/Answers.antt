-- What the calls of a shelf answer and leave, over the list of its records and its limit.
use Rattle.std.specs.Prelude.{ℕ, ◌-◌, Bool, cond, ◌&&◌, List, [], ◌∷◌, ◌++◌, length, Ok, Err, Result, nat_le, nat_lt, slice_index_or}
use Rattle.shelf.specs.declared.ShelfFault.{ShelfFault}
use Rattle.shelf.specs.declared.ShelfFault.TheVariants.{Full, NoRecord}

-- add: refused where the count has come to the limit
abbrev pub add_answer : ℕ → ℕ → Result (Unit {0}) ShelfFault
add_answer count limit = cond (nat_lt count limit) (Ok tt) (Err (Full count))

-- add: the list after it, with the record last, or as it was
abbrev pub added : List (List ℕ) → ℕ → List ℕ → List (List ℕ)
added records limit item = cond (nat_lt (length records) limit) (records ++ item ∷ []) records

-- Whether a record has that number: they count from 1.
abbrev pub within : ℕ → ℕ → Bool
within n count = nat_lt 0 n && nat_le n count

-- copy: refused where no record has the number
abbrev pub copy_answer : ℕ → ℕ → Result (Unit {0}) ShelfFault
copy_answer n count = cond (within n count) (Ok tt) (Err (NoRecord n))

-- copy: what the caller's 80 bytes hold after it, the record or what they held
abbrev pub copied : List (List ℕ) → ℕ → List ℕ → List ℕ
copied records n out = cond (within n (length records)) (slice_index_or records (n - 1) out) out
