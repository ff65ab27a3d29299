-- What the calls on a run of records answer and leave, over any shelf.
use Rattle.std.specs.Prelude.{ℕ, ◌+◌, ◌-◌, ◌*◌, ◌/◌, max, Bool, cond, ◌&&◌, ◌||◌, List, ◌++◌, length, take, drop, Ok, Err, Result, ◌==◌, nat_le, nat_lt}
use Rattle.shelf.specs.declared.ShelfFault.{ShelfFault}
use Rattle.shelf.specs.declared.ShelfFault.TheVariants.{Full, NoRecord}
use Rattle.shelf.specs.Records.{flat}

-- Whether so many more records find places.
abbrev pub takes : ℕ → ℕ → ℕ → Bool
takes count limit more = nat_le (count + more) limit

-- lay: refused where not all find places
abbrev pub lay_answer : ℕ → ℕ → ℕ → Result (Unit {0}) ShelfFault
lay_answer count limit more = cond (takes count limit more) (Ok tt) (Err (Full count))

-- lay: the list after it, with all the records last, or as it was
abbrev pub laid : List (List ℕ) → ℕ → List (List ℕ) → List (List ℕ)
laid records limit items = cond (takes (length records) limit (length items)) (records ++ items) records

-- Whether the k records from number n on are all there: none always are.
abbrev pub covered : ℕ → ℕ → ℕ → Bool
covered n k count = k == 0 || (nat_lt 0 n && nat_le (n + k) (count + 1))

-- The first number from n on that no record has.
abbrev pub first_missing : ℕ → ℕ → ℕ
first_missing n count = cond (n == 0) 0 (max n (count + 1))

-- read_range: refused with the first number that is missing
abbrev pub read_answer : ℕ → ℕ → ℕ → Result (Unit {0}) ShelfFault
read_answer n k count = cond (covered n k count) (Ok tt) (Err (NoRecord (first_missing n count)))

-- read_range: what the caller's bytes hold after it. Their first whole eighties are the records from number n on, and the
-- rest is as it was; or all is.
abbrev pub read_bytes : List (List ℕ) → ℕ → List ℕ → List ℕ
read_bytes records n out =
    let k = length out / 80 in
    cond (covered n k (length records)) (flat (take k (drop (n - 1) records)) ++ drop (80 * k) out) out
