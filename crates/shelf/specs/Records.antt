-- What a shelf holds: a list of records of 80 bytes each; and records as they lie in a run of bytes.
use Rattle.std.specs.Prelude.{◌≡◌, ℕ, zero, suc, ◌+◌, ◌*◌, ◌/◌, ◌≤◌, min, cond, List, [], ◌∷◌, ◌++◌, length, take, drop, nat_lt, refl}
use Rattle.std.specs.Simd.{first_chunks}
use Rattle.std.proofs.Common.{ap, arith, length-drop}
use Rattle.std.proofs.lemmas.List.{length-take-le}

-- No shelf has more places.
abbrev pub highest : ℕ
highest = 500000

-- Each record has 80 bytes.
abbrev pub Whole : List (List ℕ) → Type 0
Whole [] = Unit {0}
Whole (r ∷ rs) = (length r ≡ 80) × Whole rs

-- The first n runs of 80 bytes of a list of bytes.
abbrev pub eighties : ℕ → List ℕ → List (List ℕ)
eighties n bytes = first_chunks 80 n bytes

-- The bytes of records, one record behind the other.
abbrev pub flat : List (List ℕ) → List ℕ
flat [] = []
flat (r ∷ rs) = r ++ flat rs

-- How many records a run of bytes has places for.
abbrev pub places : List ℕ → ℕ
places bytes = min (length bytes / 80) highest

-- The records in the first count places of a run of bytes.
abbrev pub held : List ℕ → ℕ → List (List ℕ)
held bytes count = eighties (min count (places bytes)) bytes

-- A record more in a run of bytes behind those that are held, where there is a place; every other byte is as it was.
abbrev pub written : List ℕ → ℕ → List ℕ → List ℕ
written bytes count item =
    let n = min count (places bytes) in cond (nat_lt n (places bytes)) (take (80 * n) bytes ++ (item ++ drop (80 * n + 80) bytes)) bytes

pub length_eighties : (n : ℕ) (bytes : List ℕ) → length (eighties n bytes) ≡ n
length_eighties zero bytes = refl
length_eighties (suc n) bytes = ap suc (length_eighties n (drop 80 bytes))

pub whole_eighties : (n : ℕ) (bytes : List ℕ) → 80 * n ≤ length bytes → Whole (eighties n bytes)
whole_eighties zero bytes h = tt
whole_eighties (suc n) bytes h =
    (length-take-le 80 bytes (omega arith), whole_eighties n (drop 80 bytes) (simp length-drop (omega arith)))

pub whole_held : (bytes : List ℕ) (count : ℕ) → Whole (held bytes count)
whole_held bytes count = whole_eighties (min count (places bytes)) bytes (omega arith)

pub length_held : (bytes : List ℕ) (count : ℕ) → length (held bytes count) ≡ min count (places bytes)
length_held bytes count = length_eighties (min count (places bytes)) bytes

pub inside_held : (bytes : List ℕ) (count : ℕ) → length (held bytes count) ≤ places bytes
inside_held bytes count = omega (arith, length_held bytes count)

pub bound_places : (bytes : List ℕ) → places bytes ≤ highest
bound_places bytes = omega arith
