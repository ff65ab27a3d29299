-- A full shelf of records that are all alike.
use Rattle.std.specs.Prelude.{◌≡◌, ℕ, zero, suc, ◌≤◌, min, List, length, replicate}
use Rattle.std.proofs.Common.{arith}
use Rattle.std.proofs.lemmas.List.{length-replicate}
use Rattle.shelf.specs.Records.{Whole, highest}

-- n records whose bytes are all b
abbrev pub alike : ℕ → ℕ → List (List ℕ)
alike n b = replicate (min n highest) (replicate 80 b)

whole_many : (n : ℕ) (r : List ℕ) → length r ≡ 80 → Whole (replicate n r)
whole_many zero r h = tt
whole_many (suc n) r h = (h, whole_many n r h)

pub whole_alike : (n b : ℕ) → Whole (alike n b)
whole_alike n b = whole_many (min n highest) (replicate 80 b) (length-replicate 80 b)

pub length_alike : (n b : ℕ) → length (alike n b) ≡ min n highest
length_alike n b = length-replicate (min n highest) (replicate 80 b)

pub inside_alike : (n b : ℕ) → length (alike n b) ≤ min n highest
inside_alike n b = omega (arith, length_alike n b)

pub bound_alike : (n : ℕ) → min n highest ≤ highest
bound_alike n = omega arith
