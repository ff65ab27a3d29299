-- What the readers of numbers and references need.
use Rattle.std.proofs.Common.{◌≡◌, ℕ, ◌+◌, ◌^◌, ◌<◌, ◌≤◌, true, false, cond, not, List, [], ◌∷◌, nat_lt, length, drop, Some, None, refl, arith}
use native.Mathlib.Nat.{pow-le-pow_right}
use Rattle.std.proofs.lemmas.Bool.Decides.{nat_tests}
use Rattle.std.specs.List.{position, position_or_len}
use Rattle.field.specs.Bytes.{is_digit, is_blank, every}
use Rattle.field.specs.Chains.{and_then}
use Rattle.field.specs.References.{numeric_from}

-- what i digits write leaves room for one more in a u64
pub ten_room : (i : ℕ) → i < 19 → 10 ^ i ≤ 10 ^ 18
ten_room i h = pow-le-pow_right {n = 10} (omega arith) {i = i} {j = 18} (omega arith)

-- a reference is numeric from its first byte that is no blank
pub numeric_is : (p : ℕ) (xs : List ℕ) → numeric_from p xs ≡ and_then (position (λ b. not (is_blank b)) xs) (λ i. cond (every is_digit (drop i xs)) (Some (p + i)) None)
numeric_is p [] = refl
numeric_is p (x ∷ xs) =
    let blanks = position_or_len (λ b. not (is_blank b)) xs in
    let rest = λ (i : ℕ). cond (every is_digit (drop i (x ∷ xs))) (Some (p + i)) None in
    elim (is_blank x) as (λ t. cond t (numeric_from (p + 1) xs) (cond (every is_digit (x ∷ xs)) (Some p) None) ≡ and_then (cond (nat_lt (cond (not (not t)) (1 + blanks) 0) (length (x ∷ xs))) (Some (cond (not (not t)) (1 + blanks) 0)) None) rest) [
      | true ↦ grind (arith, nat_tests, numeric_is (p + 1) xs)
      | false ↦ grind (arith, nat_tests)
    ]
