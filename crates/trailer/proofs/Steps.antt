-- What each loop over digits has done at one digit more, and at the end.
use Rattle.std.proofs.Common.{◌≡◌, ℕ, suc, ◌+◌, ◌*◌, ◌/◌, ◌%◌, ◌<◌, ◌≤◌, List, [], ◌∷◌, ◌++◌, length, get_or, drop, set, sym, refl, ap, ◌∙◌, append_assoc, add-one, arith}
use native.Mathlib.Nat.{mul-add-mod_self_left}
use Rattle.std.proofs.lemmas.List.{at_drop_more, at_drop_all, drop-set}
use Rattle.trailer.specs.Digits.{value, value_after, value_of, digits_of}

pub value_append : (n : ℕ) (xs ys : List ℕ) → value_after n (xs ++ ys) ≡ value_after (value_after n xs) ys
value_append n [] ys = refl
value_append n (x ∷ xs) ys = value_append (n * 10 + value x) xs ys

-- of what stands before a digit only the remainder counts
one_mod : (m d : ℕ) → (m * 10 + d) % 97 ≡ (m % 97 * 10 + d) % 97
one_mod m d =
    let e : m * 10 + d ≡ 97 * (10 * (m / 97)) + (m % 97 * 10 + d) = omega arith in
    ap (λ x. x % 97) e ∙ mul-add-mod_self_left 97 (10 * (m / 97)) (m % 97 * 10 + d)

value_mod : (m n : ℕ) (xs : List ℕ) → m % 97 ≡ n % 97 → value_after m xs % 97 ≡ value_after n xs % 97
value_mod m n [] e = e
value_mod m n (x ∷ xs) e = value_mod (m * 10 + value x) (n * 10 + value x) xs (one_mod m (value x) ∙ ap (λ r. (r * 10 + value x) % 97) e ∙ sym (one_mod n (value x)))

pub mod_step : (xs : List ℕ) (r i : ℕ) → i < length xs → value_after r (drop i xs) % 97 ≡ value_after ((r * 10 + value (get_or xs i 0)) % 97) (drop (i + 1) xs) % 97
mod_step xs r i h =
    let n = r * 10 + value (get_or xs i 0) in
    ap (λ n. n % 97) (at_drop_more (value_after r) xs i 0 h) ∙ value_mod n (n % 97) (drop (i + 1) xs) (omega arith)

pub remainder_end : (xs : List ℕ) (r i : ℕ) → length xs ≤ i → value_after r (drop i xs) % 97 ≡ value_of xs % 97 → r * 100 % 97 ≡ value_of (xs ++ 48 ∷ 48 ∷ []) % 97
remainder_end xs r i h e =
    let same : r % 97 ≡ value_of xs % 97 = ap (λ n. n % 97) (sym (at_drop_all (value_after r) xs i h)) ∙ e in
    let two : r * 100 ≡ (r * 10 + 0) * 10 + 0 = omega arith in
    ap (λ n. n % 97) two ∙ value_mod r (value_of xs) (48 ∷ 48 ∷ []) same ∙ ap (λ n. n % 97) (sym (value_append 0 xs (48 ∷ 48 ∷ [])))

-- one digit written more, from the last one on
pub digits_step : (n i : ℕ) (xs : List ℕ) → i < length xs → digits_of n (i + 1) ++ drop (i + 1) xs ≡ digits_of (n / 10) i ++ drop i (set xs i (48 + n % 10))
unfolding digits_of
digits_step n i xs h =
    rw add-one (append_assoc (digits_of (n / 10) i) ((48 + n % 10) ∷ []) (drop (suc i) xs) ∙ ap (λ l. digits_of (n / 10) i ++ l) (rw add-one at (sym (drop-set xs i (48 + n % 10) h))))
