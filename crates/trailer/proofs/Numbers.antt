-- Digits and the number that they write determine one another.
use Rattle.std.proofs.Common.{◌≡◌, ℕ, zero, suc, ◌+◌, ◌*◌, ◌/◌, ◌%◌, ◌^◌, ◌<◌, ◌≤◌, true, eqb, leb, List, [], ◌∷◌, ◌++◌, length, get_or, take, sym, refl, ap, ◌∙◌, mul-le-mul_right, mul_assoc, mul_comm, pow-suc, arith}
use native.Mathlib.Nat.{pow-zero}
use Rattle.std.proofs.lemmas.List.{take_more, take_all, length-take-le, length_push}
use Rattle.std.proofs.lemmas.List.Folds.{list_all-append}
use Rattle.std.proofs.lemmas.Bool.{and_parts, and_from, leb-true, eqb-true}
use Rattle.std.proofs.lemmas.Bool.Decides.{nat_tests}
use Rattle.field.specs.Bytes.{is_digit, every}
use Rattle.trailer.specs.Digits.{value, value_after, value_of, is_zero, digits_of}
use Rattle.trailer.proofs.Steps.{value_append}

pub length_digits : (n w : ℕ) → length (digits_of n w) ≡ w
unfolding digits_of
length_digits n zero = refl
length_digits n (suc w) = length_push (digits_of (n / 10) w) (48 + n % 10) ∙ omega (arith, length_digits (n / 10) w)

-- a number that fits its digits is what they write
value-digits : (n w : ℕ) → n < 10 ^ w → value_of (digits_of n w) ≡ n
unfolding digits_of
value-digits n zero h = omega arith
value-digits n (suc w) h =
    let p = pow-suc 10 w in
    let e = value_append 0 (digits_of (n / 10) w) ((48 + n % 10) ∷ []) in
    let i = value-digits (n / 10) w (omega arith) in
    omega arith

pub value-back : {part : List ℕ} (n w : ℕ) → part ≡ digits_of n w → n < 10 ^ w → value_of part ≡ n
value-back n w e h = ap value_of e ∙ value-digits n w h

pub every-digit : (n w : ℕ) → every is_digit (digits_of n w) ≡ true
unfolding digits_of
every-digit n zero = refl
every-digit n (suc w) =
    let d : is_digit (48 + n % 10) ≡ true = grind (arith, nat_tests) in
    list_all-append is_digit (digits_of (n / 10) w) ((48 + n % 10) ∷ []) ∙ and_from _ _ (every-digit (n / 10) w) (and_from _ _ d refl)

-- digits are those of the number that they write
pub digits_value : (w : ℕ) (bs : List ℕ) → length bs ≡ w → every is_digit bs ≡ true → digits_of (value_of bs) w ≡ bs
unfolding digits_of
digits_value zero [] h a = refl
digits_value zero (b ∷ bs) h a = absurd (omega arith)
digits_value (suc w) bs h a =
    let xs = take w bs in
    let b = get_or bs w 0 in
    let split : bs ≡ xs ++ b ∷ [] = sym (take_all (w + 1) bs (omega arith)) ∙ take_more bs w 0 (omega arith) in
    let both = and_parts (every is_digit xs) (every is_digit (b ∷ [])) (sym (list_all-append is_digit xs (b ∷ [])) ∙ ap (every is_digit) (sym split) ∙ a) in
    let d = and_parts (leb 48 b) (leb b 57) (and_parts (is_digit b) true both.1).0 in
    let low = leb-true 48 b d.0 in
    let high = leb-true b 57 d.1 in
    let n = value_of xs in
    let is : value_of bs ≡ n * 10 + value b = ap value_of split ∙ value_append 0 xs (b ∷ []) in
    let front : value_of bs / 10 ≡ n = omega arith in
    let last : 48 + value_of bs % 10 ≡ b = omega arith in
    ap (λ m. digits_of m w ++ (48 + value_of bs % 10) ∷ []) front ∙ ap (λ m. digits_of n w ++ m ∷ []) last
    ∙ ap (λ l. l ++ b ∷ []) (digits_value w xs (length-take-le w bs (omega arith)) both.0) ∙ sym split

value_under : (n : ℕ) (bs : List ℕ) → value_after n bs < (n + 1) * 10 ^ length bs
value_under n [] = omega (arith, pow-zero 10)
value_under n (b ∷ bs) =
    let k = 10 ^ length bs in
    let more : (n * 10 + value b + 1) * k ≤ ((n + 1) * 10) * k = mul-le-mul_right k (omega arith) in
    let moved : ((n + 1) * 10) * k ≡ (n + 1) * 10 ^ suc (length bs) = mul_assoc (n + 1) 10 k ∙ ap (λ m. (n + 1) * m) (mul_comm 10 k ∙ sym (pow-suc 10 (length bs))) in
    omega (arith, value_under (n * 10 + value b) bs)

-- whatever the bytes, their value fits as many digits
pub value_small : (bs : List ℕ) (w : ℕ) → length bs ≡ w → value_of bs < 10 ^ w
value_small bs w e = let h : value_of bs < 10 ^ length bs = omega (arith, value_under 0 bs) in rw e at h

pub zeros-value : (bs : List ℕ) → every is_zero bs ≡ true → value_of bs ≡ 0
zeros-value [] h = refl
zeros-value (b ∷ bs) h =
    let p = and_parts (eqb b 48) (every is_zero bs) h in
    ap (λ x. value_after (0 * 10 + value x) bs) (eqb-true b 48 p.0) ∙ zeros-value bs p.1
