-- Numbers in a fixed width of decimal digits, and check digits.
use Rattle.std.specs.Prelude.{ℕ, zero, suc, ◌+◌, ◌-◌, ◌*◌, ◌/◌, ◌%◌, min, Bool, List, [], ◌∷◌, ◌++◌, ◌==◌}

-- the value of a byte as a digit, at most 9: for a digit, the number that it writes
abbrev pub value : ℕ → ℕ
value b = min (b - 48) 9

abbrev pub value_after : ℕ → List ℕ → ℕ
value_after n [] = n
value_after n (b ∷ bs) = value_after (n * 10 + value b) bs

-- the number that digits write
abbrev pub value_of : List ℕ → ℕ
value_of bs = value_after 0 bs

-- whether a byte is the digit 0
abbrev pub is_zero : ℕ → Bool
is_zero b = b == 48

-- a number in so many digits, with leading zeros
unfoldable pub digits_of : ℕ → ℕ → List ℕ
digits_of n zero = []
digits_of n (suc w) = digits_of (n / 10) w ++ (48 + n % 10) ∷ []

-- the check digits by ISO 7064 MOD 97-10: 98 less the remainder, on division by 97, of the digits followed by 00
abbrev pub check_of : List ℕ → ℕ
check_of front = 98 - value_of (front ++ 48 ∷ 48 ∷ []) % 97
