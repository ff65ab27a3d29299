-- Numbers written in decimal digits.
use Rattle.std.specs.Prelude.{ℕ, ◌+◌, ◌-◌, ◌*◌, cond, List, [], ◌∷◌, Some, None, Option}
use Rattle.field.specs.Bytes.{is_digit}

-- the number written by the digits of n followed by the bytes; none where one of them is no digit
abbrev pub number_after : ℕ → List ℕ → Option ℕ
number_after n [] = Some n
number_after n (b ∷ bs) = cond (is_digit b) (number_after (n * 10 + (b - 48)) bs) None

-- the number that a part of digits writes
abbrev pub number_of : List ℕ → Option ℕ
number_of bs = number_after 0 bs
