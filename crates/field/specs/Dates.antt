-- Dates by the Gregorian calendar, and time stamps.
use Rattle.std.specs.Prelude.{ℕ, ◌-◌, ◌%◌, Bool, cond, not, ◌&&◌, ◌||◌, List, [], ◌∷◌, Some, None, Option, ◌==◌, nat_le, nat_lt, slice_index}
use Rattle.std.specs.List.{between}
use Rattle.field.specs.declared.dates.Date.{Date}
use Rattle.field.specs.Chains.{and_then}
use Rattle.field.specs.Numbers.{number_of}

-- every fourth year, but of the full centuries only every fourth
abbrev pub is_leap : ℕ → Bool
is_leap y = y % 4 == 0 && (not (y % 100 == 0) || y % 400 == 0)

-- the days of the twelve months in a common year
abbrev pub month_lengths : List ℕ
month_lengths = 31 ∷ 28 ∷ 31 ∷ 30 ∷ 31 ∷ 30 ∷ 31 ∷ 31 ∷ 30 ∷ 31 ∷ 30 ∷ 31 ∷ []

-- the days of month m in year y; 0 where there is no such month
abbrev pub days_in : ℕ → ℕ → ℕ
days_in y m = cond (m == 0 || nat_lt 12 m) 0 (cond (m == 2 && is_leap y) 29 (slice_index month_lengths (m - 1)))

-- eight digits: a year of four, a month and a day that the month has
abbrev pub date_of : List ℕ → Option Date
date_of part =
    and_then (number_of (between 0 4 part)) (λ year.
    and_then (number_of (between 4 6 part)) (λ month.
    and_then (number_of (between 6 8 part)) (λ day.
    cond (nat_le 1 day && nat_le day (days_in year month)) (Some (record { year = year; month = month; day = day })) None)))

-- twenty digits: a date, an hour up to 23, a minute and a second up to 59, and six more; as one number
abbrev pub stamp_of : List ℕ → Option ℕ
stamp_of part =
    and_then (date_of (between 0 8 part)) (λ day.
    and_then (number_of (between 8 10 part)) (λ hour.
    and_then (number_of (between 10 12 part)) (λ minute.
    and_then (number_of (between 12 14 part)) (λ second.
    cond (nat_le hour 23 && (nat_le minute 59 && nat_le second 59)) (number_of part) None))))
