-- Trailers and closing records. Position p of a record is index p - 1; `between a b r` is positions a + 1 to b.
use Rattle.std.specs.Prelude.{ℕ, ◌+◌, Bool, cond, ◌&&◌, List, ◌++◌, Some, None, Option, ◌==◌}
use Rattle.std.specs.List.{between}
use Rattle.field.specs.Bytes.{is_digit, every}
use Rattle.trailer.specs.declared.layout.Trailer.{Trailer}
use Rattle.trailer.specs.Digits.{is_zero, value_of, digits_of, check_of}

-- 78 digits with their check digits behind them
abbrev pub checked : List ℕ → List ℕ
checked front = front ++ digits_of (check_of front) 2

-- 1-2 code 99; 3-10 records; 11-18 entry number; 19-26 previous trailer; 27-34 payments; 35-42 deductions; 43-60 SEK; 61-78 EUR
abbrev pub trailer_front : Trailer → List ℕ
trailer_front t =
    digits_of 99 2 ++ digits_of t.records 8 ++ digits_of t.entry 8 ++ digits_of t.previous 8
    ++ digits_of t.totals.payments 8 ++ digits_of t.totals.deductions 8 ++ digits_of t.totals.sek 18 ++ digits_of t.totals.eur 18

-- a trailer as it stands on a shelf
unfoldable pub trailer_of : Trailer → List ℕ
trailer_of t = checked (trailer_front t)

-- 1-2 code 98; 3-10 entries; 11-18 last trailer; 19-78 zeros
abbrev pub closing_front : ℕ → ℕ → List ℕ
closing_front entries last = digits_of 98 2 ++ digits_of entries 8 ++ digits_of last 8 ++ digits_of 0 60

-- a closing record as it stands on a shelf
unfoldable pub closing_of : ℕ → ℕ → List ℕ
closing_of entries last = checked (closing_front entries last)

-- 80 digits with this code and their check digits
abbrev pub is_checked : ℕ → List ℕ → Bool
is_checked code r = every is_digit r && (value_of (between 0 2 r) == code && value_of (between 78 80 r) == check_of (between 0 78 r))

abbrev pub fields_of : List ℕ → Trailer
fields_of r = record {
  records = value_of (between 2 10 r);
  entry = value_of (between 10 18 r);
  previous = value_of (between 18 26 r);
  totals = record {
    payments = value_of (between 26 34 r);
    deductions = value_of (between 34 42 r);
    sek = value_of (between 42 60 r);
    eur = value_of (between 60 78 r);
  };
}

-- previous trailer, records and one more make its own shelf number
abbrev pub is_placed : Trailer → ℕ → Bool
is_placed t own = t.previous + t.records + 1 == own

-- the trailer that the record with this shelf number is, if it is right
unfoldable pub read_trailer : List ℕ → ℕ → Option Trailer
read_trailer r own = cond (is_checked 99 r && is_placed (fields_of r) own) (Some (fields_of r)) None

-- whether the record with this shelf number is a right closing record: it names the record before it
unfoldable pub right_closing : List ℕ → ℕ → Bool
right_closing r own = is_checked 98 r && value_of (between 10 18 r) + 1 == own

-- whether a closing record has this number of entries, and its zeros
unfoldable pub closing_says : List ℕ → ℕ → Bool
closing_says r entries = value_of (between 2 10 r) == entries && every is_zero (between 18 78 r)
