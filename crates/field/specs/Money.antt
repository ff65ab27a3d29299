-- Currencies and amounts.
use Rattle.std.specs.Prelude.{ℕ, cond, ◌&&◌, List, Some, None, Option, ◌==◌, nat_le, slice_index}
use Rattle.field.specs.declared.money.Currency.{Currency}
use Rattle.field.specs.declared.money.Currency.TheVariants.{Sek, Eur}
use Rattle.field.specs.Numbers.{number_of}
use Rattle.field.specs.Chains.{and_then}

-- three letters, SEK or EUR
abbrev pub currency_of : List ℕ → Option Currency
currency_of part =
    cond (slice_index part 0 == 83 && (slice_index part 1 == 69 && slice_index part 2 == 75)) (Some Sek)
    (cond (slice_index part 0 == 69 && (slice_index part 1 == 85 && slice_index part 2 == 82)) (Some Eur) None)

-- an amount is a number up to 9,999,999,999,999
abbrev pub amount_of : List ℕ → Option ℕ
amount_of part = and_then (number_of part) (λ n. cond (nat_le n 9999999999999) (Some n) None)
