-- Balancing: the balance of all entries, or that the table is short.
use Rattle.std.specs.Prelude.{ℕ, ◌-◌, cond, List, [], ◌∷◌, ◌++◌, length, replicate, Some, None, Ok, Err, Option, Result, nat_le}
use Rattle.sums.specs.declared.Row.{Row}
use Rattle.sums.specs.Table.{zero_row, enter}
use Rattle.report.specs.declared.pairs.Pair.{Pair}
use Rattle.report.specs.Pairs.{same_pair, no_pair}
use Rattle.report.specs.Balances.{balance_of}
use Rattle.filing.specs.declared.faults.VolumeFault.{VolumeFault}
use Rattle.filing.specs.declared.faults.VolumeFault.TheVariants.{BalanceShort}
use Rattle.filing.specs.Volumes.{Records}

-- the rows in use after an entry, if there is one, where there is room for so many; none if they would be more
abbrev pub entered_by : ℕ → List (Row Pair) → Option (Row Pair) → Option (List (Row Pair))
entered_by many rows None = Some rows
entered_by many rows (Some e) = enter same_pair many rows e.key e.added e.taken

-- balancing entries, with a table of so many rows: the balance, or the refusal
abbrev pub balanced : ℕ → List Records → Result (List (Row Pair)) VolumeFault
balanced many es = cond (nat_le (length (balance_of es)) many) (Ok (balance_of es)) (Err BalanceShort)

-- it answers the rows filled
abbrev pub balance_answer : Result (List (Row Pair)) VolumeFault → Result ℕ VolumeFault
balance_answer (Ok rows) = Ok (length rows)
balance_answer (Err f) = Err f

-- the table afterwards, with so many rows: the balance, and zero rows behind it; at a refusal zero rows alone
abbrev pub balance_table : Result (List (Row Pair)) VolumeFault → ℕ → List (Row Pair)
balance_table (Ok rows) many = rows ++ replicate (many - length rows) (zero_row no_pair)
balance_table (Err f) many = replicate many (zero_row no_pair)

-- the number by which balancing can be refused
abbrev pub of_balancing : List ℕ
of_balancing = 26 ∷ []
