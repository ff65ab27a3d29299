-- Entries: the records of a file as they lie on a shelf, and what they come to.
use Rattle.std.specs.Prelude.{ℕ, cond, List, [], ◌∷◌, map, Ok, Err, Result}
use Rattle.field.specs.declared.money.Currency.{Currency}
use Rattle.field.specs.declared.money.Currency.TheVariants.{Sek, Eur}
use Rattle.field.specs.Bytes.{is_text, every}
use Rattle.field.specs.Chains.{then}
use Rattle.record.specs.declared.fields.Core.{Core}
use Rattle.record.specs.declared.fields.Core.TheVariants as core
use Rattle.record.specs.declared.fields.Deposit.{Deposit}
use Rattle.record.specs.declared.fields.End.{End}
use Rattle.record.specs.declared.fields.Field.{Field}
use Rattle.record.specs.declared.classes.Class.{Class}
use Rattle.record.specs.declared.classes.Class.TheVariants as class
use Rattle.record.specs.Classes.{class_of}
use Rattle.record.specs.Editions.{bare}
use Rattle.sums.specs.Table.{capped}
use Rattle.trailer.specs.declared.layout.Totals.{Totals}
use Rattle.manual.specs.declared.faults.FileFault.{FileFault}
use Rattle.manual.specs.Slots.{Slot, whole, broken}
use Rattle.manual.specs.Judging.{begin, judge}
use Rattle.manual.specs.Laws.{not_judging}
use Rattle.filing.specs.declared.deposits.Deposits.{Deposits}

-- a record of a shelf is a whole record where all its bytes are text
abbrev pub slot_of : List ℕ → Slot
slot_of r = cond (every is_text r) (whole r) broken

abbrev pub entry_slots : List (List ℕ) → List Slot
entry_slots rs = map slot_of rs

-- the deposits with one more, in its currency
abbrev pub in_currency : Deposits → ℕ → Currency → Deposits
in_currency x n Sek = record { sek = capped x.sek n; eur = x.eur }
in_currency x n Eur = record { sek = x.sek; eur = capped x.eur n }

abbrev pub with_deposit : Deposits → Deposit → Deposits
with_deposit x d = in_currency x d.sum d.currency

-- the deposits behind one more core record
abbrev pub deposits_core : Deposits → Core → Deposits
deposits_core x (core.Start y) = x
deposits_core x (core.Opening y) = x
deposits_core x (core.Deposit d) = with_deposit x d
deposits_core x (core.Payment y) = x
deposits_core x (core.Deduction y) = x
deposits_core x (core.ExtraReference y) = x
deposits_core x (core.NegativeReference y) = x
deposits_core x core.Information = x
deposits_core x core.Name = x
deposits_core x core.AddressOne = x
deposits_core x core.AddressTwo = x
deposits_core x (core.CompanyNumber n) = x
deposits_core x (core.End y) = x

abbrev pub deposits_read : Deposits → Result Core Field → Deposits
deposits_read x (Ok c) = deposits_core x c
deposits_read x (Err f) = x

-- and behind one more record: only a deposit adds anything
abbrev pub deposits_behind : Deposits → Class → Deposits
deposits_behind x class.BadCode = x
deposits_behind x (class.Core k read) = deposits_read x read
deposits_behind x (class.Rider y) = x
deposits_behind x class.Unknown = x

abbrev pub deposits_from : Deposits → List (List ℕ) → Deposits
deposits_from x [] = x
deposits_from x (r ∷ rs) = deposits_from (deposits_behind x (class_of bare r)) rs

abbrev pub no_deposits : Deposits
no_deposits = record { sek = 0; eur = 0 }

-- payments and deductions as the end record counts them, and the deposits
abbrev pub totals_of : End → Deposits → Totals
totals_of e x = record { payments = e.payments; deductions = e.deductions; sek = x.sek; eur = x.eur }

-- what the records of an entry come to, read as a file under the bare edition with payers not judged, or why they cannot be read
unfoldable pub reads : List (List ℕ) → Result Totals FileFault
reads rs = then (judge not_judging bare 1 begin (entry_slots rs)) (λ e. Ok (totals_of e (deposits_from no_deposits rs)))
