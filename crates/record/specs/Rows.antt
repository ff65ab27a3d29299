-- Rows: what is shown of a record.
use Rattle.std.specs.Prelude.{ℕ}
use Rattle.field.specs.declared.references.ReferenceForm.TheVariants.{Absent}
use Rattle.record.specs.declared.kinds.Kind.{Kind}
use Rattle.record.specs.declared.kinds.Kind.TheVariants as kind
use Rattle.record.specs.declared.fields.Core.{Core}
use Rattle.record.specs.declared.fields.Core.TheVariants as core
use Rattle.record.specs.declared.fields.Transfer.{Transfer}
use Rattle.record.specs.declared.rows.Row.{Row}

-- the kind of a core record's fields
abbrev pub kind_in : Core → Kind
kind_in (core.Start x) = kind.Start
kind_in (core.Opening x) = kind.Opening
kind_in (core.Deposit x) = kind.Deposit
kind_in (core.Payment x) = kind.Payment
kind_in (core.Deduction x) = kind.Deduction
kind_in (core.ExtraReference x) = kind.ExtraReference
kind_in (core.NegativeReference x) = kind.NegativeReference
kind_in core.Information = kind.Information
kind_in core.Name = kind.Name
kind_in core.AddressOne = kind.AddressOne
kind_in core.AddressTwo = kind.AddressTwo
kind_in (core.CompanyNumber n) = kind.CompanyNumber
kind_in (core.End x) = kind.End

-- number and code, and nothing else
abbrev pub bare_row : ℕ → ℕ → Row
bare_row n c = record { number = n; code = c; party = 0; money = 0; serial = 0; reference = Absent }

-- payer, amount, serial and reference form
abbrev pub transfer_row : ℕ → ℕ → Transfer → Row
transfer_row n c t = record { number = n; code = c; party = t.payer; money = t.amount; serial = t.serial; reference = t.reference }

-- the row of the core record with number n; what it lacks is 0, the form absent
abbrev pub row_of : ℕ → Core → Row
row_of n (core.Start x) = bare_row n 1
row_of n (core.Opening o) = record { number = n; code = 5; party = o.payee; money = 0; serial = 0; reference = Absent }
row_of n (core.Deposit d) = record { number = n; code = 15; party = 0; money = d.sum; serial = d.serial; reference = Absent }
row_of n (core.Payment t) = transfer_row n 20 t
row_of n (core.Deduction t) = transfer_row n 21 t
row_of n (core.ExtraReference t) = transfer_row n 22 t
row_of n (core.NegativeReference t) = transfer_row n 23 t
row_of n core.Information = bare_row n 25
row_of n core.Name = bare_row n 26
row_of n core.AddressOne = bare_row n 27
row_of n core.AddressTwo = bare_row n 28
row_of n (core.CompanyNumber m) = bare_row n 29
row_of n (core.End x) = bare_row n 70
