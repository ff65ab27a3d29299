-- The thirteen layouts. A reader is given the 78 bytes behind the code, so position p of the record is index p - 3.
-- `between a b rest` is positions a + 3 to b + 2.
use Rattle.std.specs.Prelude.{ℕ, Bool, cond, ◌&&◌, ◌||◌, List, Some, None, Ok, Err, Option, Result, ◌==◌, nat_le, slice_index}
use Rattle.std.specs.List.{between}
use Rattle.std.specs.Option.{ok_or}
use Rattle.field.specs.declared.references.ReferenceForm.{ReferenceForm}
use Rattle.field.specs.Bytes.{is_digit, is_text, is_blank, every}
use Rattle.field.specs.Chains.{then}
use Rattle.field.specs.Numbers.{number_of}
use Rattle.field.specs.Money.{currency_of, amount_of}
use Rattle.field.specs.Dates.{date_of, stamp_of}
use Rattle.field.specs.References.{reference_of, extra_of}
use Rattle.record.specs.declared.fields.TestMark.{TestMark}
use Rattle.record.specs.declared.fields.TestMark.TheVariants.{Test, Production}
use Rattle.record.specs.declared.fields.DepositType.{DepositType}
use Rattle.record.specs.declared.fields.DepositType.TheVariants.{K, D, S, Unmarked}
use Rattle.record.specs.declared.fields.Start.{Start}
use Rattle.record.specs.declared.fields.Opening.{Opening}
use Rattle.record.specs.declared.fields.Transfer.{Transfer}
use Rattle.record.specs.declared.fields.Deposit.{Deposit}
use Rattle.record.specs.declared.fields.End.{End}
use Rattle.record.specs.declared.fields.Core.{Core}
use Rattle.record.specs.declared.fields.Core.TheVariants as core
use Rattle.record.specs.declared.fields.Field.{Field}
use Rattle.record.specs.declared.fields.Field.TheVariants as field
use Rattle.record.specs.declared.kinds.Kind.{Kind}
use Rattle.record.specs.declared.kinds.Kind.TheVariants as kind

-- a field of which only its form is asked
abbrev pub must : Bool → Field → Result (Unit {0}) Field
must holds f = cond holds (Ok tt) (Err f)

-- `BGMAX` and 15 blanks
abbrev pub layout_name : List ℕ → Bool
layout_name part =
    (slice_index part 0 == 66) && (slice_index part 1 == 71 && (slice_index part 2 == 77 && (slice_index part 3 == 65 && (slice_index part 4 == 88 && every is_blank (between 5 20 part)))))

-- T for a test, P for production
abbrev pub mark_of : ℕ → Option TestMark
mark_of b = cond (b == 84) (Some Test) (cond (b == 80) (Some Production) None)

-- 3-22 `BGMAX` and blanks; 23-24 digits; 25-44 time stamp; 45 mark
abbrev pub read_start : List ℕ → Result Start Field
read_start rest =
    then (must (layout_name (between 0 20 rest)) field.LayoutName) (λ _.
    then (must (every is_digit (between 20 22 rest)) field.Version) (λ _.
    then (ok_or (stamp_of (between 22 42 rest)) field.TimeStamp) (λ stamp.
    then (ok_or (mark_of (slice_index rest 42)) field.TestMark) (λ mark.
    Ok (record { stamp = stamp; mark = mark })))))

-- 3-12 payee; 13-22 digits or all blank; 23-25 currency
abbrev pub read_opening : List ℕ → Result Opening Field
read_opening rest =
    then (ok_or (number_of (between 0 10 rest)) field.Payee) (λ payee.
    then (must (every is_digit (between 10 20 rest) || every is_blank (between 10 20 rest)) field.PlusgiroNumber) (λ _.
    then (ok_or (currency_of (between 20 23 rest)) field.Currency) (λ currency.
    Ok (record { payee = payee; currency = currency }))))

-- 3-12 payer; 38-55 amount; 57 a digit; 58-69 serial; 70 a digit; the reference as the kind reads it
abbrev pub transfer_of : Option ReferenceForm → List ℕ → Result Transfer Field
transfer_of form rest =
    then (ok_or (number_of (between 0 10 rest)) field.Payer) (λ payer.
    then (ok_or form field.Reference) (λ reference.
    then (ok_or (amount_of (between 35 53 rest)) field.Amount) (λ amount.
    then (must (is_digit (slice_index rest 54)) field.Channel) (λ _.
    then (ok_or (number_of (between 55 67 rest)) field.Serial) (λ serial.
    then (must (is_digit (slice_index rest 67)) field.ImageMark) (λ _.
    Ok (record { payer = payer; reference = reference; amount = amount; serial = serial })))))))

-- 13-37 reference by the code at 56
abbrev pub read_payment : List ℕ → Result Transfer Field
read_payment rest = transfer_of (reference_of (slice_index rest 53) (between 10 35 rest)) rest

-- 0, 1 or 2
abbrev pub deduction_code : ℕ → Bool
deduction_code b = nat_le 48 b && nat_le b 50

-- as a payment; 71 is the deduction code
abbrev pub read_deduction : List ℕ → Result Transfer Field
read_deduction rest =
    then (read_payment rest) (λ fields.
    then (must (deduction_code (slice_index rest 68)) field.DeductionCode) (λ _.
    Ok fields))

-- as a payment; the reference code is 2, 4 or 5
abbrev pub read_extra : List ℕ → Result Transfer Field
read_extra rest = transfer_of (extra_of (slice_index rest 53) (between 10 35 rest)) rest

-- K, D, S or blank
abbrev pub deposit_type_of : ℕ → Option DepositType
deposit_type_of b =
    cond (b == 75) (Some K)
    (cond (b == 68) (Some D)
    (cond (b == 83) (Some S)
    (cond (b == 32) (Some Unmarked) None)))

-- 3-37 digits; 38-45 date; 46-50 serial; 51-68 sum; 69-71 currency; 72-79 count; 80 deposit type
abbrev pub read_deposit : List ℕ → Result Deposit Field
read_deposit rest =
    then (must (every is_digit (between 0 35 rest)) field.Account) (λ _.
    then (ok_or (date_of (between 35 43 rest)) field.Date) (λ date.
    then (ok_or (number_of (between 43 48 rest)) field.DepositSerial) (λ serial.
    then (ok_or (number_of (between 48 66 rest)) field.Sum) (λ sum.
    then (ok_or (currency_of (between 66 69 rest)) field.Currency) (λ currency.
    then (ok_or (number_of (between 69 77 rest)) field.Count) (λ count.
    then (ok_or (deposit_type_of (slice_index rest 77)) field.DepositType) (λ type.
    Ok (record { date = date; serial = serial; sum = sum; currency = currency; count = count; kind = type }))))))))

-- 3-10 payments; 11-18 deductions; 19-26 extra references; 27-34 deposits
abbrev pub read_end : List ℕ → Result End Field
read_end rest =
    then (ok_or (number_of (between 0 8 rest)) field.Payments) (λ payments.
    then (ok_or (number_of (between 8 16 rest)) field.Deductions) (λ deductions.
    then (ok_or (number_of (between 16 24 rest)) field.ExtraReferences) (λ extras.
    then (ok_or (number_of (between 24 32 rest)) field.Deposits) (λ deposits.
    Ok (record { payments = payments; deductions = deductions; extras = extras; deposits = deposits })))))

-- a record of which only text is asked
abbrev pub read_text : Core → List ℕ → Result Core Field
read_text c part = then (must (every is_text part) field.Text) (λ _. Ok c)

-- the fields of a record of this kind, or the first field that breaks its layout
abbrev pub read_core : Kind → List ℕ → Result Core Field
read_core kind.Start rest = then (read_start rest) (λ x. Ok (core.Start x))
read_core kind.Opening rest = then (read_opening rest) (λ x. Ok (core.Opening x))
read_core kind.Deposit rest = then (read_deposit rest) (λ x. Ok (core.Deposit x))
read_core kind.Payment rest = then (read_payment rest) (λ x. Ok (core.Payment x))
read_core kind.Deduction rest = then (read_deduction rest) (λ x. Ok (core.Deduction x))
read_core kind.ExtraReference rest = then (read_extra rest) (λ x. Ok (core.ExtraReference x))
read_core kind.NegativeReference rest = then (read_extra rest) (λ x. Ok (core.NegativeReference x))
read_core kind.Information rest = read_text core.Information (between 0 50 rest)
read_core kind.Name rest = read_text core.Name (between 0 70 rest)
read_core kind.AddressOne rest = read_text core.AddressOne (between 0 44 rest)
read_core kind.AddressTwo rest = read_text core.AddressTwo (between 0 72 rest)
read_core kind.CompanyNumber rest = then (ok_or (number_of (between 0 12 rest)) field.CompanyNumber) (λ n. Ok (core.CompanyNumber n))
read_core kind.End rest = then (read_end rest) (λ x. Ok (core.End x))
