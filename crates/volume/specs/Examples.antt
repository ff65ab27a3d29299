-- The worked examples of the rules: what the contracts of the calls say of one file, and the answers that docs/ prints. Each is an
-- equation (or a few) between a term of a contract and a literal.
use Rattle.std.specs.Prelude.{◌≡◌, ℕ, List, [], ◌∷◌, ◌++◌, replicate, codes, Some, Ok, Err, Result}
use Rattle.refusal.specs.declared.Place.TheVariants.{Record}
use Rattle.refusal.specs.Reasons.{number_of}
use Rattle.field.specs.declared.references.ReferenceForm.TheVariants.{Numeric}
use Rattle.record.specs.declared.classes.Class.TheVariants as class
use Rattle.record.specs.declared.faults.RecordFault.TheVariants.{Layout}
use Rattle.record.specs.declared.fields.Core.TheVariants as core
use Rattle.record.specs.declared.fields.End.{End}
use Rattle.record.specs.declared.fields.Field.TheVariants as field
use Rattle.record.specs.declared.fields.Transfer.{Transfer}
use Rattle.record.specs.declared.kinds.Kind.TheVariants as kind
use Rattle.record.specs.Classes.{class_of}
use Rattle.record.specs.Editions.{bare, house}
use Rattle.record.specs.Rows.{row_of}
use Rattle.trailer.specs.Trailers.{trailer_of, closing_of}
use Rattle.manual.specs.declared.faults.Cause.{Cause}
use Rattle.manual.specs.declared.faults.Cause.TheVariants as cause
use Rattle.manual.specs.Slots.{front}
use Rattle.manual.specs.Judging.{check_of, at_record}
use Rattle.manual.specs.Laws.{judging}
use Rattle.manual.specs.Refusals.{file_refusal}
use Rattle.manual.specs.Slots.{slots}
use Rattle.filing.specs.declared.faults.VolumeFault.{VolumeFault}
use Rattle.filing.specs.declared.faults.VolumeFault.TheVariants.{NoRoom}
use Rattle.filing.specs.Laws.{closed}
use Rattle.filing.specs.Refusals.{volume_refusal}
use Rattle.volume.specs.declared.tokens.OpenVolume.{OpenVolume}
use Rattle.volume.specs.Taking.{take_answer, take_records}
use Rattle.volume.specs.Tokens.{OwnOpen}

-- The files, field by field.

-- so many blanks, so many zeros
abbrev pub blanks : ℕ → List ℕ
blanks n = replicate n 32

abbrev pub zeros : ℕ → List ℕ
zeros n = replicate n 48

-- name of the layout, version, time stamp, production
abbrev pub start_line : List ℕ
start_line = codes "01" ++ codes "BGMAX" ++ blanks 15 ++ codes "01" ++ codes "20310402081500000000" ++ codes "P" ++ blanks 35

-- payee, no plusgiro number, currency
abbrev pub opening_line : List ℕ
opening_line = codes "05" ++ codes "0000004711" ++ blanks 10 ++ codes "SEK" ++ blanks 55

-- payer, reference, amount, reference code, channel, serial, no image
abbrev pub payment_line : List ℕ
payment_line =
    codes "20" ++ codes "0000000815" ++ blanks 21 ++ codes "1230" ++ codes "000000000000125000" ++ codes "2" ++ codes "0" ++ codes "000000000017" ++ codes "0" ++ blanks 10

-- account, date, serial, sum, currency, count, no mark
abbrev pub deposit_line : List ℕ → List ℕ → List ℕ
deposit_line date sum = codes "15" ++ zeros 35 ++ date ++ zeros 5 ++ sum ++ codes "SEK" ++ codes "00000001" ++ blanks 1

-- counts of payments, deductions, extra references, deposits
abbrev pub end_line : List ℕ
end_line = codes "70" ++ codes "00000001" ++ codes "00000000" ++ codes "00000000" ++ codes "00000001" ++ blanks 46

-- a record that nobody knows
abbrev pub line_77 : List ℕ
line_77 = codes "77" ++ blanks 78

-- lines one after another, each ended by LF
abbrev pub file_of : List (List ℕ) → List ℕ
file_of [] = []
file_of (l ∷ ls) = (l ++ 10 ∷ []) ++ file_of ls

-- the lines of F with another deposit
abbrev pub lines_with : List ℕ → List (List ℕ)
lines_with deposit = start_line ∷ opening_line ∷ payment_line ∷ deposit ∷ end_line ∷ []

-- and with the record 77 before the deposit
abbrev pub lines_with_77 : List ℕ → List (List ℕ)
lines_with_77 deposit = start_line ∷ opening_line ∷ payment_line ∷ line_77 ∷ deposit ∷ end_line ∷ []

-- F's own deposit; one that has an öre less; one on 29 February 2031, which is no date; one on 29 February 2032
abbrev pub right_deposit : List ℕ
right_deposit = deposit_line (codes "20310402") (codes "000000000000125000")

abbrev pub short_deposit : List ℕ
short_deposit = deposit_line (codes "20310402") (codes "000000000000124999")

abbrev pub undated_deposit : List ℕ
undated_deposit = deposit_line (codes "20310229") (codes "000000000000125000")

abbrev pub leap_deposit : List ℕ
leap_deposit = deposit_line (codes "20320229") (codes "000000000000125000")

abbrev pub f_lines : List (List ℕ)
f_lines = lines_with right_deposit

abbrev pub f : List ℕ
f = file_of f_lines

-- The answers.

-- the counts of one payment and one deposit
abbrev pub one_each : End
one_each = record { payments = 1; deductions = 0; extras = 0; deposits = 1 }

-- checking these bytes answers these counts, under either edition at hand, with a payer table of one row
pub record Accepted (bytes : List ℕ) (counts : End) : Type 0 where
  pub under_bare : check_of (judging 1) bare bytes ≡ Ok counts
  pub under_house : check_of (judging 1) house bytes ≡ Ok counts

-- checking these bytes is refused with this number at this record, for this cause
pub record Refused (bytes : List ℕ) (number at : ℕ) (why : Cause) : Type 0 where
  pub under_bare : check_of (judging 1) bare bytes ≡ at_record at why
  pub under_house : check_of (judging 1) house bytes ≡ at_record at why
  pub numbered : number_of (file_refusal (record { number = at; cause = why })).reason ≡ number
  pub placed : (file_refusal (record { number = at; cause = why })).place ≡ Some (Record at)

-- the token of an empty open volume
abbrev pub no_entries : OpenVolume
no_entries = record { entries = 0; last = 0 }

-- taking F in on an empty shelf with this limit, whose own token is that of an empty open volume, answers this
pub record TakingF (limit : ℕ) (answer : Result ℕ VolumeFault) : Type 0 where
  pub own : OwnOpen no_entries [] limit
  pub under_bare : take_answer (check_of (judging 1) bare f) limit [] no_entries (front (slots f)) ≡ answer
  pub under_house : take_answer (check_of (judging 1) house f) limit [] no_entries (front (slots f)) ≡ answer

-- the fields of F's payment
abbrev pub f_payment : Transfer
f_payment = record { payer = 815; reference = Numeric 34; amount = 125000; serial = 17 }

-- F's trailer on an empty shelf, and the closing record of an empty volume
abbrev pub f_trailer : List ℕ
f_trailer = codes "99000000050000000100000000000000010000000000000000000012500000000000000000000010"

abbrev pub no_closing : List ℕ
no_closing = codes "98" ++ zeros 76 ++ codes "86"

-- The examples.
pub record ExamplesHold : Type 0 where
  -- F's lines are those that docs/FORMAT.md prints.
  pub printed : f_lines
      ≡ codes "01BGMAX               0120310402081500000000P                                   "
      ∷ codes "050000004711          SEK                                                       "
      ∷ codes "200000000815                     1230000000000000125000200000000000170          "
      ∷ codes "15000000000000000000000000000000000002031040200000000000000000125000SEK00000001 "
      ∷ codes "7000000001000000000000000000000001                                              "
      ∷ []
  -- 1. No bytes at all: 12 at record 1.
  pub no_bytes : Refused [] 12 1 cause.Unfinished
  -- 2. F is accepted, with its counts.
  pub accepted : Accepted f one_each
  -- Its payment is read with the payer, the amount, the serial number and a numeric reference that begins at position 34,
  pub payment_class : class_of bare payment_line ≡ class.Core kind.Payment (Ok (core.Payment f_payment))
  -- and its row has them.
  pub payment_row : row_of 3 (core.Payment f_payment) ≡ record { number = 3; code = 20; party = 815; money = 125000; serial = 17; reference = Numeric 34 }
  -- 3. A deposit of 124999: 9 at record 4. With the record 77 before that deposit: 9 at record 5.
  pub short : Refused (file_of (lines_with short_deposit)) 9 4 cause.Deposit
  pub short_later : Refused (file_of (lines_with_77 short_deposit)) 9 5 cause.Deposit
  -- 4. F with the record 77 and the right deposit is accepted, with the same counts.
  pub unknown_passes : Accepted (file_of (lines_with_77 right_deposit)) one_each
  -- 5. On an empty shelf with 6 places F gets 22; with 7 places it is entry 1.
  pub six_places : TakingF 6 (Err NoRoom)
  pub no_room : number_of (volume_refusal NoRoom).reason ≡ 22
  pub seven_places : TakingF 7 (Ok 1)
  -- 6. A deposit on 20310229: 4 at record 4. One on 20320229 is accepted.
  pub no_date : Refused (file_of (lines_with undated_deposit)) 4 4 (cause.Unreadable (Layout field.Date))
  pub leap_day : Accepted (file_of (lines_with leap_deposit)) one_each
  -- 7. Closing an empty volume lays `98`, 76 zeros, `86`.
  pub closing : closing_of 0 0 ≡ no_closing
  pub closing_laid : closed 0 [] ≡ no_closing ∷ []
  -- 8. Taking F in on an empty shelf lays its five records and its trailer: five records, entry 1, no trailer before it, one payment, no
  -- deduction, 1250.00 in SEK and nothing in EUR.
  pub trailer : trailer_of (record { records = 5; entry = 1; previous = 0; totals = record { payments = 1; deductions = 0; sek = 125000; eur = 0 } }) ≡ f_trailer
  pub trailer_laid : take_records (Ok 1) [] no_entries (front (slots f)) ≡ f_lines ++ f_trailer ∷ []
