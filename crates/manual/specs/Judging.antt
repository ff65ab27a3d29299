-- The judge of a file: a state, and what one record after another does to it.
-- Numbers are as a u64 holds them (capped).
use Rattle.std.specs.Prelude.{ℕ, suc, Bool, true, false, cond, not, ◌&&◌, ◌||◌, List, [], ◌∷◌, length, Ok, Err, Result, ◌==◌, nat_eq, nat_le, nat_lt}
use Rattle.field.specs.declared.money.Currency.{Currency}
use Rattle.field.specs.declared.money.Currency.TheVariants.{Sek, Eur}
use Rattle.record.specs.declared.kinds.Kind.{Kind}
use Rattle.record.specs.declared.kinds.Kind.TheVariants as kind
use Rattle.record.specs.declared.fields.Core.{Core}
use Rattle.record.specs.declared.fields.Core.TheVariants as core
use Rattle.record.specs.declared.fields.Transfer.{Transfer}
use Rattle.record.specs.declared.fields.Deposit.{Deposit}
use Rattle.record.specs.declared.fields.End.{End}
use Rattle.record.specs.declared.fields.Field.{Field}
use Rattle.record.specs.declared.editions.Level.{Level}
use Rattle.record.specs.declared.editions.Level.TheVariants as level
use Rattle.record.specs.declared.classes.Class.{Class}
use Rattle.record.specs.declared.classes.Class.TheVariants as class
use Rattle.record.specs.declared.faults.RecordFault.TheVariants.{Code, Layout}
use Rattle.record.specs.Kinds.{code_of}
use Rattle.record.specs.Classes.{class_of}
use Rattle.record.specs.Editions.{Meaning}
use Rattle.sums.specs.declared.Row.{Row}
use Rattle.sums.specs.Table.{capped, entered, covered}
use Rattle.manual.specs.declared.faults.Cause.{Cause}
use Rattle.manual.specs.declared.faults.Cause.TheVariants as cause
use Rattle.manual.specs.declared.faults.FileFault.{FileFault}
use Rattle.manual.specs.declared.places.Stage.{Stage}
use Rattle.manual.specs.declared.places.Stage.TheVariants as stage
use Rattle.manual.specs.declared.places.Place.{Place}
use Rattle.manual.specs.declared.places.Place.TheVariants as place
pub use Rattle.manual.specs.Modes.{Mode}
use Rattle.manual.specs.Slots.{Slot, whole, broken, slots}

-- the section that is open: its currency, its payment and deduction records, its payments, what both come to, its payers
pub record Section : Type 0 where
  pub currency : Currency
  pub records : ℕ
  pub payments : ℕ
  pub plus : ℕ
  pub minus : ℕ
  pub rows : List (Row ℕ)

-- the item that is open: its payer and serial, and its information records
pub record Item : Type 0 where
  pub payer : ℕ
  pub serial : ℕ
  pub infos : ℕ

pub record State : Type 0 where
  pub place : Place
  pub counts : End
  pub section : Section
  pub item : Item

-- Order.

-- whether a code is among these
abbrev pub among : ℕ → List ℕ → Bool
among c [] = false
among c (x ∷ xs) = c == x || among c xs

-- the core codes that may come next in an item at this stage
abbrev pub next_in_item : Stage → List ℕ
next_in_item stage.Head = 22 ∷ 23 ∷ 25 ∷ 26 ∷ 27 ∷ 29 ∷ 20 ∷ 21 ∷ 15 ∷ []
next_in_item stage.Information = 25 ∷ 26 ∷ 27 ∷ 29 ∷ 20 ∷ 21 ∷ 15 ∷ []
next_in_item stage.Name = 27 ∷ 29 ∷ 20 ∷ 21 ∷ 15 ∷ []
next_in_item stage.HalfAddress = 28 ∷ []
next_in_item stage.Address = 29 ∷ 20 ∷ 21 ∷ 15 ∷ []
next_in_item stage.CompanyNumber = 20 ∷ 21 ∷ 15 ∷ []

-- the core codes that may come next at this place
abbrev pub next_codes : Place → List ℕ
next_codes place.Fresh = 1 ∷ []
next_codes place.Begun = 5 ∷ []
next_codes place.Opened = 20 ∷ 21 ∷ []
next_codes (place.Within at) = next_in_item at
next_codes place.Between = 5 ∷ 70 ∷ []
next_codes place.Done = []

abbrev pub may_follow : Place → Kind → Bool
may_follow p k = among (code_of k) (next_codes p)

-- a deposit also wants a payment in its section
abbrev pub paid_for : ℕ → Kind → Bool
paid_for payments k = not (code_of k == 15) || nat_lt 0 payments

-- does a core record of this kind come in order
abbrev pub in_order : State → Kind → Bool
in_order s k = may_follow s.place k && paid_for s.section.payments k

-- the place behind a core record of this kind
abbrev pub place_after : Kind → Place
place_after kind.Start = place.Begun
place_after kind.Opening = place.Opened
place_after kind.Deposit = place.Between
place_after kind.Payment = place.Within stage.Head
place_after kind.Deduction = place.Within stage.Head
place_after kind.ExtraReference = place.Within stage.Head
place_after kind.NegativeReference = place.Within stage.Head
place_after kind.Information = place.Within stage.Information
place_after kind.Name = place.Within stage.Name
place_after kind.AddressOne = place.Within stage.HalfAddress
place_after kind.AddressTwo = place.Within stage.Address
place_after kind.CompanyNumber = place.Within stage.CompanyNumber
place_after kind.End = place.Done

-- Riders.

-- has the start record come
abbrev pub begun : Place → Bool
begun place.Fresh = false
begun place.Begun = true
begun place.Opened = true
begun (place.Within at) = true
begun place.Between = true
begun place.Done = true

abbrev pub is_file : Level → Bool
is_file level.File = true
is_file level.Section = false
is_file level.Item = false

abbrev pub is_section : Level → Bool
is_section level.File = false
is_section level.Section = true
is_section level.Item = false

abbrev pub is_item : Level → Bool
is_item level.File = false
is_item level.Section = false
is_item level.Item = true

-- may a rider of this level stand here: file level behind start or deposit, section behind opening, item in an item
abbrev pub sits : Place → Level → Bool
sits place.Fresh v = false
sits place.Begun v = is_file v
sits place.Opened v = is_section v
sits (place.Within at) v = is_item v
sits place.Between v = is_file v
sits place.Done v = false

-- What has to agree.

abbrev pub one_currency : Currency → Currency → Bool
one_currency Sek Sek = true
one_currency Sek Eur = false
one_currency Eur Sek = false
one_currency Eur Eur = true

-- the payers after an entry of so much added and taken away
abbrev pub payers_after : Mode → List (Row ℕ) → ℕ → ℕ → ℕ → List (Row ℕ)
payers_after mode rows p a t = cond mode.judged (entered nat_eq rows p a t) rows

-- whether they find room in the table
abbrev pub room : Mode → List (Row ℕ) → ℕ → ℕ → ℕ → Bool
room mode rows p a t = not mode.judged || nat_le (length (entered nat_eq rows p a t)) mode.cap

-- whether no payer's deductions exceed its payments
abbrev pub none_owes : Mode → List (Row ℕ) → Bool
none_owes mode rows = not mode.judged || covered rows

-- an extra reference has the payer and serial of its item
abbrev pub like_item : Item → Transfer → Bool
like_item i t = t.payer == i.payer && t.serial == i.serial

-- the section's currency, its count of payments and deductions, and payments less deductions: sum and deductions make up the payments
abbrev pub deposit_agrees : Section → Deposit → Bool
deposit_agrees x d =
    one_currency d.currency x.currency && (d.count == x.records && capped d.sum x.minus == x.plus)

-- the file's four counts
abbrev pub same_counts : End → End → Bool
same_counts c e =
    (e.payments == c.payments) && (e.deductions == c.deductions && (e.extras == c.extras && e.deposits == c.deposits))

-- One step: tests in order, each with the cause that it gives, and the state after.

-- what is asked of a core record's fields
abbrev pub content : Mode → State → Core → List (Bool × Cause)
content mode s (core.Start x) = []
content mode s (core.Opening x) = []
content mode s (core.Deposit d) = (none_owes mode s.section.rows, cause.PayerOwes) ∷ (deposit_agrees s.section d, cause.Deposit) ∷ []
content mode s (core.Payment t) = (room mode s.section.rows t.payer t.amount 0, cause.NoPlace) ∷ []
content mode s (core.Deduction t) = (room mode s.section.rows t.payer 0 t.amount, cause.NoPlace) ∷ []
content mode s (core.ExtraReference t) = (like_item s.item t, cause.UnlikeItem) ∷ []
content mode s (core.NegativeReference t) = (like_item s.item t, cause.UnlikeItem) ∷ []
content mode s core.Information = (nat_lt s.item.infos 99, cause.Information) ∷ []
content mode s core.Name = []
content mode s core.AddressOne = []
content mode s core.AddressTwo = []
content mode s (core.CompanyNumber n) = []
content mode s (core.End e) = (same_counts s.counts e, cause.Counts) ∷ []

abbrev pub counts_after : End → Core → End
counts_after c (core.Start x) = c
counts_after c (core.Opening x) = c
counts_after c (core.Deposit d) = record { payments = c.payments; deductions = c.deductions; extras = c.extras; deposits = capped c.deposits 1 }
counts_after c (core.Payment t) = record { payments = capped c.payments 1; deductions = c.deductions; extras = c.extras; deposits = c.deposits }
counts_after c (core.Deduction t) = record { payments = c.payments; deductions = capped c.deductions 1; extras = c.extras; deposits = c.deposits }
counts_after c (core.ExtraReference t) = record { payments = c.payments; deductions = c.deductions; extras = capped c.extras 1; deposits = c.deposits }
counts_after c (core.NegativeReference t) = record { payments = c.payments; deductions = c.deductions; extras = capped c.extras 1; deposits = c.deposits }
counts_after c core.Information = c
counts_after c core.Name = c
counts_after c core.AddressOne = c
counts_after c core.AddressTwo = c
counts_after c (core.CompanyNumber n) = c
counts_after c (core.End e) = c

-- a section of which nothing has come but its opening record
abbrev pub opened : Currency → Section
opened c = record { currency = c; records = 0; payments = 0; plus = 0; minus = 0; rows = [] }

abbrev pub with_payment : Mode → Section → Transfer → Section
with_payment mode x t = record {
  currency = x.currency;
  records = capped x.records 1;
  payments = capped x.payments 1;
  plus = capped x.plus t.amount;
  minus = x.minus;
  rows = payers_after mode x.rows t.payer t.amount 0;
}

abbrev pub with_deduction : Mode → Section → Transfer → Section
with_deduction mode x t = record {
  currency = x.currency;
  records = capped x.records 1;
  payments = x.payments;
  plus = x.plus;
  minus = capped x.minus t.amount;
  rows = payers_after mode x.rows t.payer 0 t.amount;
}

abbrev pub section_after : Mode → Section → Core → Section
section_after mode x (core.Start y) = x
section_after mode x (core.Opening o) = opened o.currency
section_after mode x (core.Deposit d) = x
section_after mode x (core.Payment t) = with_payment mode x t
section_after mode x (core.Deduction t) = with_deduction mode x t
section_after mode x (core.ExtraReference t) = x
section_after mode x (core.NegativeReference t) = x
section_after mode x core.Information = x
section_after mode x core.Name = x
section_after mode x core.AddressOne = x
section_after mode x core.AddressTwo = x
section_after mode x (core.CompanyNumber n) = x
section_after mode x (core.End e) = x

-- an item of which nothing has come but its payment or deduction
abbrev pub headed : Transfer → Item
headed t = record { payer = t.payer; serial = t.serial; infos = 0 }

abbrev pub item_after : Item → Core → Item
item_after i (core.Start y) = i
item_after i (core.Opening o) = i
item_after i (core.Deposit d) = i
item_after i (core.Payment t) = headed t
item_after i (core.Deduction t) = headed t
item_after i (core.ExtraReference t) = i
item_after i (core.NegativeReference t) = i
item_after i core.Information = record { payer = i.payer; serial = i.serial; infos = capped i.infos 1 }
item_after i core.Name = i
item_after i core.AddressOne = i
item_after i core.AddressTwo = i
item_after i (core.CompanyNumber n) = i
item_after i (core.End e) = i

-- the state behind a core record that passed
abbrev pub moved : Mode → State → Kind → Core → State
moved mode s k c = record {
  place = place_after k;
  counts = counts_after s.counts c;
  section = section_after mode s.section c;
  item = item_after s.item c;
}

abbrev pub core_tests : Mode → State → Kind → Result Core Field → List (Bool × Cause)
core_tests mode s k (Ok c) = (in_order s k, cause.Order) ∷ content mode s c
core_tests mode s k (Err f) = (in_order s k, cause.Order) ∷ (false, cause.Unreadable (Layout f)) ∷ []

abbrev pub core_after : Mode → State → Kind → Result Core Field → State
core_after mode s k (Ok c) = moved mode s k c
core_after mode s k (Err f) = s

-- what is asked of a record, in this order
abbrev pub tests : Mode → State → Class → List (Bool × Cause)
tests mode s class.BadCode = (false, cause.Unreadable Code) ∷ []
tests mode s (class.Core k read) = core_tests mode s k read
tests mode s (class.Rider x) = (begun s.place, cause.Order) ∷ (sits s.place x.level, cause.RiderLevel) ∷ (x.formed, cause.RiderIllFormed) ∷ []
tests mode s class.Unknown = (begun s.place, cause.Order) ∷ []

-- the state behind a record that passed: riders and unknown records leave it as it was
abbrev pub after : Mode → State → Class → State
after mode s class.BadCode = s
after mode s (class.Core k read) = core_after mode s k read
after mode s (class.Rider x) = s
after mode s class.Unknown = s

-- the first test that fails decides
abbrev pub first : {S : Type 0} → List (Bool × Cause) → S → Result S Cause
first [] s = Ok s
first (t ∷ ts) s = cond t.0 (first ts s) (Err t.1)

abbrev pub step : Mode → State → Class → Result State Cause
step mode s c = first (tests mode s c) (after mode s c)

-- The whole file.

-- before the first record
abbrev pub begin : State
begin = record {
  place = place.Fresh;
  counts = record { payments = 0; deductions = 0; extras = 0; deposits = 0 };
  section = opened Sek;
  item = record { payer = 0; serial = 0; infos = 0 };
}

abbrev pub ended : Place → Bool
ended place.Fresh = false
ended place.Begun = false
ended place.Opened = false
ended (place.Within at) = false
ended place.Between = false
ended place.Done = true

-- a cause at the record with number n
abbrev pub at_record : {A : Type 0} → ℕ → Cause → Result A FileFault
at_record n c = Err (record { number = n; cause = c })

abbrev pub then_on : {A : Type 0} → Result State Cause → ℕ → (State → Result A FileFault) → Result A FileFault
then_on (Ok s) n go = go s
then_on (Err c) n go = at_record n c

-- one slot: what is no whole record is refused, a record is judged by its class
abbrev pub slot_step : Mode → Meaning → State → Slot → Result State Cause
slot_step mode m s broken = Err cause.Broken
slot_step mode m s (whole r) = step mode s (class_of m r)

-- the slots from record number n on: at most 50,000 records, and an end record before the end
abbrev pub judge : Mode → Meaning → ℕ → State → List Slot → Result End FileFault
judge mode m n s [] = cond (ended s.place) (Ok s.counts) (at_record n cause.Unfinished)
judge mode m n s (x ∷ xs) = cond (nat_le n 50000) (then_on (slot_step mode m s x) n (λ t. judge mode m (suc n) t xs)) (at_record n cause.TooMany)

-- what checking answers: the end record's four counts, or the first refusal
abbrev pub check_of : Mode → Meaning → List ℕ → Result End FileFault
check_of mode m bs = judge mode m 1 begin (slots bs)
