-- What can be wrong with a file at a record, said over the records before it in the words of the manual. Nothing here runs.
use Rattle.std.specs.Prelude.{◌≡◌, ◌≢◌, ℕ, zero, suc, ◌+◌, ◌<◌, ◌≤◌, true, false, cond, ◌⊎◌, List, [], ◌∷◌, ◌++◌, map, length, take, reverse, Some, None, Ok, Err, Option, Result, ◌==◌, nat_eq}
use Rattle.std.specs.List.{between, AllByRecursion}
use Rattle.field.specs.declared.money.Currency.{Currency}
use Rattle.field.specs.Chains.{and_then}
use Rattle.record.specs.declared.kinds.Kind.{Kind}
use Rattle.record.specs.declared.kinds.Kind.TheVariants as kind
use Rattle.record.specs.declared.fields.Transfer.{Transfer}
use Rattle.record.specs.declared.fields.Deposit.{Deposit}
use Rattle.record.specs.declared.fields.End.{End}
use Rattle.record.specs.declared.fields.Core.{Core}
use Rattle.record.specs.declared.fields.Core.TheVariants as core
use Rattle.record.specs.declared.fields.Field.{Field}
use Rattle.record.specs.declared.editions.Level.{Level}
use Rattle.record.specs.declared.faults.RecordFault.TheVariants.{Code, Layout}
use Rattle.record.specs.Codes.{code_in}
use Rattle.record.specs.Editions.{Meaning}
use Rattle.record.specs.Laws.{kind_at}
use Rattle.record.specs.Layouts.{read_core}
use Rattle.record.specs.Rows.{kind_in}
use Rattle.sums.specs.Laws.{distinct}
use Rattle.manual.specs.declared.faults.Cause.{Cause}
use Rattle.manual.specs.declared.faults.Cause.TheVariants as cause
use Rattle.manual.specs.Modes.{Mode}
use Rattle.manual.specs.Slots.{Slot, whole, broken, front}
use Rattle.manual.specs.Manual.{Read, Section, Tree, leaves, cores, total, one_payment, last_kind, level_after}
use Rattle.manual.specs.Payers.{payers_from}

-- WHAT HAS COME.

-- the fields of the core records that keep their layouts
abbrev pub kept : List (Result (Read Core) Field) → List Core
kept [] = []
kept (Ok l ∷ rs) = l.fields ∷ kept rs
kept (Err f ∷ rs) = kept rs

-- the fields of the core records among these records, the newest first
abbrev pub come : List (List ℕ) → List Core
come before = kept (cores (reverse before))

-- the kind of a core record in front of those behind it; others are left out
abbrev pub kind_then : Option Kind → List Kind → List Kind
kind_then None ks = ks
kind_then (Some k) ks = k ∷ ks

-- the kinds of the core records, in the order of the file
abbrev pub kinds : List (List ℕ) → List Kind
kinds [] = []
kinds (r ∷ rs) = kind_then (kind_at r) (kinds rs)

-- of core records, the newest first: those of the section that is open, which came behind the last opening record
abbrev pub inside : List Core → List Core
inside [] = []
inside (core.Opening o ∷ cs) = []
inside (c ∷ cs) = c ∷ inside cs

-- the currency of the last opening record
abbrev pub open_currency : List Core → Option Currency
open_currency [] = None
open_currency (core.Opening o ∷ cs) = Some o.currency
open_currency (c ∷ cs) = open_currency cs

-- the payment or deduction that the item which is open begins with
abbrev pub head : List Core → Option Transfer
head [] = None
head (core.Payment t ∷ cs) = Some t
head (core.Deduction t ∷ cs) = Some t
head (c ∷ cs) = head cs

-- and how many information records that item has
abbrev pub informed : List Core → ℕ
informed [] = 0
informed (core.Payment t ∷ cs) = 0
informed (core.Deduction t ∷ cs) = 0
informed (core.Information ∷ cs) = suc (informed cs)
informed (c ∷ cs) = informed cs

-- WHAT A CORE RECORD COUNTS FOR: one among the payments, deductions, extra references or deposits, or nothing.

abbrev pub a_payment : Core → ℕ
a_payment (core.Payment t) = 1
a_payment other = 0

abbrev pub a_deduction : Core → ℕ
a_deduction (core.Deduction t) = 1
a_deduction other = 0

abbrev pub an_extra : Core → ℕ
an_extra (core.ExtraReference t) = 1
an_extra (core.NegativeReference t) = 1
an_extra other = 0

abbrev pub a_deposit : Core → ℕ
a_deposit (core.Deposit d) = 1
a_deposit other = 0

-- what it pays, and what it deducts
abbrev pub pays : Core → ℕ
pays (core.Payment t) = t.amount
pays other = 0

abbrev pub deducts : Core → ℕ
deducts (core.Deduction t) = t.amount
deducts other = 0

-- the same, where it is of this payer; zero, no number, counts as one payer
abbrev pub pays_by : ℕ → Core → ℕ
pays_by p (core.Payment t) = cond (t.payer == p) t.amount 0
pays_by p other = 0

abbrev pub deducts_by : ℕ → Core → ℕ
deducts_by p (core.Deduction t) = cond (t.payer == p) t.amount 0
deducts_by p other = 0

-- ORDER.

-- the kinds of the leaves of a tree, in order
abbrev pub kinds_of : Tree → List Kind
kinds_of r = map (λ (l : Read Core). kind_in l.fields) (leaves r)

-- core records of these kinds can begin a file: they are the first leaves of some tree with a section or more, each with a payment or more
pub record Begins (ks : List Kind) : Type 0 where
  pub reading : Tree
  pub some_section : 0 < length reading.sections
  pub some_payment : AllByRecursion (λ (s : Section). 0 < total one_payment s.items) reading.sections
  pub rest : List Kind
  pub written : kinds_of reading ≡ ks ++ rest

-- a record is out of order
pub data OutOfOrder (before : List (List ℕ)) (r : List ℕ) : Type 0 where
  -- as the first record, where it is no start record
  no_start : before ≡ [] → kind_at r ≢ Some kind.Start → OutOfOrder before r
  -- as a core record with which no file begins behind those that have come
  not_next : (k : Kind) → kind_at r ≡ Some k → (Begins (kinds before ++ k ∷ []) → ⊥) → OutOfOrder before r

-- WHAT FIELDS HAVE TO AGREE WITH.

-- a core record that keeps its layout and has these fields
pub record Has (r : List ℕ) (c : Core) : Type 0 where
  pub kind : Kind
  pub coded : kind_at r ≡ Some kind
  pub keeps : read_core kind (between 2 (length r) r) ≡ Ok c

-- an extra reference has the payer and serial of its item
pub record LikeItem (cs : List Core) (t : Transfer) : Type 0 where
  pub item : Transfer
  pub is : head cs ≡ Some item
  pub payer : t.payer ≡ item.payer
  pub serial : t.serial ≡ item.serial

-- a deposit has the section's currency, its payment and deduction records, and its payments less its deductions
pub record Settles (cs : List Core) (d : Deposit) : Type 0 where
  pub currency : open_currency cs ≡ Some d.currency
  pub count : d.count ≡ total a_payment (inside cs) + total a_deduction (inside cs)
  pub sum : d.sum + total deducts (inside cs) ≡ total pays (inside cs)

-- an end record counts what has come
pub record CountsAll (cs : List Core) (e : End) : Type 0 where
  pub payments : e.payments ≡ total a_payment cs
  pub deductions : e.deductions ≡ total a_deduction cs
  pub extras : e.extras ≡ total an_extra cs
  pub deposits : e.deposits ≡ total a_deposit cs

-- 5: an extra reference unlike its item
abbrev pub Unlike : List Core → Core → Type 0
Unlike cs (core.ExtraReference t) = LikeItem cs t → ⊥
Unlike cs (core.NegativeReference t) = LikeItem cs t → ⊥
Unlike cs other = ⊥

-- 6: the 100th information record of an item
abbrev pub Hundredth : List Core → Core → Type 0
Hundredth cs core.Information = 99 ≤ informed cs
Hundredth cs other = ⊥

-- 7: a payment or deduction whose section then has more payers than the table has rows
abbrev pub Crowded : Mode → List (List ℕ) → Core → Type 0
Crowded mode before (core.Payment t) = (mode.judged ≡ true) × (mode.cap < distinct nat_eq (payers_from [] before ++ t.payer ∷ []))
Crowded mode before (core.Deduction t) = (mode.judged ≡ true) × (mode.cap < distinct nat_eq (payers_from [] before ++ t.payer ∷ []))
Crowded mode before other = ⊥

-- 8: a deposit in whose section some payer's deductions are more than its payments
abbrev pub Owing : Mode → List Core → Core → Type 0
Owing mode cs (core.Deposit d) = (mode.judged ≡ true) × ((p : ℕ) × (total (pays_by p) (inside cs) < total (deducts_by p) (inside cs)))
Owing mode cs other = ⊥

-- 9: a deposit that does not settle its section
abbrev pub Unsettled : List Core → Core → Type 0
Unsettled cs (core.Deposit d) = Settles cs d → ⊥
Unsettled cs other = ⊥

-- 10: an end record that counts otherwise
abbrev pub Miscounted : List Core → Core → Type 0
Miscounted cs (core.End e) = CountsAll cs e → ⊥
Miscounted cs other = ⊥

-- WRONG.

-- a rider: a record of a code that the edition knows
pub record Rides (m : Meaning) (r : List ℕ) : Type 0 where
  pub code : ℕ
  pub level : Level
  pub coded : code_in r ≡ Some code
  pub known : m.level code ≡ Some level

-- this is wrong with a whole record, where these came before it; 1, 11 and 12 are no fault of a whole record and follow below
abbrev pub WrongRecord : Mode → Meaning → List (List ℕ) → List ℕ → Cause → Type 0
WrongRecord mode m before r cause.Broken = ⊥
-- 2: its code is not two digits
WrongRecord mode m before r (cause.Unreadable Code) = code_in r ≡ None
-- 4: this is the first field of a core record that breaks its layout
WrongRecord mode m before r (cause.Unreadable (Layout f)) = (k : Kind) × (kind_at r ≡ Some k) × (read_core k (between 2 (length r) r) ≡ Err f)
-- 3: it is out of order
WrongRecord mode m before r cause.Order = OutOfOrder before r
-- 5 to 10: its fields do not agree with what came before
WrongRecord mode m before r cause.UnlikeItem = (c : Core) × Has r c × Unlike (come before) c
WrongRecord mode m before r cause.Information = (c : Core) × Has r c × Hundredth (come before) c
WrongRecord mode m before r cause.NoPlace = (c : Core) × Has r c × Crowded mode before c
WrongRecord mode m before r cause.PayerOwes = (c : Core) × Has r c × Owing mode (come before) c
WrongRecord mode m before r cause.Deposit = (c : Core) × Has r c × Unsettled (come before) c
WrongRecord mode m before r cause.Counts = (c : Core) × Has r c × Miscounted (come before) c
WrongRecord mode m before r cause.TooMany = ⊥
WrongRecord mode m before r cause.Unfinished = ⊥
-- 13: a rider is not well formed
WrongRecord mode m before r cause.RiderIllFormed = (x : Rides m r) × (m.formed x.code r ≡ false)
-- 14: a rider's level is not that of its place
WrongRecord mode m before r cause.RiderLevel = (x : Rides m r) × (and_then (last_kind before) level_after ≢ Some x.level)

-- this is wrong with what stands behind these records, or with the end of the file, where nothing does
abbrev pub Wrong : Mode → Meaning → List (List ℕ) → Option Slot → Cause → Type 0
-- 12: it ends before its end record
Wrong mode m before None c = (c ≡ cause.Unfinished) × (last_kind before ≢ Some kind.End)
-- 1: bytes are left that are no whole record; 11: something is left behind 50,000 records
Wrong mode m before (Some broken) c = (c ≡ cause.Broken) ⊎ ((c ≡ cause.TooMany) × (50000 ≤ length before))
Wrong mode m before (Some (whole r)) c = ((c ≡ cause.TooMany) × (50000 ≤ length before)) ⊎ WrongRecord mode m before r c

-- the order in which things are looked for: 11, 1, 2, 3, then 14 and 13 of a rider and 4 to 10 of a core record
abbrev pub rank : Cause → ℕ
rank cause.TooMany = 0
rank cause.Broken = 1
rank (cause.Unreadable Code) = 2
rank cause.Order = 3
rank cause.RiderLevel = 4
rank cause.RiderIllFormed = 5
rank (cause.Unreadable (Layout f)) = 6
rank cause.UnlikeItem = 7
rank cause.Information = 8
rank cause.NoPlace = 9
rank cause.PayerOwes = 10
rank cause.Deposit = 11
rank cause.Counts = 12
rank cause.Unfinished = 13

-- the slot behind so many records, if there is one; none stands behind bytes that are no whole record
abbrev pub slot_at : ℕ → List Slot → Option Slot
slot_at n [] = None
slot_at zero (x ∷ xs) = Some x
slot_at (suc n) (whole r ∷ xs) = slot_at n xs
slot_at (suc n) (broken ∷ xs) = None

-- of a file cut into these slots, this is wrong behind the first k records, so at record k + 1
abbrev pub WrongAt : Mode → Meaning → List Slot → ℕ → Cause → Type 0
WrongAt mode m ss k c = Wrong mode m (take k (front ss)) (slot_at k ss) c

-- and it is the first thing that is: nothing is wrong at an earlier record, and at this one nothing that is looked for earlier
pub record FirstWrong (mode : Mode) (m : Meaning) (ss : List Slot) (k : ℕ) (c : Cause) : Type 0 where
  pub wrong : WrongAt mode m ss k c
  pub none_before : (j : ℕ) (d : Cause) → j < k → WrongAt mode m ss j d → ⊥
  pub none_earlier : (d : Cause) → rank d < rank c → WrongAt mode m ss k d → ⊥
