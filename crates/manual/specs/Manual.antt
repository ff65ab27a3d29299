-- The manual: how a file reads, and which files are right. Nothing here runs: `ReadAs` and `Follows` at the end have a field for each rule.
use Rattle.std.specs.Prelude.{◌≡◌, ℕ, suc, ◌+◌, ◌<◌, ◌≤◌, Bool, true, false, cond, List, [], ◌∷◌, ◌++◌, map, length, is_some, Some, None, Ok, Option, Result, ◌==◌}
use Rattle.std.specs.List.{between, AllByRecursion}
use Rattle.field.specs.Chains.{then, and_then}
use Rattle.record.specs.declared.kinds.Kind.{Kind}
use Rattle.record.specs.declared.kinds.Kind.TheVariants as kind
use Rattle.record.specs.declared.fields.Start.{Start}
use Rattle.record.specs.declared.fields.Opening.{Opening}
use Rattle.record.specs.declared.fields.Transfer.{Transfer}
use Rattle.record.specs.declared.fields.Deposit.{Deposit}
use Rattle.record.specs.declared.fields.End.{End}
use Rattle.record.specs.declared.fields.Core.{Core}
use Rattle.record.specs.declared.fields.Core.TheVariants as core
use Rattle.record.specs.declared.fields.Field.{Field}
use Rattle.record.specs.declared.lines.LineEnd.{LineEnd}
use Rattle.record.specs.declared.lines.LineEnd.TheVariants.{Lf, CrLf}
use Rattle.record.specs.declared.editions.Level.{Level}
use Rattle.record.specs.declared.editions.Level.TheVariants as level
use Rattle.record.specs.Editions.{Meaning, Whole}
use Rattle.record.specs.Layouts.{read_core}
use Rattle.record.specs.Reserve.{used}
use Rattle.record.specs.Codes.{code_in}
use Rattle.record.specs.Laws.{kind_at}

-- LINES. A file is a run of whole records, each 80 text bytes and a line end.

-- a whole record with its line end
pub record Line : Type 0 where
  pub bytes : List ℕ
  pub ending : LineEnd
  pub is_whole : Whole bytes

-- the bytes of a line end: LF, or CR LF
abbrev pub end_bytes : LineEnd → List ℕ
end_bytes Lf = 10 ∷ []
end_bytes CrLf = 13 ∷ 10 ∷ []

-- lines one after another, and then other bytes
abbrev pub laid : List Line → List ℕ → List ℕ
laid [] rest = rest
laid (l ∷ ls) rest = l.bytes ++ (end_bytes l.ending ++ laid ls rest)

-- the records of the lines, without their line ends
abbrev pub records : List Line → List (List ℕ)
records ls = map (λ (l : Line). l.bytes) ls

-- THE READING of a file: a tree of its core records, and its riders. It has no record numbers, no reserve positions and no unknown records.

-- a record in the tree: its fields, and the positions that its layout names behind the code, as they stand in the file
pub record Read (A : Type 0) : Type 0 where
  pub fields : A
  pub text : List ℕ

-- an extra reference, whose amount is added (22) or taken away (23)
pub record Extra : Type 0 where
  pub added : Bool
  pub transfer : Read Transfer

-- an item: a payment (20) or a deduction (21), extra references, information, name, both addresses or neither, company number
pub record Item : Type 0 where
  pub payment : Bool
  pub transfer : Read Transfer
  pub extras : List Extra
  pub information : List (List ℕ)
  pub name : Option (List ℕ)
  pub addresses : Option (List ℕ × List ℕ)
  pub company : Option (Read ℕ)

-- a section: an opening record with payee and currency, items, a deposit
pub record Section : Type 0 where
  pub opening : Read Opening
  pub items : List Item
  pub deposit : Read Deposit

-- the core records of a file: a start record, sections, an end record
pub record Tree : Type 0 where
  pub start : Read Start
  pub sections : List Section
  pub end : Read End

-- a rider in its place: how many leaves of the tree stand before it, and its bytes as they stand
pub record RiderAt : Type 0 where
  pub behind : ℕ
  pub bytes : List ℕ

-- a file: its tree, and its riders in order
pub record Reading : Type 0 where
  pub tree : Tree
  pub riders : List RiderAt

-- THE LEAVES of the tree: the core records in their order, each part before what follows it.

abbrev pub leaf : Core → List ℕ → Read Core
leaf c text = record { fields = c; text = text }

abbrev pub extra_leaf : Extra → Read Core
extra_leaf x = leaf (cond x.added (core.ExtraReference x.transfer.fields) (core.NegativeReference x.transfer.fields)) x.transfer.text

abbrev pub name_then : Option (List ℕ) → List (Read Core) → List (Read Core)
name_then None rest = rest
name_then (Some text) rest = leaf core.Name text ∷ rest

abbrev pub addresses_then : Option (List ℕ × List ℕ) → List (Read Core) → List (Read Core)
addresses_then None rest = rest
addresses_then (Some both) rest = leaf core.AddressOne both.0 ∷ leaf core.AddressTwo both.1 ∷ rest

abbrev pub company_then : Option (Read ℕ) → List (Read Core) → List (Read Core)
company_then None rest = rest
company_then (Some n) rest = leaf (core.CompanyNumber n.fields) n.text ∷ rest

abbrev pub item_leaf : Item → Read Core
item_leaf i = leaf (cond i.payment (core.Payment i.transfer.fields) (core.Deduction i.transfer.fields)) i.transfer.text

abbrev pub items_then : List Item → List (Read Core) → List (Read Core)
items_then [] rest = rest
items_then (i ∷ is) rest =
    item_leaf i ∷ (map extra_leaf i.extras ++ (map (leaf core.Information) i.information
    ++ name_then i.name (addresses_then i.addresses (company_then i.company (items_then is rest)))))

abbrev pub sections_then : List Section → List (Read Core) → List (Read Core)
sections_then [] rest = rest
sections_then (s ∷ ss) rest =
    leaf (core.Opening s.opening.fields) s.opening.text
    ∷ items_then s.items (leaf (core.Deposit s.deposit.fields) s.deposit.text ∷ sections_then ss rest)

abbrev pub leaves : Tree → List (Read Core)
leaves r = leaf (core.Start r.start.fields) r.start.text ∷ sections_then r.sections (leaf (core.End r.end.fields) r.end.text ∷ [])

-- SUMS over the items of a section, and over the sections of a file.

-- what all elements come to
abbrev pub total : {A : Type 0} → (A → ℕ) → List A → ℕ
total f [] = 0
total f (x ∷ xs) = f x + total f xs

-- one for a payment, and one for a deduction
abbrev pub one_payment : Item → ℕ
one_payment i = cond i.payment 1 0

abbrev pub one_deduction : Item → ℕ
one_deduction i = cond i.payment 0 1

-- what an item pays, and what it deducts
abbrev pub paid : Item → ℕ
paid i = cond i.payment i.transfer.fields.amount 0

abbrev pub deducted : Item → ℕ
deducted i = cond i.payment 0 i.transfer.fields.amount

-- the same, where it is of this payer; zero, no number, counts as one payer
abbrev pub paid_by : ℕ → Item → ℕ
paid_by p i = cond (i.transfer.fields.payer == p) (paid i) 0

abbrev pub deducted_by : ℕ → Item → ℕ
deducted_by p i = cond (i.transfer.fields.payer == p) (deducted i) 0

-- THE RULES of items and sections.

pub record Agrees (i : Item) (x : Extra) : Type 0 where
  -- an extra reference has the payer of its item
  pub payer : x.transfer.fields.payer ≡ i.transfer.fields.payer
  -- and its serial
  pub serial : x.transfer.fields.serial ≡ i.transfer.fields.serial

pub record ItemStands (i : Item) : Type 0 where
  -- every extra reference agrees with its item
  pub agreeing : AllByRecursion (Agrees i) i.extras
  -- at most 99 information records
  pub at_most_99 : length i.information ≤ 99

-- the rules of a section but for the one on payers
pub record SectionAdds (s : Section) : Type 0 where
  -- each item is right
  pub each_item : AllByRecursion ItemStands s.items
  -- at least one of them is a payment
  pub some_payment : 0 < total one_payment s.items
  -- the deposit has the currency of the opening record
  pub same_currency : s.deposit.fields.currency ≡ s.opening.fields.currency
  -- the number of payment and deduction records
  pub count : s.deposit.fields.count ≡ length s.items
  -- and payments less deductions: its sum and the deductions make up the payments
  pub sum : s.deposit.fields.sum + total deducted s.items ≡ total paid s.items

-- all the rules of a section
pub record SectionStands (s : Section) : Type 0 where
  -- those of `SectionAdds`
  pub adds : SectionAdds s
  -- and every payer number has payments of at least its deductions
  pub none_owes : (p : ℕ) → total (deducted_by p) s.items ≤ total (paid_by p) s.items

pub record CountsStand (ss : List Section) (e : End) : Type 0 where
  -- the end record counts the file's payments
  pub payments : e.payments ≡ total (λ (s : Section). total one_payment s.items) ss
  -- its deductions
  pub deductions : e.deductions ≡ total (λ (s : Section). total one_deduction s.items) ss
  -- its extra references, 22 and 23 together
  pub extras : e.extras ≡ total (λ (s : Section). total (λ (i : Item). length i.extras) s.items) ss
  -- and its deposits
  pub deposits : e.deposits ≡ length ss

-- CORE RECORDS AND RIDERS among the records of a file.

-- a core record read by its kind's layout, or the first field that breaks it
abbrev pub read_by : Kind → List ℕ → Result (Read Core) Field
read_by k r = then (read_core k (between 2 (length r) r)) (λ c. Ok (leaf c (between 2 (used k) r)))

-- a record in front of the core records behind it; others are left out
abbrev pub core_then : Option Kind → List ℕ → List (Result (Read Core) Field) → List (Result (Read Core) Field)
core_then None r rest = rest
core_then (Some k) r rest = read_by k r ∷ rest

-- the core records in order, each read by its layout
abbrev pub cores : List (List ℕ) → List (Result (Read Core) Field)
cores [] = []
cores (r ∷ rs) = core_then (kind_at r) r (cores rs)

-- the kind of the first record, if it is a core record
abbrev pub first_kind : List (List ℕ) → Option Kind
first_kind [] = None
first_kind (r ∷ rs) = kind_at r

-- the last of two, if there is one
abbrev pub last_of : Option Kind → Option Kind → Option Kind
last_of before None = before
last_of before (Some k) = Some k

-- the kind of the last core record
abbrev pub last_kind : List (List ℕ) → Option Kind
last_kind [] = None
last_kind (r ∷ rs) = last_of (kind_at r) (last_kind rs)

-- the level of a place follows from the last core record: file behind start or deposit, section behind opening, item in an item, none behind the end
abbrev pub level_after : Kind → Option Level
level_after kind.Start = Some level.File
level_after kind.Opening = Some level.Section
level_after kind.Deposit = Some level.File
level_after kind.Payment = Some level.Item
level_after kind.Deduction = Some level.Item
level_after kind.ExtraReference = Some level.Item
level_after kind.NegativeReference = Some level.Item
level_after kind.Information = Some level.Item
level_after kind.Name = Some level.Item
level_after kind.AddressOne = Some level.Item
level_after kind.AddressTwo = Some level.Item
level_after kind.CompanyNumber = Some level.Item
level_after kind.End = None

-- whether a record is a rider: its code is known to the edition
abbrev pub is_rider : Meaning → List ℕ → Bool
is_rider m r = is_some (and_then (code_in r) m.level)

-- a record in front of the riders behind it, if it is a rider; n core records stand before it
abbrev pub rider_then : Bool → ℕ → List ℕ → List RiderAt → List RiderAt
rider_then true n r rest = record { behind = n; bytes = r } ∷ rest
rider_then false n r rest = rest

-- so many core records, and one more if this record is one
abbrev pub with_core : Option Kind → ℕ → ℕ
with_core None n = n
with_core (Some k) n = suc n

-- the riders in order, each with its bytes and with how many core records stand before it; n of these stand before the first record
abbrev pub riders_from : Meaning → ℕ → List (List ℕ) → List RiderAt
riders_from m n [] = []
riders_from m n (r ∷ rs) = rider_then (is_rider m r) n r (riders_from m (with_core (kind_at r) n) rs)

-- the riders among the records of a file
abbrev pub riders_of : Meaning → List (List ℕ) → List RiderAt
riders_of m rs = riders_from m 0 rs

-- a record of a code that the edition knows, with this level, behind these records
pub record RiderStands (m : Meaning) (c : ℕ) (l : Level) (before : List (List ℕ)) (r : List ℕ) : Type 0 where
  -- it stands where its level says
  pub level : and_then (last_kind before) level_after ≡ Some l
  -- and is well formed
  pub formed : m.formed c r ≡ true

-- THE RECORDS: they have this tree under an edition with this meaning, where each section keeps these rules.
pub record ReadAs (rules : Section → Type 0) (m : Meaning) (rs : List (List ℕ)) (t : Tree) : Type 0 where
  -- at most 50,000
  pub few : length rs ≤ 50000
  -- every code is two digits
  pub coded : AllByRecursion (λ x. is_some (code_in x) ≡ true) rs
  -- the first record is the start
  pub starts : first_kind rs ≡ Some kind.Start
  -- the core records in order, read by their layouts, are the leaves of the tree in order
  pub read : cores rs ≡ map Ok (leaves t)
  -- at least one section
  pub some_section : 0 < length t.sections
  -- each section is right
  pub each_section : AllByRecursion rules t.sections
  -- the end record has the file's counts
  pub counted : CountsStand t.sections t.end.fields
  -- each rider stands where its level says and is well formed, none behind the end; unknown records may stand anywhere
  pub riders : (before behind : List (List ℕ)) (x : List ℕ) (c : ℕ) (l : Level) → rs ≡ before ++ x ∷ behind
      → code_in x ≡ Some c → m.level c ≡ Some l → RiderStands m c l before x

-- THE MANUAL: these bytes have this reading under an edition with this meaning.
pub record Follows (m : Meaning) (bytes : List ℕ) (r : Reading) : Type 0 where
  pub lines : List Line
  -- the bytes are lines of whole records
  pub whole : bytes ≡ laid lines []
  -- which have its tree, by all the rules
  pub reads : ReadAs SectionStands m (records lines) r.tree
  -- and its riders
  pub ridden : riders_of m (records lines) ≡ r.riders
