-- Reserve positions: those that a layout does not name. They are not judged and leave no trace in what is read.
use Rattle.std.specs.Prelude.{◌≡◌, ℕ, ◌-◌, ◌<◌, ◌≤◌, true, List, ◌++◌, take, replicate, slice_set}
use Rattle.field.specs.Bytes.{is_text}
use Rattle.record.specs.declared.kinds.Kind.{Kind}
use Rattle.record.specs.declared.kinds.Kind.TheVariants.{Start, Opening, Deposit, Payment, Deduction, ExtraReference, NegativeReference, Information, Name, AddressOne, AddressTwo, CompanyNumber, End}

-- the last position that the kind's layout names; the reserve positions are those after it, to 80
abbrev pub used : Kind → ℕ
used Start = 45
used Opening = 25
used Deposit = 80
used Payment = 70
used Deduction = 71
used ExtraReference = 70
used NegativeReference = 70
used Information = 52
used Name = 72
used AddressOne = 46
used AddressTwo = 74
used CompanyNumber = 14
used End = 34

-- setting reserve positions of a record of this kind to other text bytes, one by one; index i is position i + 1
pub data Refilled (k : Kind) (line : List ℕ) : List ℕ → Type 0 where
  same : Refilled k line line
  refill : (after : List ℕ) (i b : ℕ) → Refilled k line after → used k ≤ i → i < 80 → is_text b ≡ true → Refilled k line (slice_set after i b)

-- the record with every reserve position blank
abbrev pub blanked : Kind → List ℕ → List ℕ
blanked k line = take (used k) line ++ replicate (80 - used k) 32
