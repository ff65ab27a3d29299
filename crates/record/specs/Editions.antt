-- Editions: which kinds of record are known beyond the core. A record of a known code is called a rider.
use Rattle.std.specs.Prelude.{◌≡◌, ℕ, Bool, true, false, ◌&&◌, List, [], ◌∷◌, length, is_some, Some, None, Option, ◌==◌, refl}
use Rattle.std.specs.Option.{option_map}
use Rattle.std.specs.List.{between, find}
use Rattle.field.specs.Bytes.{is_digit, is_text, every}
use Rattle.field.specs.Dates.{date_of}
use Rattle.record.specs.declared.kinds.Kind.{Kind}
use Rattle.record.specs.declared.kinds.Kind.TheVariants.{Start, Opening, Deposit, Payment, Deduction, ExtraReference, NegativeReference, Information, Name, AddressOne, AddressTwo, CompanyNumber, End}
use Rattle.record.specs.declared.editions.Level.{Level}
use Rattle.record.specs.declared.editions.Level.TheVariants.{File, Item}
use Rattle.record.specs.declared.editions.Form.{Form}
use Rattle.record.specs.declared.editions.Form.TheVariants.{Dated, Numbered}
use Rattle.record.specs.declared.editions.HouseKind.{HouseKind}
use Rattle.record.specs.Kinds.{code_of}
use Rattle.record.specs.Codes.{code_in}

-- a code is known where it has a level
abbrev pub known : Option Level → Bool
known None = false
known (Some l) = true

-- what an edition means: the level of each code, none where it is unknown; which records of a known code are well formed; and that
-- it knows no core code
pub record Meaning : Type 0 where
  pub level : ℕ → Option Level
  pub formed : ℕ → List ℕ → Bool
  pub core : (k : Kind) → level (code_of k) ≡ None

-- a whole record is 80 text bytes
abbrev pub Whole : List ℕ → Type 0
Whole line = (length line ≡ 80) × (every is_text line ≡ true)

-- one edition extends another: every code known to the other has the same level, and of the whole records of that code the same are well
-- formed. It is said of each such record; there is one for every code
abbrev pub Extends : Meaning → Meaning → Type 0
Extends more less =
    (c : ℕ) (line : List ℕ) → known (less.level c) ≡ true → Whole line → code_in line ≡ Some c
    → (more.level c ≡ less.level c) × (more.formed c line ≡ less.formed c line)

-- the bare edition knows nothing
abbrev pub bare : Meaning
bare = record { level = λ c. None; formed = λ c line. false; core = λ k. refl }

-- the first kind with this code in a table
abbrev pub sought : List HouseKind → ℕ → Option HouseKind
sought kinds c = find (λ k. k.code == c) kinds

-- the house edition's kinds: 40 at file level, dated; 41 at item level, numbered
abbrev pub house_kinds : List HouseKind
house_kinds = record { code = 40; level = File; form = Dated } ∷ record { code = 41; level = Item; form = Numbered } ∷ []

-- a date in 3-10, or digits in 3-12; the rest is text
abbrev pub formed_by : Form → List ℕ → Bool
formed_by Dated line = is_some (date_of (between 2 10 line)) && every is_text (between 10 80 line)
formed_by Numbered line = every is_digit (between 2 12 line) && every is_text (between 12 80 line)

abbrev pub level_in : Option HouseKind → Option Level
level_in kind = option_map (λ k. k.level) kind

abbrev pub formed_in : Option HouseKind → List ℕ → Bool
formed_in None line = false
formed_in (Some k) line = formed_by k.form line

-- it knows no core code, kind by kind
pub house_core : (k : Kind) → level_in (sought house_kinds (code_of k)) ≡ None
house_core Start = refl
house_core Opening = refl
house_core Deposit = refl
house_core Payment = refl
house_core Deduction = refl
house_core ExtraReference = refl
house_core NegativeReference = refl
house_core Information = refl
house_core Name = refl
house_core AddressOne = refl
house_core AddressTwo = refl
house_core CompanyNumber = refl
house_core End = refl

abbrev pub house : Meaning
house = record { level = λ c. level_in (sought house_kinds c); formed = λ c line. formed_in (sought house_kinds c) line; core = house_core }
