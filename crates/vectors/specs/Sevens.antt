-- An edition that knows one code that neither bare nor house knows.
use Rattle.std.specs.Prelude.{◌≡◌, ℕ, true, cond, Some, None, Option, ◌==◌, refl}
use Rattle.record.specs.Kinds.{code_of}
use Rattle.record.specs.declared.kinds.Kind.{Kind}
use Rattle.record.specs.declared.kinds.Kind.TheVariants.{Start, Opening, Deposit, Payment, Deduction, ExtraReference, NegativeReference, Information, Name, AddressOne, AddressTwo, CompanyNumber, End}
use Rattle.record.specs.declared.editions.Level.{Level}
use Rattle.record.specs.declared.editions.Level.TheVariants.{File}
use Rattle.record.specs.Editions.{Meaning}

abbrev pub level_of : ℕ → Option Level
level_of c = cond (c == 77) (Some File) None

-- it knows no core code, kind by kind
pub sevens_core : (k : Kind) → level_of (code_of k) ≡ None
sevens_core Start = refl
sevens_core Opening = refl
sevens_core Deposit = refl
sevens_core Payment = refl
sevens_core Deduction = refl
sevens_core ExtraReference = refl
sevens_core NegativeReference = refl
sevens_core Information = refl
sevens_core Name = refl
sevens_core AddressOne = refl
sevens_core AddressTwo = refl
sevens_core CompanyNumber = refl
sevens_core End = refl

-- 77 at file level, each well formed
abbrev pub sevens : Meaning
sevens = record { level = level_of; formed = λ c line. true; core = sevens_core }
