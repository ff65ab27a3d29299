-- The thirteen kinds of core record and their codes.
use Rattle.std.specs.Prelude.{◌≡◌, ℕ, cond, Some, None, Option, Result, MatchResult, ◌==◌}
use Rattle.record.specs.declared.kinds.Kind.{Kind}
use Rattle.record.specs.declared.kinds.NotCore.{NotCore}
use Rattle.record.specs.declared.kinds.Kind.TheVariants.{Start, Opening, Deposit, Payment, Deduction, ExtraReference, NegativeReference, Information, Name, AddressOne, AddressTwo, CompanyNumber, End}

-- the code of each kind
abbrev pub code_of : Kind → ℕ
code_of Start = 1
code_of Opening = 5
code_of Deposit = 15
code_of Payment = 20
code_of Deduction = 21
code_of ExtraReference = 22
code_of NegativeReference = 23
code_of Information = 25
code_of Name = 26
code_of AddressOne = 27
code_of AddressTwo = 28
code_of CompanyNumber = 29
code_of End = 70

-- the kind with this code, if it is a core code
abbrev pub kind_of : ℕ → Option Kind
kind_of c =
    cond (c == 1) (Some Start)
    (cond (c == 5) (Some Opening)
    (cond (c == 15) (Some Deposit)
    (cond (c == 20) (Some Payment)
    (cond (c == 21) (Some Deduction)
    (cond (c == 22) (Some ExtraReference)
    (cond (c == 23) (Some NegativeReference)
    (cond (c == 25) (Some Information)
    (cond (c == 26) (Some Name)
    (cond (c == 27) (Some AddressOne)
    (cond (c == 28) (Some AddressTwo)
    (cond (c == 29) (Some CompanyNumber)
    (cond (c == 70) (Some End) None))))))))))))

-- the answer is the kind with this code, or that the code is no core code
abbrev pub IsKindOf : ℕ → Result Kind NotCore → Type 0
IsKindOf c r = MatchResult r (λ k. kind_of c ≡ Some k) (λ e. (kind_of c ≡ None) × (e.0 ≡ c))
