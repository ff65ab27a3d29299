-- The reasons of refusals: their numbers and their words.
use Rattle.std.specs.Prelude.{◌≡◌, ℕ, cond, List, codes, Option, None, Some, Ok, Err, Result, ◌==◌, ◌↔◌}
use Rattle.refusal.specs.declared.Reason.{Reason}
use Rattle.refusal.specs.declared.Reason.TheVariants.{BrokenRecord, BadCode, OutOfOrder, BadField, UnlikeItem, TooMuchInformation, NoPlaceForPayer, PayerOwes, DepositDisagrees, CountsDisagree, TooManyRecords, Unfinished, RiderIllFormed, RiderAtWrongLevel, ShelfFull, NoShelfRecord, MarkedTest, SameTimeStamp, NoRoom, NoEntry, RowTableShort, BalanceTableShort, CopyBufferShort, NoTrailer, EntryUnreadable, TrailerDisagrees}
use Rattle.refusal.specs.declared.NoSuchRefusal.{NoSuchRefusal}

-- the number of a reason
abbrev pub number_of : Reason → ℕ
number_of BrokenRecord = 1
number_of BadCode = 2
number_of OutOfOrder = 3
number_of BadField = 4
number_of UnlikeItem = 5
number_of TooMuchInformation = 6
number_of NoPlaceForPayer = 7
number_of PayerOwes = 8
number_of DepositDisagrees = 9
number_of CountsDisagree = 10
number_of TooManyRecords = 11
number_of Unfinished = 12
number_of RiderIllFormed = 13
number_of RiderAtWrongLevel = 14
number_of ShelfFull = 15
number_of NoShelfRecord = 16
number_of MarkedTest = 20
number_of SameTimeStamp = 21
number_of NoRoom = 22
number_of NoEntry = 24
number_of RowTableShort = 25
number_of BalanceTableShort = 26
number_of CopyBufferShort = 27
number_of NoTrailer = 30
number_of EntryUnreadable = 31
number_of TrailerDisagrees = 32

-- the words in which a reason is told
abbrev pub words_of : Reason → List ℕ
words_of BrokenRecord = codes "no whole record"
words_of BadCode = codes "code not two digits"
words_of OutOfOrder = codes "core record out of order, or first not start"
words_of BadField = codes "field breaks its layout"
words_of UnlikeItem = codes "extra reference unlike its item"
words_of TooMuchInformation = codes "100th information record"
words_of NoPlaceForPayer = codes "no place for a new payer"
words_of PayerOwes = codes "a payer's deductions too high"
words_of DepositDisagrees = codes "deposit disagrees"
words_of CountsDisagree = codes "end counts disagree"
words_of TooManyRecords = codes "record 50,001"
words_of Unfinished = codes "file ends before its end record"
words_of RiderIllFormed = codes "rider ill-formed"
words_of RiderAtWrongLevel = codes "rider at a wrong level"
words_of ShelfFull = codes "adding to a full shelf"
words_of NoShelfRecord = codes "no such shelf record"
words_of MarkedTest = codes "marked T"
words_of SameTimeStamp = codes "time stamp already there"
words_of NoRoom = codes "no room on the shelf"
words_of NoEntry = codes "no such entry or record"
words_of RowTableShort = codes "row table short"
words_of BalanceTableShort = codes "balance table short"
words_of CopyBufferShort = codes "copy buffer short"
words_of NoTrailer = codes "no right trailer where one is due"
words_of EntryUnreadable = codes "entry can't be read"
words_of TrailerDisagrees = codes "trailer disagrees with entry"

-- the reason that has a number
abbrev pub reason_of : ℕ → Option Reason
reason_of n =
    cond (n == 1) (Some BrokenRecord)
    (cond (n == 2) (Some BadCode)
    (cond (n == 3) (Some OutOfOrder)
    (cond (n == 4) (Some BadField)
    (cond (n == 5) (Some UnlikeItem)
    (cond (n == 6) (Some TooMuchInformation)
    (cond (n == 7) (Some NoPlaceForPayer)
    (cond (n == 8) (Some PayerOwes)
    (cond (n == 9) (Some DepositDisagrees)
    (cond (n == 10) (Some CountsDisagree)
    (cond (n == 11) (Some TooManyRecords)
    (cond (n == 12) (Some Unfinished)
    (cond (n == 13) (Some RiderIllFormed)
    (cond (n == 14) (Some RiderAtWrongLevel)
    (cond (n == 15) (Some ShelfFull)
    (cond (n == 16) (Some NoShelfRecord)
    (cond (n == 20) (Some MarkedTest)
    (cond (n == 21) (Some SameTimeStamp)
    (cond (n == 22) (Some NoRoom)
    (cond (n == 24) (Some NoEntry)
    (cond (n == 25) (Some RowTableShort)
    (cond (n == 26) (Some BalanceTableShort)
    (cond (n == 27) (Some CopyBufferShort)
    (cond (n == 30) (Some NoTrailer)
    (cond (n == 31) (Some EntryUnreadable)
    (cond (n == 32) (Some TrailerDisagrees)
    None)))))))))))))))))))))))))

-- the answer to a number: the reason that has it, or that none has
abbrev pub named : ℕ → Option Reason → Result Reason NoSuchRefusal
named n None = Err (record { 0 = n })
named n (Some r) = Ok r

-- An answer is the reason that has the number, and so exactly that whose number it is.
abbrev pub Names : ℕ → Result Reason NoSuchRefusal → Type 0
Names n answer = (answer ≡ named n (reason_of n)) × ((r : Reason) → (answer ≡ Ok r) ↔ (number_of r ≡ n))
