-- Two depositors: each brings a file whose deposit has an öre less than its payment, and then the same file with the right deposit; the
-- second has a record 77, an unknown code, in each.
use Rattle.std.specs.Prelude.{◌≡◌, ℕ, Bool, List, [], ◌∷◌, ◌++◌, map, Ok, Err}
use Rattle.record.specs.declared.rows.Row.{Row as Shown}
use Rattle.record.specs.Editions.{bare, house}
use Rattle.manual.specs.declared.faults.Cause.TheVariants as cause
use Rattle.filing.specs.declared.faults.VolumeFault.TheVariants.{File, RowsShort, BalanceShort}
use Rattle.filing.specs.declared.standing.Standing.TheVariants.{Open, Closed}
use Rattle.volume.specs.Examples.{file_of, lines_with, lines_with_77, short_deposit, right_deposit}
use Rattle.report.specs.Rows.{rows_of}
use Rattle.law.specs.Archive.{empty, Call, taking_in, closing, opening_again, showing, balancing, Answer, taken_in, closed, opened, rows, sums, answers, AllAllowed}
use Rattle.report.specs.Listing.{records_in}
use Rattle.twins.specs.Twins.{spare_in, FollowIn}
use Rattle.twins.specs.Agreeing.{fault_at}
use Rattle.law.specs.TwoRuns.{editions, SameCalls}

abbrev pub short : List ℕ
short = file_of (lines_with short_deposit)

abbrev pub short_77 : List ℕ
short_77 = file_of (lines_with_77 short_deposit)

abbrev pub right : List ℕ
right = file_of (lines_with right_deposit)

abbrev pub right_77 : List ℕ
right_77 = file_of (lines_with_77 right_deposit)

abbrev pub calls : List ℕ → List ℕ → List Call
calls x y = taking_in x bare 1 ∷ taking_in y house 1 ∷ showing 1 house [] ∷ balancing [] ∷ closing ∷ opening_again ∷ []

abbrev pub first : List Call
first = calls short right

abbrev pub second : List Call
second = calls short_77 right_77

-- the answers, where the refusal names this record
abbrev pub answered : ℕ → List Answer
answered n =
    taken_in (Err (File (fault_at n cause.Deposit))) ∷ taken_in (Ok 1) ∷ rows (Err (RowsShort 5)) [] ∷ sums (Err BalanceShort) [] ∷ closed
    ∷ opened (Ok (record { entries = 1; standing = Closed })) ∷ []

-- the codes that no edition in either list knows
abbrev pub spare : ℕ → Bool
spare = spare_in (editions first ++ editions second)

pub record TwinExample : Type 0 where
  -- the calls are allowed, and the same but for twin files, and no answer is 11 or 22
  pub allowed : AllAllowed Open first
  pub same : SameCalls spare 7 first 8 second
  -- 9 comes at record 4 for the one, and at record 5 for the other
  pub one : answers (empty 7) first ≡ answered 4
  pub other : answers (empty 8) second ≡ answered 5
  pub follows : FollowIn spare short short_77 4 5
  pub alone : (n : ℕ) → FollowIn spare short short_77 4 n → n ≡ 5
  -- the rows have these numbers
  pub numbers : map (λ (r : Shown). r.number) (rows_of house (records_in right)) ≡ 1 ∷ 2 ∷ 3 ∷ 4 ∷ 5 ∷ []
  pub numbers_77 : map (λ (r : Shown). r.number) (rows_of house (records_in right_77)) ≡ 1 ∷ 2 ∷ 3 ∷ 5 ∷ 6 ∷ []
