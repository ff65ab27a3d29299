-- What checking has to do with the manual: which files it accepts, how many readings they have, which refusal the others get, and when
-- the payer table is too short.
use Rattle.std.specs.Prelude.{◌≡◌, ℕ, suc, ◌<◌, ◌≤◌, List, [], map, take, Ok, Err, Result, ◌≢◌, nat_eq}
use Rattle.std.specs.List.{AllByRecursion}
use Rattle.record.specs.declared.fields.End.{End}
use Rattle.record.specs.Editions.{Meaning}
use Rattle.sums.specs.Laws.{Exactly, distinct}
use Rattle.manual.specs.declared.faults.Cause.{Cause}
use Rattle.manual.specs.declared.faults.Cause.TheVariants as cause
use Rattle.manual.specs.declared.faults.FileFault.{FileFault}
use Rattle.manual.specs.Slots.{front, slots}
use Rattle.manual.specs.Payers.{payers_from}
use Rattle.manual.specs.Judging.{at_record}
use Rattle.manual.specs.Laws.{judging}
use Rattle.manual.specs.Wrong.{WrongAt, FirstWrong}
use Rattle.manual.specs.Manual.{Item, Section, Reading, Follows}

-- a payer table of so many rows has one for each distinct payer number of a section
abbrev pub Roomy : ℕ → Section → Type 0
Roomy rows s = distinct nat_eq (map (λ (i : Item). i.transfer.fields.payer) s.items) ≤ rows

-- how many distinct payers the section has that is open behind the first n records
abbrev pub open_payers : ℕ → List ℕ → ℕ
open_payers n bytes = distinct nat_eq (payers_from [] (take n (front (slots bytes))))

-- record n is the one at which the payer table is too short
pub record TooShort (rows : ℕ) (m : Meaning) (bytes : List ℕ) (n : ℕ) : Type 0 where
  -- the table has fewer rows than the section up to that record has distinct payers
  pub fewer : rows < open_payers n bytes
  -- and had enough before
  pub enough : (k : ℕ) → k < n → open_payers k bytes ≤ rows
  -- nothing else is wrong up to there
  pub nothing_else : (k : ℕ) (c : Cause) → k < n → WrongAt (judging rows) m (slots bytes) k c → c ≡ cause.NoPlace

-- an answer to bytes, under an edition and with a payer table of so many rows, is what the manual says
pub record Right (rows : ℕ) (m : Meaning) (bytes : List ℕ) (answer : Result End FileFault) : Type 0 where
  -- what is accepted has a reading that follows, for which the table has rows enough, and the counts are that reading's
  pub accepted : (e : End) → answer ≡ Ok e → (r : Reading) × Follows m bytes r × AllByRecursion (Roomy rows) r.tree.sections × (e ≡ r.tree.end.fields)
  -- where a reading follows and the table has rows enough for it, the file is accepted with the reading's counts
  pub accepts : (r : Reading) → Follows m bytes r → AllByRecursion (Roomy rows) r.tree.sections → answer ≡ Ok r.tree.end.fields
  -- two readings that follow are equal
  pub one_reading : (r q : Reading) → Follows m bytes r → Follows m bytes q → r ≡ q
  -- 7 comes exactly at the record where the table is too short
  pub seven : (n : ℕ) → Exactly (answer ≡ at_record n cause.NoPlace) (TooShort rows m bytes n)
  -- a file that is refused follows no reading, unless by 7
  pub refused : (f : FileFault) → answer ≡ Err f → (f.cause ≢ cause.NoPlace) → (r : Reading) → Follows m bytes r → ⊥
  -- a refusal names the first record at which something is wrong, and the first thing that is
  pub refused_first : (k : ℕ) (c : Cause) → Exactly (answer ≡ at_record (suc k) c) (FirstWrong (judging rows) m (slots bytes) k c)
  -- and a file is accepted exactly where nothing is wrong
  pub nothing_wrong : Exactly ((e : End) × (answer ≡ Ok e)) ((k : ℕ) (c : Cause) → WrongAt (judging rows) m (slots bytes) k c → ⊥)
