-- An entry's records one by one: their rows, their copies, and the first rider that is wrong.
use Rattle.std.proofs.Common.{◌≡◌, ℕ, ◌+◌, ◌≤◌, List, [], ◌∷◌, ◌++◌, length, Some, None, Option, sym, refl, ap, ◌∙◌, append_assoc, add-one, arith}
use Rattle.record.specs.declared.rows.Row.{Row}
use Rattle.record.specs.declared.editions.Level.{Level}
use Rattle.record.specs.declared.classes.Class.{Class}
use Rattle.record.specs.Classes.{class_of}
use Rattle.record.specs.Editions.{Meaning}
use Rattle.manual.specs.declared.faults.Cause.{Cause}
use Rattle.report.specs.Rows.{row_in, row_then, rows_from}
use Rattle.report.specs.Faults.{fault_or, fault_from}
use Rattle.report.specs.Copies.{record_then, plain_records, crlf_lines, copied}
use Rattle.record.specs.declared.classes.Sort.{Sort}
use Rattle.record.specs.Sorts.{sort_of, sort_at}
use Rattle.report.specs.Sorts.{plain_of, cause_in, level_behind, adds}
use Rattle.report.proofs.Sorting.{adds_sorted, adds_one}
use Rattle.showing.specs.Showing.{line_of}

pub then_is : (o : Option Row) (rest : List Row) → row_then o rest ≡ row_then o [] ++ rest
then_is None rest = refl
then_is (Some r) rest = refl

-- the rows from a record on: its own, if it has one, before those of the others
pub rows_step : (m : Meaning) (n : ℕ) (left later : List (List ℕ)) (r item : List ℕ) (class : Class) (o : Option Row) → left ≡ r ∷ later → item ≡ r → class ≡ class_of m item → o ≡ row_in n class
    → rows_from m n left ≡ row_then o [] ++ rows_from m (n + 1) later
rows_step m n left later r item class o next is of row =
    ap (rows_from m n) next
    ∙ sym (λ i. row_then (row_in n (class_of m (is i))) (rows_from m (add-one n i) later))
    ∙ ap (λ x. row_then x (rows_from m (n + 1) later)) (ap (row_in n) (sym of) ∙ sym row)
    ∙ then_is o (rows_from m (n + 1) later)

line_first : (o : Option (List ℕ)) (ps : List (List ℕ)) → crlf_lines (record_then o ps) ≡ line_of o ++ crlf_lines ps
line_first None ps = refl
line_first (Some r) ps = sym (append_assoc r (13 ∷ 10 ∷ []) (crlf_lines ps))

-- the copy from a record on: its own line, if it has one, before those of the others
pub copy_step : (m : Meaning) (left later : List (List ℕ)) (r item : List ℕ) (sort : Sort) (o : Option (List ℕ)) → left ≡ r ∷ later → item ≡ r → sort ≡ sort_at m item → o ≡ plain_of sort item
    → copied m left ≡ line_of o ++ copied m later
copy_step m left later r item sort o next is of line =
    ap (copied m) next
    ∙ sym (λ i. crlf_lines (record_then (plain_of (sort_at m (is i)) (is i)) (plain_records m later)))
    ∙ ap (λ x. crlf_lines (record_then x (plain_records m later))) (ap (λ l. plain_of l item) (sym of) ∙ sym line)
    ∙ line_first o (plain_records m later)

pub fault_step : (m : Meaning) (o : Option Level) (n : ℕ) (left later : List (List ℕ)) (r item : List ℕ) (sort : Sort) (q : Option Cause) → left ≡ r ∷ later → item ≡ r → sort ≡ sort_at m item → q ≡ cause_in o sort
    → fault_from m o n left ≡ fault_or n q (fault_from m (level_behind o sort) (n + 1) later)
fault_step m o n left later r item sort q next is of cause =
    ap (fault_from m o n) next
    ∙ sym (λ i. fault_or n (cause_in o (sort_at m (is i))) (fault_from m (level_behind o (sort_at m (is i))) (add-one n i) later))
    ∙ sym (λ i. fault_or n (cause_in o (of i)) (fault_from m (level_behind o (of i)) (n + 1) later))
    ∙ ap (λ x. fault_or n x (fault_from m (level_behind o sort) (n + 1) later)) (sym cause)

-- counting: what is counted, and what is left, are no more than the records
pub counted : (m : Meaning) (left later : List (List ℕ)) (r item : List ℕ) (sort : Sort) → left ≡ r ∷ later → item ≡ r → sort ≡ sort_at m item
    → (count all many k : ℕ) → count + length (plain_records m left) ≡ all → count + length left ≤ many → k ≡ adds sort
    → (count + k + length (plain_records m later) ≡ all) × (count + k + length later ≤ many)
counted m left later r item sort next is of count all many k sum few one =
    let here = class_of m item in
    let adds-is : adds sort ≡ adds (sort_of here) = ap adds of in
    let step : length (plain_records m left) ≡ adds (sort_of here) + length (plain_records m later) =
    ap (λ l. length (plain_records m l)) next ∙ sym (ap (λ x. length (record_then (plain_of (sort_at m x) x) (plain_records m later))) is) ∙ adds_sorted here item (plain_records m later) in (
      omega (arith, sum, one, adds-is, step),
      omega (arith, few, one, adds-is, adds_one here, ap length next),
    )

-- a cause that is none, as the code tells it
pub no-cause : (o : Option Cause) → ((x : Cause) → o ≡ Some x → ⊥) → o ≡ None
no-cause None h = refl
no-cause (Some x) h = absurd (h x refl)
