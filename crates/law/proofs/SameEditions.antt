-- Editions with the same tables read any file alike.
use Rattle.std.proofs.Common.{◌≡◌, ℕ, zero, suc, ◌-◌, Bool, true, false, cond, leb, List, [], ◌∷◌, length, get_or, take, drop, Some, None, Err, Option, sym, refl, ap, ◌∙◌}
use Rattle.std.specs.List.{AllByRecursion}
use Rattle.field.specs.Chains.{then}
use Rattle.record.specs.declared.editions.Level.{Level}
use Rattle.record.specs.declared.kinds.Kind.{Kind}
use Rattle.record.specs.declared.lines.LineEnd.{LineEnd}
use Rattle.record.specs.Classes.{by_level, outside, class_by, class_in, class_of}
use Rattle.record.specs.Codes.{code_in}
use Rattle.record.specs.Editions.{Meaning, Whole, known}
use Rattle.record.specs.Kinds.{kind_of}
use Rattle.record.specs.Lines.{cut, width}
use Rattle.manual.specs.declared.faults.Cause.TheVariants as cause
use Rattle.manual.specs.declared.faults.FileFault.{FileFault}
use Rattle.manual.specs.Judging.{Mode, State, step, at_record, then_on, begin, judge, check_of}
use Rattle.manual.specs.Slots.{Slot, whole, broken, after_cut, slots_in, slots, front}
use Rattle.manual.proofs.Slotting.{cut_parts}
use Rattle.filing.specs.declared.faults.VolumeFault.{VolumeFault}
use Rattle.filing.specs.declared.faults.VolumeFault.TheVariants.{NoEntry, RowsShort, CopyShort}
use Rattle.filing.specs.Volumes.{Records}
use Rattle.volume.specs.Taking.{numbered_in}
use Rattle.report.specs.Copies.{record_then, plain_records, crlf_lines, copied}
use Rattle.record.specs.Sorts.{sort_of}
use Rattle.report.specs.Sorts.{plain_of}
use Rattle.report.specs.Faults.{fault_or, fault_from, first_fault}
use Rattle.report.specs.Listing.{records_in}
use Rattle.report.specs.Rows.{row_in, row_then, rows_from, rows_of}
use Rattle.report.proofs.Sorting.{cause_of, level_past}
use Rattle.showing.specs.Showing.{unless_rider, fitting, shown, copying}
use Rattle.law.specs.TwoRuns.{SameEdition}

-- WHOLE RECORDS stand in the slots of a file.

abbrev AllWhole : List Slot → Type 0
AllWhole [] = Unit {0}
AllWhole (whole r ∷ ss) = Whole r × AllWhole ss
AllWhole (broken ∷ ss) = AllWhole ss

in_whole : (n : ℕ) (bs : List ℕ) → AllWhole (slots_in n bs)
in_whole zero bs = tt
in_whole (suc n) [] = tt
in_whole (suc n) (b ∷ bs) = by (λ rest. in_whole n rest) (cut (b ∷ bs)) refl
  where
    by : ((rest : List ℕ) → AllWhole (slots_in n rest)) → (o : Option LineEnd) → cut (b ∷ bs) ≡ o
        → AllWhole (after_cut o (broken ∷ []) (λ end. whole (take 80 (b ∷ bs)) ∷ slots_in n (drop (width end) (b ∷ bs))))
    by go None e = tt
    by go (Some end) e = ((cut_parts (b ∷ bs) end e).0, go (drop (width end) (b ∷ bs)))

slots_whole : (bs : List ℕ) → AllWhole (slots bs)
unfolding slots
slots_whole bs = in_whole (length bs) bs

front_whole : (ss : List Slot) → AllWhole ss → AllByRecursion Whole (front ss)
front_whole [] w = tt
front_whole (whole r ∷ ss) w = (w.0, front_whole ss w.1)
front_whole (broken ∷ ss) w = tt

pub file_whole : (bs : List ℕ) → AllByRecursion Whole (records_in bs)
file_whole bs = front_whole (slots bs) (slots_whole bs)

module _ (m n : Meaning) (same : SameEdition m n) where
  -- the class of a whole record
  module _ (r : List ℕ) (w : Whole r) (c : ℕ) (e : code_in r ≡ Some c) where
    outside_same : (x y : Option Level) → m.level c ≡ x → n.level c ≡ y → outside m c r ≡ outside n c r
    outside_same None None p q = (λ i. by_level (p i) c (m.formed c r)) ∙ sym (λ i. by_level (q i) c (n.formed c r))
    outside_same x (Some l) p q = let h = same.0 c r (ap known q) w e in λ i. by_level (h.0 i) c (h.1 i)
    outside_same (Some l) None p q = let h = same.1 c r (ap known p) w e in sym (λ i. by_level (h.0 i) c (h.1 i))

    kind_same : (k : Option Kind) → class_by m c k r ≡ class_by n c k r
    kind_same None = outside_same (m.level c) (n.level c) refl refl
    kind_same (Some k) = refl

  code_same : (r : List ℕ) → Whole r → (o : Option ℕ) → code_in r ≡ o → class_in m o r ≡ class_in n o r
  code_same r w None e = refl
  code_same r w (Some c) e = kind_same r w c e (kind_of c)

  class_same : (r : List ℕ) → Whole r → class_of m r ≡ class_of n r
  class_same r w = code_same r w (code_in r) refl

  -- checking
  judge_same : (mode : Mode) (ss : List Slot) → AllWhole ss → (k : ℕ) (s : State) → judge mode m k s ss ≡ judge mode n k s ss
  judge_same mode [] w k s = refl
  judge_same mode (whole r ∷ ss) w k s =
      ap (λ c. cond (leb k 50000) (then_on (step mode s c) k (λ t. judge mode m (suc k) t ss)) (at_record k cause.TooMany)) (class_same r w.0)
      ∙ (λ i. cond (leb k 50000) (then_on (step mode s (class_of n r)) k (λ t. judge_same mode ss w.1 (suc k) t i)) (at_record k cause.TooMany))
  judge_same mode (broken ∷ ss) w k s = refl

  pub check_same : (mode : Mode) (bs : List ℕ) → check_of mode m bs ≡ check_of mode n bs
  check_same mode bs = judge_same mode (slots bs) (slots_whole bs) 1 begin

  -- rows, and riders that are wrong
  rows_same : (rs : Records) → AllByRecursion Whole rs → (k : ℕ) → rows_from m k rs ≡ rows_from n k rs
  rows_same [] w k = refl
  rows_same (r ∷ rs) w k = λ i. row_then (row_in k (class_same r w.0 i)) (rows_same rs w.1 (suc k) i)

  fault_same : (rs : Records) → AllByRecursion Whole rs → (o : Option Level) (k : ℕ) → fault_from m o k rs ≡ fault_from n o k rs
  fault_same [] w o k = refl
  fault_same (r ∷ rs) w o k =
      ap (λ c. fault_or k (cause_of o c) (fault_from m (level_past o c) (suc k) rs)) (class_same r w.0)
      ∙ ap (fault_or k (cause_of o (class_of n r))) (fault_same rs w.1 (level_past o (class_of n r)) (suc k))

  -- what the plain copy has of them
  plain_same : (rs : Records) → AllByRecursion Whole rs → plain_records m rs ≡ plain_records n rs
  plain_same [] w = refl
  plain_same (r ∷ rs) w = λ i. record_then (plain_of (sort_of (class_same r w.0 i)) r) (plain_same rs w.1 i)

  -- filling in what is read of an entry
  module _ {A : Type 0} (short : ℕ → VolumeFault) (fill : Meaning → Records → List A) (k many : ℕ) (e : Records) (w : AllByRecursion Whole e) (same_fill : fill m e ≡ fill n e) where
    filled_same : (o : Option FileFault) → then (unless_rider k o e) (λ x. fitting short many (fill m x)) ≡ then (unless_rider k o e) (λ x. fitting short many (fill n x))
    filled_same None = ap (fitting short many) same_fill
    filled_same (Some f) = refl

    entry_same : (b : Bool) → then (cond b (unless_rider k (first_fault m e) e) (Err (NoEntry k))) (λ x. fitting short many (fill m x))
        ≡ then (cond b (unless_rider k (first_fault n e) e) (Err (NoEntry k))) (λ x. fitting short many (fill n x))
    entry_same true = ap (λ o. then (unless_rider k o e) (λ x. fitting short many (fill m x))) (fault_same e w None 1) ∙ filled_same (first_fault n e)
    entry_same false = refl

  module _ (k many : ℕ) (es : List Records) (w : AllByRecursion Whole (get_or es (k - 1) [])) where
    pub shown_same : shown m k many es ≡ shown n k many es
    shown_same = entry_same RowsShort (λ x. rows_of x) k many (get_or es (k - 1) []) w (rows_same (get_or es (k - 1) []) w 1) (numbered_in k (length es))

    pub copying_same : copying m k many es ≡ copying n k many es
    copying_same = entry_same CopyShort (λ x. copied x) k many (get_or es (k - 1) []) w (ap crlf_lines (plain_same (get_or es (k - 1) []) w)) (numbered_in k (length es))
