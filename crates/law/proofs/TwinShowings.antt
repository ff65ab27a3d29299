-- Showing twins in two archives.
use Rattle.std.proofs.Common.{◌≡◌, ℕ, ◌-◌, Bool, true, false, cond, leb, List, [], ◌++◌, length, get_or, drop, Ok, Err, Option, Result, refl, sym, subst}
use Rattle.field.specs.Chains.{then}
use Rattle.record.specs.declared.rows.Row.{Row}
use Rattle.record.specs.Editions.{Meaning}
use Rattle.manual.specs.declared.faults.FileFault.{FileFault}
use Rattle.filing.specs.declared.faults.VolumeFault.{VolumeFault}
use Rattle.filing.specs.Volumes.{Records}
use Rattle.volume.specs.Taking.{numbered_in}
use Rattle.report.specs.Rows.{rows_of}
use Rattle.report.specs.Faults.{first_fault}
use Rattle.filing.specs.declared.faults.VolumeFault.TheVariants.{NoEntry, RowsShort}
use Rattle.showing.specs.Showing.{fitting, unless_rider, shown, how_many, filled_in}
use Rattle.law.proofs.OneShown.{shown_of}
use Rattle.law.specs.Archive.{Answer, rows}
use Rattle.report.specs.Listing.{records_in}
use Rattle.twins.specs.Twins.{Passes, Follow, FollowIn}
use Rattle.twins.specs.Agreeing.{Each, FaultAlike, neither, both, RowAlike}
use Rattle.twins.proofs.Levels.{each_length}
use Rattle.law.specs.TwoRuns.{AnswerAlike, both_shown, both_rider, both_no_entry, both_short}
use Rattle.law.proofs.TwinEntries.{TwinEntry, of_twins, entry_alike}
use Rattle.twins.proofs.Rows.{twin_rows, twin_fault}

-- what is answered, and the table afterwards
abbrev told : Result (List Row) VolumeFault → List Row → Answer
told s table = rows (how_many s) (filled_in s table)

module _ (F : ℕ → ℕ → Type 0) (k : ℕ) (table : List Row) where
  rows_alike : (xs ys : List Row) → Each (RowAlike F) xs ys → length ys ≡ length xs → (b : Bool)
      → AnswerAlike F (told (cond b (Ok xs) (Err (RowsShort (length xs)))) table) (told (cond b (Ok ys) (Err (RowsShort (length xs)))) table)
  rows_alike xs ys h e true = subst (λ n. AnswerAlike F (told (Ok xs) table) (rows (Ok n) (ys ++ drop n table))) (sym e) (both_shown (length xs) xs ys (drop (length xs) table) refl e h)
  rows_alike xs ys h e false = both_short (length xs) table

  fitting_alike : (xs ys : List Row) → Each (RowAlike F) xs ys → AnswerAlike F (told (fitting RowsShort (length table) xs) table) (told (fitting RowsShort (length table) ys) table)
  fitting_alike xs ys h =
      let e : length xs ≡ length ys = each_length (RowAlike F) xs ys h in
      subst (λ n. AnswerAlike F (told (fitting RowsShort (length table) xs) table) (told (cond (leb n (length table)) (Ok ys) (Err (RowsShort n))) table)) e
      (rows_alike xs ys h (sym e) (leb (length xs) (length table)))

  fault_alike : (m : Meaning) (x y : Option FileFault) → FaultAlike F x y → (e f : Records) → Each (RowAlike F) (rows_of m e) (rows_of m f)
      → AnswerAlike F (told (shown_of k m (length table) x e) table) (told (shown_of k m (length table) y f) table)
  fault_alike m _ _ neither e f h = fitting_alike (rows_of m e) (rows_of m f) h
  fault_alike m _ _ (both c i j x) e f h = both_rider k c i j table x

module _ (spare : ℕ → Bool) (k : ℕ) (m : Meaning) (pass : Passes spare m) (table : List Row) where
  entry_shown : (e f : Records) → TwinEntry spare e f
      → AnswerAlike (Follow spare e f) (told (shown_of k m (length table) (first_fault m e) e) table) (told (shown_of k m (length table) (first_fault m f) f) table)
  entry_shown _ _ (of_twins a b t) = fault_alike (FollowIn spare a b) k table m _ _ (twin_fault spare m pass a b t) (records_in a) (records_in b) (twin_rows spare m pass a b t)

  one_shown : (e f : Records) → TwinEntry spare e f → (b : Bool)
      → AnswerAlike (Follow spare e f) (told (then (cond b (unless_rider k (first_fault m e) e) (Err (NoEntry k))) (λ x. fitting RowsShort (length table) (rows_of m x))) table)
      (told (then (cond b (unless_rider k (first_fault m f) f) (Err (NoEntry k))) (λ x. fitting RowsShort (length table) (rows_of m x))) table)
  one_shown e f t true = entry_shown e f t
  one_shown e f t false = both_no_entry k table

  pub showing_alike : (es fs : List Records) → Each (TwinEntry spare) es fs
      → AnswerAlike (Follow spare (get_or es (k - 1) []) (get_or fs (k - 1) [])) (told (shown m k (length table) es) table) (told (shown m k (length table) fs) table)
  showing_alike es fs h =
      let e = get_or es (k - 1) [] in
      let f = get_or fs (k - 1) [] in
      subst (λ n. AnswerAlike (Follow spare e f) (told (shown m k (length table) es) table) (told (then (cond (numbered_in k n) (unless_rider k (first_fault m f) f) (Err (NoEntry k))) (λ x. fitting RowsShort (length table) (rows_of m x))) table))
      (each_length (TwinEntry spare) es fs h)
      (one_shown e f (entry_alike spare es fs h (k - 1)) (numbered_in k (length es)))
