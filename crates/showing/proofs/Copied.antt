-- What copying an entry comes to.
use Rattle.std.proofs.Common.{◌≡◌, ℕ, suc, ◌+◌, ◌-◌, ◌*◌, ◌<◌, ◌≤◌, leb, List, [], ◌∷◌, length, get_or, Some, None, Ok, Err, Option, sym, ap, ◌∙◌, arith}
use Rattle.std.specs.List.{between}
use Rattle.std.proofs.lemmas.Bool.{cond-true, cond-false, le-leb, lt-leb}
use Rattle.std.proofs.lemmas.List.Edits.{length-between}
use Rattle.field.specs.Chains.{then}
use Rattle.record.specs.declared.rows.Row.{Row}
use Rattle.record.specs.Classes.{class_of}
use Rattle.record.specs.Editions.{Meaning}
use Rattle.shelf.specs.Records.{Whole}
use Rattle.filing.specs.declared.standing.Opened.{Opened}
use Rattle.filing.specs.Volumes.{Records, entries_of}
use Rattle.volume.specs.Tokens.{found_on}
use Rattle.report.specs.Rows.{row_in, row_then, rows_from, rows_of}
use Rattle.report.proofs.Riders.{none_found}
use Rattle.report.specs.Copies.{copied}
use Rattle.report.specs.Stands.{CopyStands}
use Rattle.report.proofs.Standing.{stands}
use Rattle.filing.specs.declared.faults.VolumeFault.TheVariants.{CopyShort}
use Rattle.showing.specs.Showing.{passed, fitting, copying as copying_term}
use Rattle.showing.proofs.Passing.{passed_is, entry_fine}

few_then : (o : Option Row) (rest : List Row) → length (row_then o rest) ≤ suc (length rest)
few_then None rest = omega arith
few_then (Some r) rest = omega arith

-- there are no more rows than records
pub rows_few : (m : Meaning) (n : ℕ) (rs : List (List ℕ)) → length (rows_from m n rs) ≤ length rs
rows_few m n [] = omega arith
rows_few m n (r ∷ rs) = omega (arith, few_then (row_in n (class_of m r)) (rows_from m (suc n) rs), rows_few m (suc n) rs)

module _ (rs : Records) (limit : ℕ) (whole : Whole rs) (o : Opened) (own : found_on rs limit ≡ Ok o) (m : Meaning) (k before count : ℕ) where
  module _ (passes : passed m k (entries_of rs) ≡ Ok (between before (before + count) rs)) where
    is : get_or (entries_of rs) (k - 1) [] ≡ between before (before + count) rs
    is = (passed_is m k (entries_of rs) (between before (before + count) rs) passes).1

    pub entry_stands : CopyStands m (get_or (entries_of rs) (k - 1) [])
    entry_stands =
        let p = passed_is m k (entries_of rs) (between before (before + count) rs) passes in
        let fine = entry_fine rs limit whole o own k p.0 before (before + count) is in
        stands m (get_or (entries_of rs) (k - 1) []) (none_found m (get_or (entries_of rs) (k - 1) []) p.2) fine.0 fine.1

    pub needed_is : (rows : ℕ) → rows ≡ length (rows_of m (between before (before + count) rs)) → rows * 82 ≡ length (copied m (between before (before + count) rs))
    needed_is rows e = omega (arith, e, ap (λ x. length (copied m x)) (sym is) ∙ entry_stands.bytes ∙ ap (λ x. 82 * length (rows_of m x)) is)

    -- with a buffer that is too small, and with one that is not
    pub short_copy : (many needed : ℕ) → needed ≡ length (copied m (between before (before + count) rs)) → many < needed → copying_term m k many (entries_of rs) ≡ Err (CopyShort needed)
    short_copy many needed e few =
        let bytes = copied m (between before (before + count) rs) in
        ap (λ p. then p (λ x. fitting CopyShort many (copied m x))) passes
        ∙ cond-false (leb (length bytes) many) (Ok bytes) (Err (CopyShort (length bytes))) (lt-leb _ _ (omega (arith, e, few))) ∙ ap (λ n. Err (CopyShort n)) (sym e)

    pub whole_copy : (many needed : ℕ) → needed ≡ length (copied m (between before (before + count) rs)) → needed ≤ many → copying_term m k many (entries_of rs) ≡ Ok (copied m (between before (before + count) rs))
    whole_copy many needed e enough =
        let bytes = copied m (between before (before + count) rs) in
        ap (λ p. then p (λ x. fitting CopyShort many (copied m x))) passes
        ∙ cond-true (leb (length bytes) many) (Ok bytes) (Err (CopyShort (length bytes))) (le-leb _ _ (omega (arith, e, enough)))

-- there are no more rows than records on a shelf
pub rows_bound : (m : Meaning) (rs : Records) (before count rows : ℕ) → before + count ≤ length rs → rows ≡ length (rows_of m (between before (before + count) rs)) → rows ≤ length rs
rows_bound m rs before count rows inside e = omega (arith, e, rows_few m 1 (between before (before + count) rs), length-between rs before (before + count) inside, inside)
