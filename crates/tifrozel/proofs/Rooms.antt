-- A table with a row for each record of an entry is large enough for its rows, and a buffer with 82 bytes for each for its plain copy.
use Rattle.std.proofs.Common.{◌≡◌, ℕ, ◌+◌, ◌-◌, ◌*◌, ◌≤◌, List, [], length, get_or, Some, Ok, Err, Option, Result, IfSome, sym, refl, ap, ◌∙◌, subst, arith}
use Rattle.std.specs.Prelude.{unwrap_or}
use Rattle.std.specs.List.{between}
use Rattle.std.proofs.lemmas.Bool.{cond-true, le-leb}
use Rattle.field.specs.Chains.{then}
use Rattle.record.specs.Editions.{Meaning}
use Rattle.shelf.specs.Records.{Whole}
use Rattle.filing.specs.declared.faults.VolumeFault.{VolumeFault}
use Rattle.filing.specs.declared.faults.VolumeFault.TheVariants.{RowsShort, CopyShort}
use Rattle.filing.specs.declared.standing.Opened.{Opened}
use Rattle.filing.specs.Volumes.{Records, entries_of}
use Rattle.volume.specs.Tokens.{found_on}
use Rattle.report.specs.Copies.{copied}
use Rattle.report.specs.Rows.{rows_of}
use Rattle.showing.specs.Showing.{passed, fitting, shown, copying, how_many}
use Rattle.showing.proofs.Passing.{passed_is}
use Rattle.showing.proofs.Copied.{entry_stands, rows_few}
use Rattle.archive.specs.Archives.{record_count}
use Rattle.tifrozel.specs.Commands.{entry_rows, entry_copy}

-- how many rows are enough to show entry k: as many as it has records
abbrev pub rows_for : ℕ → List Records → ℕ
rows_for k es = unwrap_or (record_count k es) 0

enough : {A : Type 0} (short : ℕ → VolumeFault) (of : Records → List A) (many : ℕ) (p : Result Records VolumeFault) → ((e : Records) → p ≡ Ok e → length (of e) ≤ many)
    → then p (λ e. fitting short many (of e)) ≡ then p (λ e. Ok (of e))
enough short of many (Ok e) few = cond-true _ _ _ (le-leb _ _ (few e refl))
enough short of many (Err f) few = refl

module _ (m : Meaning) (k : ℕ) (es : List Records) where
  as_large : (e : Records) → passed m k es ≡ Ok e → rows_for k es ≡ length e
  as_large e h = let p = passed_is m k es e h in ap (λ o. unwrap_or o 0) (cond-true _ _ _ p.0) ∙ ap length p.1

  pub table_enough : shown m k (rows_for k es) es ≡ entry_rows m k es
  table_enough = enough RowsShort (rows_of m) (rows_for k es) (passed m k es) (λ e h. omega (arith, rows_few m 1 e, as_large e h))

-- an entry's records lie one behind the other on its shelf
abbrev Lie : Records → List Records → ℕ → ℕ → Type 0
Lie rs es k n = (before : ℕ) × (get_or es (k - 1) [] ≡ between before (before + n) rs)

module _ (m : Meaning) (k : ℕ) (rs : Records) (limit : ℕ) (whole : Whole rs) (o : Opened) (own : found_on rs limit ≡ Ok o) where
  module _ (r : Option ℕ) (is : r ≡ record_count k (entries_of rs)) (lie : IfSome r (λ n. Lie rs (entries_of rs) k n)) where
    lies : (e : Records) → passed m k (entries_of rs) ≡ Ok e → Lie rs (entries_of rs) k (length e)
    lies e h =
        let p = passed_is m k (entries_of rs) e h in
        let some : r ≡ Some (length e) = is ∙ cond-true _ _ _ p.0 ∙ ap (λ x. Some (length x)) p.1 in
        subst (λ q. IfSome q (λ n. Lie rs (entries_of rs) k n)) some lie

    few_bytes : (e : Records) → passed m k (entries_of rs) ≡ Ok e → length (copied m e) ≤ 82 * rows_for k (entries_of rs)
    few_bytes e h =
        let p = passed_is m k (entries_of rs) e h in
        let l = lies e h in
        let s = entry_stands rs limit whole o own m k l.0 (length e) (h ∙ ap Ok (sym p.1 ∙ l.1)) in
        let bytes : length (copied m e) ≡ 82 * length (rows_of m e) = ap (λ x. length (copied m x)) (sym p.1) ∙ s.bytes ∙ ap (λ x. 82 * length (rows_of m x)) p.1 in
        omega (arith, bytes, rows_few m 1 e, as_large m k (entries_of rs) e h)

    pub buffer_enough : copying m k (82 * rows_for k (entries_of rs)) (entries_of rs) ≡ entry_copy m k (entries_of rs)
    buffer_enough = enough CopyShort (copied m) (82 * rows_for k (entries_of rs)) (passed m k (entries_of rs)) few_bytes

module _ {A : Type 0} where
  pub not_filled : (r : Result (List A) VolumeFault) (f : VolumeFault) → Err f ≡ how_many r → r ≡ Err f
  not_filled (Ok xs) f is = let z : ◌≡◌ {A = ℕ} 0 1 = cc in absurd (omega arith)
  not_filled (Err g) f is = let same : g ≡ f = cc in ap Err same
