-- How many records an entry has.
use Rattle.std.proofs.Common.{◌≡◌, ◌+◌, ◌-◌, ◌≤◌, ℕ, true, false, List, [], length, get_or, Some, None, sym, ap, ◌∙◌, arith}
use Rattle.std.specs.List.{between}
use Rattle.std.proofs.lemmas.Bool.{cond-true, cond-false}
use Rattle.std.proofs.lemmas.List.Edits.{length-between}
use Rattle.filing.specs.Volumes.{Records}
use Rattle.volume.specs.Taking.{numbered_in}
use Rattle.archive.specs.Archives.{record_count}

module _ (k : ℕ) (es : List Records) where
  pub no_entry : numbered_in k (length es) ≡ false → None ≡ record_count k es
  no_entry h = sym (cond-false _ _ _ h)

  pub entry_long : numbered_in k (length es) ≡ true → (rs : Records) (before count : ℕ) → between before (before + count) rs ≡ get_or es (k - 1) [] → before + count ≤ length rs → Some count ≡ record_count k es
  entry_long some rs before count is within =
      let long : count ≡ length (get_or es (k - 1) []) = omega (arith, length-between rs before (before + count) within, ap length is) in
      ap Some long ∙ sym (cond-true _ _ _ some)
