-- What is filled in where no rider is wrong, and that a refusal leaves all: the theorem `FillsEntry` of specs/Riders.
use Rattle.std.proofs.Common.{◌≡◌, ℕ, ◌-◌, ◌<◌, ◌≤◌, true, leb, List, [], length, get_or, Some, None, Ok, Err, Option, Result, sym, refl, ap, ◌∙◌, arith}
use Rattle.std.proofs.lemmas.Bool.{cond-true, cond-false, and_from, le-leb, lt-leb}
use Rattle.field.specs.Chains.{then}
use Rattle.record.specs.Editions.{Meaning}
use Rattle.manual.specs.declared.faults.FileFault.{FileFault}
use Rattle.filing.specs.declared.faults.VolumeFault.{VolumeFault}
use Rattle.filing.specs.Volumes.{Records}
use Rattle.volume.specs.Taking.{numbered_in}
use Rattle.report.specs.Faults.{first_fault}
use Rattle.report.specs.Riders.{Finds}
use Rattle.report.proofs.Riders.{first_found}
use Rattle.showing.specs.Showing.{unless_rider, passed, fitting, how_many, filled_in}
use Rattle.showing.specs.Riders.{FillsEntry}

module _ {A : Type 0} (fill : Records → List A) (short : ℕ → VolumeFault) (m : Meaning) (k : ℕ) (es : List Records) (before after : List A) (answer : Result ℕ VolumeFault) where
  abbrev its : Records
  its = get_or es (k - 1) []

  abbrev outcome : Result (List A) VolumeFault
  outcome = then (passed m k es) (λ e. fitting short (length before) (fill e))

  none_wrong : (Finds m (get_or es (k - 1) []) → ⊥) → (o : Option FileFault) → first_fault m (get_or es (k - 1) []) ≡ o → unless_rider k o (get_or es (k - 1) []) ≡ Ok (get_or es (k - 1) [])
  none_wrong clean None h = refl
  none_wrong clean (Some f) h = absurd (clean (first_found m (get_or es (k - 1) []) f h).found)

  passes : 0 < k → k ≤ length es → (Finds m (get_or es (k - 1) []) → ⊥) → passed m k es ≡ Ok (get_or es (k - 1) [])
  passes low high clean =
      let some : numbered_in k (length es) ≡ true = and_from (leb 1 k) (leb k (length es)) (le-leb 1 k low) (le-leb k (length es) high) in
      cond-true _ _ _ some ∙ none_wrong clean (first_fault m (get_or es (k - 1) [])) refl

  enough : 0 < k → k ≤ length es → (Finds m (get_or es (k - 1) []) → ⊥) → length (fill (get_or es (k - 1) [])) ≤ length before → outcome ≡ Ok (fill (get_or es (k - 1) []))
  enough low high clean fits =
      ap (λ p. then p (λ e. fitting short (length before) (fill e))) (passes low high clean)
      ∙ cond-true (leb (length (fill (get_or es (k - 1) []))) (length before)) (Ok (fill (get_or es (k - 1) []))) (Err (short (length (fill (get_or es (k - 1) []))))) (le-leb _ _ fits)

  not_enough : 0 < k → k ≤ length es → (Finds m (get_or es (k - 1) []) → ⊥) → length before < length (fill (get_or es (k - 1) [])) → outcome ≡ Err (short (length (fill (get_or es (k - 1) []))))
  not_enough low high clean few =
      ap (λ p. then p (λ e. fitting short (length before) (fill e))) (passes low high clean)
      ∙ cond-false (leb (length (fill (get_or es (k - 1) []))) (length before)) (Ok (fill (get_or es (k - 1) []))) (Err (short (length (fill (get_or es (k - 1) []))))) (lt-leb _ _ few)

  left : (r : Result (List A) VolumeFault) (f : VolumeFault) → how_many r ≡ Err f → filled_in r before ≡ before
  left (Ok xs) f h = let z : ◌≡◌ {A = ℕ} 0 1 = cc in absurd (omega arith)
  left (Err g) f h = refl

  pub fills_entry : answer ≡ how_many (then (passed m k es) (λ e. fitting short (length before) (fill e))) → after ≡ filled_in (then (passed m k es) (λ e. fitting short (length before) (fill e))) before
      → FillsEntry fill short m k es before after answer
  fills_entry told done = record {
    whole = λ low high clean fits.
        let is = enough low high clean fits in
        (told ∙ ap how_many is, done ∙ ap (λ r. filled_in r before) is);
    too_few = λ low high clean few. told ∙ ap how_many (not_enough low high clean few);
    kept = λ f h. done ∙ left outcome f (sym told ∙ h);
  }
