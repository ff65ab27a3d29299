-- Which numbers showing and the plain copy can be refused by.
use Rattle.std.proofs.Common.{◌≡◌, ℕ, ◌-◌, leb, ◌⊎◌, List, [], Contains, length, get_or, Some, None, Ok, Err, Option, Result, refl, sym, subst, inl, inr, ◌∙◌}
use Rattle.field.specs.Chains.{then}
use Rattle.record.specs.Editions.{Meaning}
use Rattle.refusal.specs.Reasons.{number_of}
use Rattle.manual.specs.declared.faults.Cause.{Cause}
use Rattle.manual.specs.declared.faults.Cause.TheVariants.{RiderLevel, RiderIllFormed}
use Rattle.manual.specs.declared.faults.FileFault.{FileFault}
use Rattle.manual.specs.Refusals.{reason_of}
use Rattle.filing.specs.declared.faults.VolumeFault.{VolumeFault}
use Rattle.filing.specs.declared.faults.VolumeFault.TheVariants.{NoEntry, Rider}
use Rattle.filing.specs.Refusals.{number_told, RefusedBy}
use Rattle.filing.specs.Volumes.{Records}
use Rattle.filing.proofs.Giving.{then_gives, cond_gives}
use Rattle.volume.specs.Taking.{numbered_in}
use Rattle.report.specs.Faults.{first_fault}
use Rattle.report.specs.Riders.{WrongRider, FindsFirst}
use Rattle.report.proofs.Riders.{first_found}
use Rattle.showing.specs.Showing.{unless_rider, passed, fitting, how_many}

module _ (numbers : List ℕ) (ill : Contains numbers 13) (wrong : Contains numbers 14) (nowhere : Contains numbers 24) where
  one_of_two : (c : Cause) → (c ≡ RiderLevel) ⊎ (c ≡ RiderIllFormed) → Contains numbers (number_of (reason_of c))
  one_of_two c (inl e) = subst (λ x. Contains numbers (number_of (reason_of x))) (sym e) wrong
  one_of_two c (inr e) = subst (λ x. Contains numbers (number_of (reason_of x))) (sym e) ill

  module _ (m : Meaning) (k : ℕ) (es : List Records) where
    found_gives : (f : FileFault) → FindsFirst m (get_or es (k - 1) []) f → Contains numbers (number_told (Rider k f))
    found_gives f h = one_of_two f.cause (by h.found.wrong)
      where
        by : WrongRider m h.found.before h.found.line h.found.knows h.found.cause → (f.cause ≡ RiderLevel) ⊎ (f.cause ≡ RiderIllFormed)
        by (inl (n, q)) = inl (h.cause ∙ q)
        by (inr (y, g, q)) = inr (h.cause ∙ q)

    rider_gives : (o : Option FileFault) → first_fault m (get_or es (k - 1) []) ≡ o → RefusedBy numbers (unless_rider k o (get_or es (k - 1) []))
    rider_gives None h = tt
    rider_gives (Some f) h = found_gives f (first_found m (get_or es (k - 1) []) f h)

    passed_gives : RefusedBy numbers (passed m k es)
    passed_gives =
        cond_gives numbers (numbered_in k (length es)) (unless_rider k (first_fault m (get_or es (k - 1) [])) (get_or es (k - 1) [])) (Err (NoEntry k))
        (rider_gives (first_fault m (get_or es (k - 1) [])) refl) nowhere

    how_many_gives : {A : Type 0} (r : Result (List A) VolumeFault) → RefusedBy numbers r → RefusedBy numbers (how_many r)
    how_many_gives (Ok xs) h = tt
    how_many_gives (Err f) h = h

    pub read_gives : {A : Type 0} (short : ℕ → VolumeFault) (many : ℕ) (fill : Records → List A) → ((n : ℕ) → Contains numbers (number_told (short n)))
        → (answer : Result ℕ VolumeFault) → answer ≡ how_many (then (passed m k es) (λ e. fitting short many (fill e))) → RefusedBy numbers answer
    read_gives {A} short many fill too_short answer is =
        subst (RefusedBy numbers) (sym is)
        (how_many_gives (then (passed m k es) (λ e. fitting short many (fill e)))
        (then_gives numbers (passed m k es) (λ e. fitting short many (fill e)) passed_gives
        (λ e. cond_gives numbers (leb (length (fill e)) many) (Ok (fill e)) (Err (short (length (fill e)))) tt (too_short (length (fill e))))))
