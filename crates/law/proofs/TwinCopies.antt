-- Plain copies of twins in two archives.
use Rattle.std.proofs.Common.{◌≡◌, ℕ, ◌-◌, Bool, true, false, cond, leb, List, [], ◌++◌, length, get_or, drop, Ok, Err, Option, Result, subst}
use Rattle.field.specs.Chains.{then}
use Rattle.record.specs.Editions.{Meaning}
use Rattle.manual.specs.declared.faults.FileFault.{FileFault}
use Rattle.filing.specs.declared.faults.VolumeFault.{VolumeFault}
use Rattle.filing.specs.declared.faults.VolumeFault.TheVariants.{NoEntry, CopyShort}
use Rattle.filing.specs.Volumes.{Records}
use Rattle.volume.specs.Taking.{numbered_in}
use Rattle.report.specs.Copies.{copied}
use Rattle.report.specs.Faults.{first_fault}
use Rattle.report.specs.Listing.{records_in}
use Rattle.showing.specs.Showing.{fitting, unless_rider, copying, how_many, filled_in}
use Rattle.twins.specs.Twins.{Passes, Follow, FollowIn}
use Rattle.twins.specs.Agreeing.{Each, FaultAlike, neither, both}
use Rattle.twins.proofs.Copies.{twin_copies}
use Rattle.twins.proofs.Levels.{each_length}
use Rattle.twins.proofs.Rows.{twin_fault}
use Rattle.law.specs.Copies.{CopyAlike, both_copied, both_no_entry, both_rider, both_short}
use Rattle.law.proofs.TwinEntries.{TwinEntry, of_twins, entry_alike}

-- the copy of an entry, where a rider of it is wrong or none is
abbrev copy_of : ℕ → Meaning → ℕ → Option FileFault → Records → Result (List ℕ) VolumeFault
copy_of k m n o e = then (unless_rider k o e) (λ x. fitting CopyShort n (copied m x))

-- both with the same buffer before
abbrev Same : (ℕ → ℕ → Type 0) → List ℕ → Result (List ℕ) VolumeFault → Result (List ℕ) VolumeFault → Type 0
Same F buffer r q = CopyAlike F (how_many r) (filled_in r buffer) (how_many q) (filled_in q buffer)

module _ (F : ℕ → ℕ → Type 0) (k : ℕ) (buffer : List ℕ) where
  fits : (xs : List ℕ) (b : Bool) → Same F buffer (cond b (Ok xs) (Err (CopyShort (length xs)))) (cond b (Ok xs) (Err (CopyShort (length xs))))
  fits xs true = both_copied (length xs) (xs ++ drop (length xs) buffer)
  fits xs false = both_short (length xs) buffer

  fault_alike : (m : Meaning) (x y : Option FileFault) → FaultAlike F x y → (e f : Records) → copied m e ≡ copied m f
      → Same F buffer (copy_of k m (length buffer) x e) (copy_of k m (length buffer) y f)
  fault_alike m _ _ neither e f h =
      subst (λ ys. Same F buffer (fitting CopyShort (length buffer) (copied m e)) (fitting CopyShort (length buffer) ys)) h
      (fits (copied m e) (leb (length (copied m e)) (length buffer)))
  fault_alike m _ _ (both c i j x) e f h = both_rider k c i j buffer x

module _ (spare : ℕ → Bool) (k : ℕ) (m : Meaning) (pass : Passes spare m) (buffer : List ℕ) where
  entry_copied : (e f : Records) → TwinEntry spare e f
      → Same (Follow spare e f) buffer (copy_of k m (length buffer) (first_fault m e) e) (copy_of k m (length buffer) (first_fault m f) f)
  entry_copied _ _ (of_twins a b t) = fault_alike (FollowIn spare a b) k buffer m _ _ (twin_fault spare m pass a b t) (records_in a) (records_in b) (twin_copies spare m pass a b t)

  one_copied : (e f : Records) → TwinEntry spare e f → (b : Bool)
      → Same (Follow spare e f) buffer (then (cond b (unless_rider k (first_fault m e) e) (Err (NoEntry k))) (λ x. fitting CopyShort (length buffer) (copied m x)))
      (then (cond b (unless_rider k (first_fault m f) f) (Err (NoEntry k))) (λ x. fitting CopyShort (length buffer) (copied m x)))
  one_copied e f t true = entry_copied e f t
  one_copied e f t false = both_no_entry k buffer

  pub copying_alike : (es fs : List Records) → Each (TwinEntry spare) es fs
      → Same (Follow spare (get_or es (k - 1) []) (get_or fs (k - 1) [])) buffer (copying m k (length buffer) es) (copying m k (length buffer) fs)
  copying_alike es fs h =
      let e = get_or es (k - 1) [] in
      let f = get_or fs (k - 1) [] in
      subst (λ n. Same (Follow spare e f) buffer (copying m k (length buffer) es) (then (cond (numbered_in k n) (unless_rider k (first_fault m f) f) (Err (NoEntry k))) (λ x. fitting CopyShort (length buffer) (copied m x))))
      (each_length (TwinEntry spare) es fs h)
      (one_copied e f (entry_alike spare es fs h (k - 1)) (numbered_in k (length es)))
