-- Taking in twins.
use Rattle.std.proofs.Common.{◌≡◌, ℕ, ◌+◌, Bool, true, false, cond, leb, List, length, Some, None, Ok, Err, Option, Result, refl, ap, ◌∙◌, sym, subst}
use Rattle.field.specs.Chains.{then}
use Rattle.record.specs.declared.fields.End.{End}
use Rattle.record.specs.Editions.{Meaning}
use Rattle.manual.specs.declared.faults.Cause.{Cause}
use Rattle.manual.specs.declared.faults.Cause.TheVariants as cause
use Rattle.manual.specs.declared.faults.FileFault.{FileFault}
use Rattle.manual.specs.Judging.{check_of}
use Rattle.manual.specs.Laws.{judging}
use Rattle.filing.specs.declared.faults.VolumeFault.{VolumeFault}
use Rattle.filing.specs.declared.faults.VolumeFault.TheVariants.{File, Marked, SameStamp, NoRoom}
use Rattle.filing.specs.Taking.{start_of, marked, first_same, unless_same, by_file}
use Rattle.report.specs.Listing.{records_in}
use Rattle.twins.specs.Twins.{Passes, Twins, FollowIn}
use Rattle.twins.specs.Agreeing.{Each, fault_at, Agree, both_ok, both_err, Few}
use Rattle.twins.proofs.Levels.{each_length}
use Rattle.twins.proofs.Checking.{checks}
use Rattle.law.specs.Archive.{Archive, entries, places, taking}
use Rattle.law.proofs.TwinEntries.{TwinEntry, TwinFile, entries_alike, starts_alike, stamps_alike}

-- what taking in answers of twins
pub data TakenAlike (F : ℕ → ℕ → Type 0) : Result ℕ VolumeFault → Result ℕ VolumeFault → Type 0 where
  accepted : (k : ℕ) → TakenAlike F (Ok k) (Ok k)
  refused : (c : Cause) (m n : ℕ) → F m n → TakenAlike F (Err (File (fault_at m c))) (Err (File (fault_at n c)))
  is_marked : TakenAlike F (Err Marked) (Err Marked)
  is_same : (k : ℕ) → TakenAlike F (Err (SameStamp k)) (Err (SameStamp k))

-- neither 11 nor 22
pub record Fits (r : Result ℕ VolumeFault) : Type 0 where
  pub few : (n : ℕ) → r ≡ Err (File (fault_at n cause.TooMany)) → ⊥
  pub room : r ≡ Err NoRoom → ⊥

-- the volume's tests, one after another, and the number
abbrev tested : Bool → Option ℕ → Bool → ℕ → Result ℕ VolumeFault
tested m o r k = then (cond m (Err Marked) (unless_same o (cond r (Ok tt) (Err NoRoom)))) (λ _. Ok k)

module _ (F : ℕ → ℕ → Type 0) where
  admit_alike : (m : Bool) (o : Option ℕ) (r q : Bool) (k : ℕ) → (tested m o r k ≡ Err NoRoom → ⊥) → (tested m o q k ≡ Err NoRoom → ⊥) → TakenAlike F (tested m o r k) (tested m o q k)
  admit_alike true o r q k f g = is_marked
  admit_alike false (Some i) r q k f g = is_same i
  admit_alike false None false q k f g = absurd (f refl)
  admit_alike false None true false k f g = absurd (g refl)
  admit_alike false None true true k f g = accepted k

  check_alike : (x y : Result End FileFault) → Agree F x y → (m : Bool) (o : Option ℕ) (r q : Bool) (k : ℕ)
      → (then (by_file x) (λ _. tested m o r k) ≡ Err NoRoom → ⊥) → (then (by_file y) (λ _. tested m o q k) ≡ Err NoRoom → ⊥)
      → TakenAlike F (then (by_file x) (λ _. tested m o r k)) (then (by_file y) (λ _. tested m o q k))
  check_alike _ _ (both_ok x) m o r q k f g = admit_alike m o r q k f g
  check_alike _ _ (both_err c i j h) m o r q k f g = refused c i j h

-- a file that is not refused for its 50,001st record
few_from : (x : Result End FileFault) (go : Result ℕ VolumeFault) → ((n : ℕ) → then (by_file x) (λ _. go) ≡ Err (File (fault_at n cause.TooMany)) → ⊥) → Few x
few_from (Ok e) go h = tt
few_from (Err f) go h = λ e. h f.number (ap (λ c. Err (File (fault_at f.number c))) e)

module _ (spare : ℕ → Bool) (w v : Archive) (same : Each (TwinFile spare) w.files v.files) (m : Meaning) (cap : ℕ) (a b : List ℕ) (pass : Passes spare m) (t : Twins spare a b) where
  alike : Each (TwinEntry spare) (entries w) (entries v)
  alike = entries_alike spare w.files v.files same

  abbrev mark : List ℕ → Bool
  mark x = marked (start_of (records_in x))

  abbrev stamp : Archive → List ℕ → Option ℕ
  stamp u x = first_same (start_of (records_in x)) 1 (entries u)

  abbrev place : Archive → List ℕ → Bool
  place u x = leb (places u.files + length (records_in x) + 2) u.limit

  abbrev number : Archive → ℕ
  number u = length u.files + 1

  abbrev checked : List ℕ → Result End FileFault
  checked x = check_of (judging cap) m x

  marks : mark b ≡ mark a
  marks = sym (ap marked (starts_alike spare a b t))

  stamps : stamp v b ≡ stamp w a
  stamps = sym (ap (λ s. first_same s 1 (entries w)) (starts_alike spare a b t) ∙ stamps_alike spare (entries w) (entries v) alike (start_of (records_in b)) 1)

  numbers : number v ≡ number w
  numbers = sym (ap (λ n. n + 1) (each_length (TwinFile spare) w.files v.files same))

  -- the second run's answer, by what is the same in the first
  by_first : taking v b m cap ≡ then (by_file (checked b)) (λ _. tested (mark a) (stamp w a) (place v b) (number w))
  by_first = λ i. then (by_file (checked b)) (λ _. tested (marks i) (stamps i) (place v b) (numbers i))

  pub taken_alike : Fits (taking w a m cap) → Fits (taking v b m cap) → TakenAlike (FollowIn spare a b) (taking w a m cap) (taking v b m cap)
  taken_alike f g =
      let few_a : Few (checked a) = few_from (checked a) (tested (mark a) (stamp w a) (place w a) (number w)) f.few in
      let few_b : Few (checked b) = few_from (checked b) (tested (mark b) (stamp v b) (place v b) (number v)) g.few in
      subst (TakenAlike (FollowIn spare a b) (taking w a m cap)) (sym by_first)
      (check_alike (FollowIn spare a b) (checked a) (checked b) (checks spare (judging cap) m a b pass t few_a few_b)
      (mark a) (stamp w a) (place w a) (place v b) (number w) f.room (λ e. g.room (by_first ∙ e)))
