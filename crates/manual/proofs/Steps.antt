-- One step of the judge: a list of tests, of which the first that fails decides.
use Rattle.std.proofs.Common.{◌≡◌, ℕ, Bool, true, false, cond, List, [], ◌∷◌, Ok, Err, refl, ◌∙◌, arith}
use Rattle.std.proofs.lemmas.Bool.{cond-true}
use Rattle.manual.specs.declared.faults.Cause.{Cause}
use Rattle.manual.specs.Judging.{first}

-- every test passes
abbrev pub Passes : List (Bool × Cause) → Type 0
Passes [] = Unit {0}
Passes (t ∷ ts) = (t.0 ≡ true) × Passes ts

-- then the answer is the state given, and only then
pub passing : {S : Type 0} (ts : List (Bool × Cause)) (s : S) → Passes ts → first ts s ≡ Ok s
passing [] s p = refl
passing (x ∷ xs) s p = cond-true x.0 _ _ p.0 ∙ passing xs s p.1

pub passed : {S : Type 0} (ts : List (Bool × Cause)) (s t : S) → first ts s ≡ Ok t → Passes ts × (s ≡ t)
passed [] s t e = (tt, cc)
passed (x ∷ xs) s t e =
    (elim x.0 as (λ b. cond b (first xs s) (Err x.1) ≡ Ok t → ((b ≡ true) × Passes xs) × (s ≡ t)) [
      | true ↦ λ q. let n = passed xs s t q in ((refl, n.0), n.1)
      | false ↦ λ q. let z : ◌≡◌ {A = ℕ} 0 1 = cc in absurd (omega arith)
    ]) e
