-- Which numbers opening can be refused by, and what `?` hands on.
use Rattle.std.proofs.Common.{◌≡◌, ℕ, List, Contains, Ok, Err, Result, sym, subst}
use Rattle.std.specs.Result.{IsErrAnd}
use Rattle.filing.specs.declared.faults.VolumeFault.{VolumeFault}
use Rattle.filing.specs.declared.standing.Opened.{Opened}
use Rattle.filing.specs.Entries.{reads}
use Rattle.filing.specs.Refusals.{number_told, RefusedBy, of_opening, of_taking}
use Rattle.filing.specs.Taking.{admitted}
use Rattle.filing.specs.Volumes.{Records}
use Rattle.filing.proofs.Giving.{opening_gives, admitted_gives}
use Rattle.volume.specs.declared.tokens.Volume.{Volume}
use Rattle.volume.specs.Tokens.{with_token, found_on}

with_token_gives : (r : Result Opened VolumeFault) → RefusedBy of_opening r → RefusedBy of_opening (with_token r)
with_token_gives (Ok o) h = tt
with_token_gives (Err e) h = h

pub open_gives : (rs : Records) (limit : ℕ) (answer : Result Volume VolumeFault) → answer ≡ with_token (found_on rs limit) → RefusedBy of_opening answer
open_gives rs limit answer is = subst (RefusedBy of_opening) (sym is) (with_token_gives (found_on rs limit) (opening_gives reads limit rs))

-- a fault that `?` hands on keeps its number
pub rose_gives : {T : Type 0} (numbers : List ℕ) (r : Result T VolumeFault) (f : VolumeFault) → IsErrAnd r (λ x. x ≡ f) → Contains numbers (number_told f) → RefusedBy numbers r
rose_gives numbers (Ok x) f h k = tt
rose_gives numbers (Err x) f h k = subst (λ y. Contains numbers (number_told y)) (sym h) k

pub not_admitted : {T : Type 0} (limit count : ℕ) (es : List Records) (e : Records) (r : Result T VolumeFault) (f : VolumeFault) → Err f ≡ admitted limit count es e → IsErrAnd r (λ x. x ≡ f) → RefusedBy of_taking r
not_admitted limit count es e r f is rose =
    let gives : Contains of_taking (number_told f) = subst (RefusedBy {T = Unit {0}} of_taking) (sym is) (admitted_gives limit count es e) in
    rose_gives of_taking r f rose gives
