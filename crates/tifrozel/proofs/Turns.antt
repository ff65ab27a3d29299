-- One turn of the listing, and its two ends.
use Rattle.std.proofs.Common.{◌≡◌, ℕ, ◌+◌, ◌<◌, true, false, eqb, List, length, drop, Some, None, Ok, Err, Option, sym, subst, arith}
use Rattle.std.proofs.lemmas.List.{nil_from_length}
use Rattle.std.proofs.lemmas.Bool.{eqb-true, eqb-false}
use Rattle.record.specs.Editions.{Meaning}
use Rattle.manual.specs.declared.faults.FileFault.{FileFault}
use Rattle.file.specs.declared.single.One.{One}
use Rattle.file.specs.Numbering.{numbered}
use Rattle.file.specs.Single.{one_of, Listed, done, stop, next}

some_left : (bs : List ℕ) → false ≡ eqb (length bs) 0 → 0 < length bs
some_left bs e = omega (arith, eqb-false (length bs) 0 (sym e))

-- what can be listed from here can be listed of the whole
abbrev pub Leads : Meaning → List ℕ → ℕ → List ℕ → Type 0
Leads m whole n bs = (k : ℕ) (end : Option FileFault) → Listed m n bs k end → Listed m 0 whole k end

module _ (m : Meaning) (whole : List ℕ) (n : ℕ) (bs : List ℕ) (leads : Leads m whole n bs) where
  pub turn : (after : List ℕ) (one : One) → false ≡ eqb (length bs) 0 → Ok one ≡ numbered (n + 1) (one_of m bs) → after ≡ drop one.width bs → Leads m whole (n + 1) after
  turn after one left read rest k end on = leads k end (next n bs one k end (some_left bs left) (sym read) (subst (λ l. Listed m (n + 1) l k end) rest on))

  pub stops : (f : FileFault) → false ≡ eqb (length bs) 0 → Err f ≡ numbered (n + 1) (one_of m bs) → Listed m 0 whole n (Some f)
  stops f left read = leads n (Some f) (stop n bs f (some_left bs left) (sym read))

  pub ends : true ≡ eqb (length bs) 0 → Listed m 0 whole n None
  ends none = leads n None (subst (λ l. Listed m n l n None) (sym (nil_from_length bs (eqb-true (length bs) 0 (sym none)))) (done n))
