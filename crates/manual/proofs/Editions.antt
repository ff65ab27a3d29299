-- Where the answer is no refusal for a rider, it is the same under any edition and under the bare one.
use Rattle.std.proofs.Common.{◌≡◌, ℕ, suc, Bool, true, false, cond, leb, List, [], ◌∷◌, Some, None, Ok, Err, Option, Result, refl}
use Rattle.std.proofs.lemmas.Bool.{true≢false}
use Rattle.record.specs.declared.kinds.Kind.{Kind}
use Rattle.record.specs.declared.fields.End.{End}
use Rattle.record.specs.declared.editions.Level.{Level}
use Rattle.record.specs.declared.classes.Rider.{Rider}
use Rattle.record.specs.declared.classes.Class.{Class}
use Rattle.record.specs.declared.classes.Class.TheVariants as class
use Rattle.record.specs.Kinds.{kind_of}
use Rattle.record.specs.Codes.{code_in}
use Rattle.record.specs.Classes.{by_level, class_by, class_in, class_of}
use Rattle.record.specs.Editions.{Meaning, bare}
use Rattle.manual.specs.declared.faults.Cause.{Cause}
use Rattle.manual.specs.declared.faults.Cause.TheVariants as cause
use Rattle.manual.specs.declared.faults.FileFault.{FileFault}
use Rattle.manual.specs.Slots.{Slot, whole, broken, slots}
use Rattle.manual.specs.Judging.{Mode, State, begun, sits, first, step, then_on, at_record, begin, judge, check_of}
use Rattle.manual.specs.Laws.{NoRiderFault}

-- the class of one record under some edition and under the bare one: the same, or a rider is unknown
data Bared : Class → Class → Type 0 where
  same : (c : Class) → Bared c c
  rider : (x : Rider) → Bared (class.Rider x) class.Unknown

bared_level : (l : Option Level) (c : ℕ) (formed : Bool) → Bared (by_level l c formed) class.Unknown
bared_level None c formed = same class.Unknown
bared_level (Some v) c formed = rider (record { code = c; level = v; formed = formed })

module _ (m : Meaning) (line : List ℕ) where
  bared_kind : (c : ℕ) (o : Option Kind) → Bared (class_by m c o line) (class_by bare c o line)
  bared_kind c None = bared_level (m.level c) c (m.formed c line)
  bared_kind c (Some k) = same (class_by m c (Some k) line)

  bared_code : (o : Option ℕ) → Bared (class_in m o line) (class_in bare o line)
  bared_code None = same class.BadCode
  bared_code (Some c) = bared_kind c (kind_of c)

  bared : Bared (class_of m line) (class_of bare line)
  bared = bared_code (code_in line)

-- record n at a state, and two ways to go on behind it that agree where the first comes to no rider fault
module _ (mode : Mode) (n : ℕ) (s : State) (go plain : State → Result End FileFault) (on : (t : State) → NoRiderFault (go t) → plain t ≡ go t) where
  -- one step for both
  agree_then : (o : Result State Cause) → NoRiderFault (then_on o n go) → then_on o n plain ≡ then_on o n go
  agree_then (Ok t) h = on t h
  agree_then (Err c) h = refl

  -- a rider against an unknown record, by what the rider's tests come to: a rider that passes leaves the same state
  agree_rider : (begins seated formed : Bool)
      → NoRiderFault (then_on (first ((begins, cause.Order) ∷ (seated, cause.RiderLevel) ∷ (formed, cause.RiderIllFormed) ∷ []) s) n go)
      → then_on (first ((begins, cause.Order) ∷ []) s) n plain
      ≡ then_on (first ((begins, cause.Order) ∷ (seated, cause.RiderLevel) ∷ (formed, cause.RiderIllFormed) ∷ []) s) n go
  agree_rider false seated formed h = refl
  agree_rider true false formed h = absurd (true≢false h)
  agree_rider true true false h = absurd (true≢false h)
  agree_rider true true true h = on s h

  agree_class : (c d : Class) → Bared c d → NoRiderFault (then_on (step mode s c) n go) → then_on (step mode s d) n plain ≡ then_on (step mode s c) n go
  agree_class _ _ (same c) h = agree_then (step mode s c) h
  agree_class _ _ (rider x) h = agree_rider (begun s.place) (sits s.place x.level) x.formed h

  -- and record 50,001 is refused under both
  agree_one : (c d : Class) → Bared c d → (few : Bool)
      → NoRiderFault (cond few (then_on (step mode s c) n go) (at_record n cause.TooMany))
      → cond few (then_on (step mode s d) n plain) (at_record n cause.TooMany) ≡ cond few (then_on (step mode s c) n go) (at_record n cause.TooMany)
  agree_one c d x true h = agree_class c d x h
  agree_one c d x false h = refl

module _ (mode : Mode) (m : Meaning) where
  -- by the slots, at one state under both
  agree : (ss : List Slot) (n : ℕ) (s : State) → NoRiderFault (judge mode m n s ss) → judge mode bare n s ss ≡ judge mode m n s ss
  agree [] n s h = refl
  agree (broken ∷ ss) n s h = refl
  agree (whole r ∷ ss) n s h =
      agree_one mode n s (λ t. judge mode m (suc n) t ss) (λ t. judge mode bare (suc n) t ss) (agree ss (suc n)) (class_of m r) (class_of bare r) (bared m r) (leb n 50000) h

pub bare_agrees : (mode : Mode) (m : Meaning) (bs : List ℕ) → NoRiderFault (check_of mode m bs) → check_of mode bare bs ≡ check_of mode m bs
bare_agrees mode m bs h = agree mode m (slots bs) 1 begin h
