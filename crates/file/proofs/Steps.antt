-- The machine over a first slot and those behind it, by what reading that slot's line comes to.
use Rattle.std.proofs.Common.{◌≡◌, ℕ, suc, Bool, true, false, cond, leb, List, ◌∷◌, Ok, Err, Result, refl}
use Rattle.field.specs.Chains.{then}
use Rattle.record.specs.declared.fields.End.{End}
use Rattle.record.specs.Editions.{Meaning}
use Rattle.manual.specs.declared.faults.Cause.{Cause}
use Rattle.manual.specs.declared.faults.Cause.TheVariants.{TooMany}
use Rattle.manual.specs.declared.faults.FileFault.{FileFault}
use Rattle.manual.specs.Judging.{Mode, State, slot_step, then_on, at_record, judge}
use Rattle.manual.specs.Slots.{Slot}
use Rattle.file.specs.Judges.{read_step}
use Rattle.file.specs.Numbering.{numbered}

by_step : (o : Result State Cause) (n : ℕ) (go : State → Result End FileFault) → then_on o n go ≡ then (numbered n o) go
by_step (Ok t) n go = refl
by_step (Err c) n go = refl

by_few : (b : Bool) (n : ℕ) (o : Result State Cause) (go : State → Result End FileFault)
    → cond b (then_on o n go) (at_record n TooMany) ≡ then (cond b (numbered n o) (at_record n TooMany)) go
by_few true n o go = by_step o n go
by_few false n o go = refl

pub judge_next : (mode : Mode) (m : Meaning) (n : ℕ) (s : State) (x : Slot) (xs : List Slot) → judge mode m n s (x ∷ xs) ≡ then (read_step mode m n s x) (λ t. judge mode m (suc n) t xs)
judge_next mode m n s x xs = by_few (leb n 50000) n (slot_step mode m s x) (λ t. judge mode m (suc n) t xs)
