-- A refusal names a record from the first to one past the whole records.
use Rattle.std.proofs.Common.{◌≡◌, ℕ, suc, ◌+◌, ◌≤◌, leb, List, [], ◌∷◌, Ok, Err, Result, subst, arith}
use Rattle.std.proofs.lemmas.Bool.{cond_both}
use Rattle.record.specs.declared.fields.End.{End}
use Rattle.record.specs.Editions.{Meaning}
use Rattle.manual.specs.declared.faults.Cause.{Cause}
use Rattle.manual.specs.declared.faults.FileFault.{FileFault}
use Rattle.manual.specs.Slots.{Slot, whole, broken, slots, wholes}
use Rattle.manual.specs.Laws.{NotBefore}
use Rattle.manual.specs.Judging.{Mode, State, slot_step, then_on, ended, begin, judge, check_of}

-- a refusal, if it is one, names a record from low to high
abbrev Named : ℕ → ℕ → Result End FileFault → Type 0
Named low high (Ok e) = Unit {0}
Named low high (Err f) = (low ≤ f.number) × (f.number ≤ high)

-- what holds from the next record on, with one whole record less ahead, holds from this one
later : (n w : ℕ) (r : Result End FileFault) → Named (suc n) (suc n + w) r → Named n (n + suc w) r
later n w (Ok e) h = tt
later n w (Err f) h = (omega (arith, h.0), omega (arith, h.1))

-- a step that fails is refused at this record; behind one that passes, what goes on answers
stepped : (n w : ℕ) (o : Result State Cause) (go : State → Result End FileFault) → ((t : State) → Named (suc n) (suc n + w) (go t)) → Named n (n + suc w) (then_on o n go)
stepped n w (Ok t) go h = later n w (go t) (h t)
stepped n w (Err c) go h = (omega arith, omega arith)

module _ (mode : Mode) (m : Meaning) where
  -- from record n on: the end of the slots, bytes that are no record and a record too many are refused at n
  named : (ss : List Slot) (n : ℕ) (s : State) → Named n (n + wholes ss) (judge mode m n s ss)
  named [] n s = cond_both (ended s.place) _ _ (Named n (n + 0)) (λ e. tt) (λ e. (omega arith, omega arith))
  named (broken ∷ ss) n s = cond_both (leb n 50000) _ _ (Named n (n + 0)) (λ e. (omega arith, omega arith)) (λ e. (omega arith, omega arith))
  named (whole r ∷ ss) n s =
      cond_both (leb n 50000) _ _ (Named n (n + suc (wholes ss)))
      (λ e. stepped n (wholes ss) (slot_step mode m s (whole r)) (λ t. judge mode m (suc n) t ss) (named ss (suc n)))
      (λ e. (omega arith, omega arith))

-- no refusal names a record before the one that judging starts at
lower : (low high : ℕ) (r : Result End FileFault) → Named low high r → NotBefore low r
lower low high (Ok e) h = tt
lower low high (Err f) h = h.0

pub not-before : (mode : Mode) (m : Meaning) (ss : List Slot) (n : ℕ) (s : State) → NotBefore n (judge mode m n s ss)
not-before mode m ss n s = lower n (n + wholes ss) (judge mode m n s ss) (named mode m ss n s)

pub number_within : (mode : Mode) (m : Meaning) (bs : List ℕ) (f : FileFault) → check_of mode m bs ≡ Err f → (1 ≤ f.number) × (f.number ≤ wholes (slots bs) + 1)
number_within mode m bs f e =
    let h : Named 1 (1 + wholes (slots bs)) (Err f) = subst (Named 1 (1 + wholes (slots bs))) e (named mode m (slots bs) 1 begin) in
    (h.0, omega (arith, h.1))
