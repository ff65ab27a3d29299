-- Judging beside judging that asks less of payers, record by record: the states differ in the payers' rows alone, the tests in the causes that payers give.
use Rattle.std.proofs.Common.{◌≡◌, ℕ, suc, ◌≤◌, Bool, true, false, cond, eqb, leb, ◌⊎◌, List, [], ◌∷◌, length, Ok, Err, Result, sym, refl, ap, subst, inl, inr, arith}
use Rattle.std.proofs.lemmas.Bool.{false≢true, leb-true, le-leb}
use Rattle.record.specs.declared.kinds.Kind.{Kind}
use Rattle.record.specs.declared.fields.Core.{Core}
use Rattle.record.specs.declared.fields.Core.TheVariants as core
use Rattle.record.specs.declared.fields.End.{End}
use Rattle.record.specs.declared.fields.Field.{Field}
use Rattle.record.specs.declared.classes.Rider.{Rider}
use Rattle.record.specs.declared.classes.Class.{Class}
use Rattle.record.specs.declared.classes.Class.TheVariants as class
use Rattle.record.specs.Classes.{class_of}
use Rattle.record.specs.Editions.{Meaning}
use Rattle.sums.specs.declared.Row.{Row}
use Rattle.sums.specs.Table.{entered}
use Rattle.manual.specs.declared.faults.Cause.{Cause}
use Rattle.manual.specs.declared.faults.Cause.TheVariants as cause
use Rattle.manual.specs.declared.faults.FileFault.{FileFault}
use Rattle.manual.specs.Slots.{Slot, whole, broken, slots}
use Rattle.manual.specs.Judging.{Mode, State, payers_after, room, none_owes, content, moved, core_tests, tests, first, step, begin, at_record, then_on, slot_step, judge, check_of}
use Rattle.manual.proofs.Numbers.{not-before}
use Rattle.manual.proofs.Steps.{passed}
use Rattle.manual.specs.Laws.{of_payers, NotBefore, judging, not_judging}

-- What riders and unknown records leave.

pub unknown_passes : (mode : Mode) (s t : State) → step mode s class.Unknown ≡ Ok t → t ≡ s
unknown_passes mode s t e = sym (passed (tests mode s class.Unknown) s t e).1

pub rider_passes : (mode : Mode) (s t : State) (x : Rider) → step mode s (class.Rider x) ≡ Ok t → t ≡ s
rider_passes mode s t x e = sym (passed (tests mode s (class.Rider x)) s t e).1

-- Tests that ask less, and what they make of a step.

-- the second tests are the first ones, but that those of some causes may pass where the first fail
data Laxer (may : Cause → Type 0) : List (Bool × Cause) → List (Bool × Cause) → Type 0 where
  none : Laxer may [] []
  same : (t : Bool × Cause) (ts us : List (Bool × Cause)) → Laxer may ts us → Laxer may (t ∷ ts) (t ∷ us)
  lax : (b d : Bool) (c : Cause) (ts us : List (Bool × Cause)) → may c → (b ≡ true → d ≡ true) → Laxer may ts us → Laxer may ((b, c) ∷ ts) ((d, c) ∷ us)

-- a step and one by laxer tests: both go on or both stop by one cause, or the first alone stops, by a cause of those
data Beside (may : Cause → Type 0) (onto : State → State) : Result State Cause → Result State Cause → Type 0 where
  on : (t : State) → Beside may onto (Ok t) (Ok (onto t))
  stopped : (c : Cause) → Beside may onto (Err c) (Err c)
  alone : (c : Cause) (q : Result State Cause) → may c → Beside may onto (Err c) q

module _ (may : Cause → Type 0) where
  all_same : (ts : List (Bool × Cause)) → Laxer may ts ts
  all_same [] = none
  all_same (t ∷ ts) = same t ts ts (all_same ts)

  -- laxer tests give a step beside
  first_beside : (onto : State → State) (ts us : List (Bool × Cause)) (s : State) → Laxer may ts us → Beside may onto (first ts s) (first us (onto s))
  first_beside onto _ _ s none = on s
  first_beside onto _ _ s (same t ts us l) =
      elim t.0 as (λ b. Beside may onto (cond b (first ts s) (Err t.1)) (cond b (first us (onto s)) (Err t.1))) [
        | true ↦ first_beside onto ts us s l
        | false ↦ stopped t.1
      ]
  first_beside onto _ _ s (lax b d c ts us p h l) = by b d h (first_beside onto ts us s l)
    where
      by : (b d : Bool) → (b ≡ true → d ≡ true) → Beside may onto (first ts s) (first us (onto s))
          → Beside may onto (cond b (first ts s) (Err c)) (cond d (first us (onto s)) (Err c))
      by true true h rest = rest
      by true false h rest = absurd (false≢true (h refl))
      by false d h rest = alone c _ p

-- Two machines at one record.

-- the state with other payers
abbrev put : State → List (Row ℕ) → State
put s rows = record {
  place = s.place;
  counts = s.counts;
  section = record {
    currency = s.section.currency;
    records = s.section.records;
    payments = s.section.payments;
    plus = s.section.plus;
    minus = s.section.minus;
    rows = rows;
  };
  item = s.item;
}

-- the second mode keeps this of the first one's payers, and asks less of them, by some causes
record Less (may : Cause → Type 0) (keep : List (Row ℕ) → List (Row ℕ)) (one two : Mode) : Type 0 where
  -- what is kept goes along with a new section, and with each entry
  empty : keep [] ≡ []
  entry : (rows : List (Row ℕ)) (p a t : ℕ) → keep (payers_after one rows p a t) ≡ payers_after two (keep rows) p a t
  -- the two tests of payers are laxer
  rooms : (rows : List (Row ℕ)) (p a t : ℕ) → Laxer may ((room one rows p a t, cause.NoPlace) ∷ []) ((room two (keep rows) p a t, cause.NoPlace) ∷ [])
  owing : (rows : List (Row ℕ)) (ts : List (Bool × Cause)) → Laxer may ((none_owes one rows, cause.PayerOwes) ∷ ts) ((none_owes two (keep rows), cause.PayerOwes) ∷ ts)

module _ (may : Cause → Type 0) (keep : List (Row ℕ) → List (Row ℕ)) (one two : Mode) (less : Less may keep one two) where
  -- the state of the second machine
  abbrev onto : State → State
  onto s = put s (keep s.section.rows)

  module _ (s : State) where
    -- the tests of a core record's fields are laxer
    lax_content : (c : Core) → Laxer may (content one s c) (content two (onto s) c)
    lax_content (core.Start x) = none
    lax_content (core.Opening x) = none
    lax_content (core.Deposit d) = less.owing s.section.rows _
    lax_content (core.Payment t) = less.rooms s.section.rows t.payer t.amount 0
    lax_content (core.Deduction t) = less.rooms s.section.rows t.payer 0 t.amount
    lax_content (core.ExtraReference t) = all_same may _
    lax_content (core.NegativeReference t) = all_same may _
    lax_content core.Information = all_same may _
    lax_content core.Name = none
    lax_content core.AddressOne = none
    lax_content core.AddressTwo = none
    lax_content (core.CompanyNumber n) = none
    lax_content (core.End e) = all_same may _

    -- what a core record does to the rest of the state does not depend on the payers
    moved_onto : (k : Kind) (c : Core) → onto (moved one s k c) ≡ moved two (onto s) k c
    moved_onto k (core.Start x) = refl
    moved_onto k (core.Opening x) = ap (put (moved one s k (core.Opening x))) less.empty
    moved_onto k (core.Deposit d) = refl
    moved_onto k (core.Payment t) = ap (put (moved one s k (core.Payment t))) (less.entry s.section.rows t.payer t.amount 0)
    moved_onto k (core.Deduction t) = ap (put (moved one s k (core.Deduction t))) (less.entry s.section.rows t.payer 0 t.amount)
    moved_onto k (core.ExtraReference t) = refl
    moved_onto k (core.NegativeReference t) = refl
    moved_onto k core.Information = refl
    moved_onto k core.Name = refl
    moved_onto k core.AddressOne = refl
    moved_onto k core.AddressTwo = refl
    moved_onto k (core.CompanyNumber n) = refl
    moved_onto k (core.End e) = refl

    core_beside : (k : Kind) (read : Result Core Field) → Beside may onto (step one s (class.Core k read)) (step two (onto s) (class.Core k read))
    core_beside k (Ok c) =
        let us : List (Bool × Cause) = core_tests two (onto s) k (Ok c) in
        subst (λ t. Beside may onto (step one s (class.Core k (Ok c))) (first us t)) (moved_onto k c)
        (first_beside may onto (core_tests one s k (Ok c)) us (moved one s k c) (same _ _ _ (lax_content c)))
    core_beside k (Err f) = first_beside may onto _ _ s (all_same may (core_tests one s k (Err f)))

    step_beside : (c : Class) → Beside may onto (step one s c) (step two (onto s) c)
    step_beside class.BadCode = stopped _
    step_beside (class.Core k read) = core_beside k read
    step_beside (class.Rider x) = first_beside may onto _ _ s (all_same may (tests one s (class.Rider x)))
    step_beside class.Unknown = first_beside may onto _ _ s (all_same may (tests one s class.Unknown))

    slot_beside : (m : Meaning) (x : Slot) → Beside may onto (slot_step one m s x) (slot_step two m (onto s) x)
    slot_beside m broken = stopped _
    slot_beside m (whole r) = step_beside (class_of m r)

  -- Two machines over all slots.

  -- the answers are equal, or the first is a refusal by one of those causes and the second is no refusal before it
  abbrev ButFor : Result End FileFault → Result End FileFault → Type 0
  ButFor a b = (a ≡ b) ⊎ ((f : FileFault) × (a ≡ Err f) × may f.cause × NotBefore f.number b)

  -- the two judges, from any record on and from states that differ only in their payers
  agree : (m : Meaning) (ss : List Slot) (n : ℕ) (s : State) → ButFor (judge one m n s ss) (judge two m n (onto s) ss)
  agree m [] n s = inl refl
  agree m (x ∷ xs) n s = by (leb n 50000) _ _ (slot_beside s m x) (not-before two m (x ∷ xs) n (onto s)) (agree m xs (suc n))
    where
      go : State → Result End FileFault
      go t = judge one m (suc n) t xs

      go_lax : State → Result End FileFault
      go_lax t = judge two m (suc n) t xs

      by : (b : Bool) (r q : Result State Cause) → Beside may onto r q → NotBefore n (cond b (then_on q n go_lax) (at_record n cause.TooMany)) → ((t : State) → ButFor (go t) (go_lax (onto t)))
          → ButFor (cond b (then_on r n go) (at_record n cause.TooMany)) (cond b (then_on q n go_lax) (at_record n cause.TooMany))
      by false r q h late g = inl refl
      by true _ _ (on t) late g = g t
      by true _ _ (stopped c) late g = inl refl
      by true _ _ (alone c q p) late g = inr (record { number = n; cause = c }, refl, p, late)

-- Payers judged, and not: the second machine keeps none.

not-judged : (cap : ℕ) → Less (λ c. of_payers c ≡ true) (λ rows. []) (judging cap) not_judging
not-judged cap = record {
  empty = refl;
  entry = λ rows p a t. refl;
  rooms = λ rows p a t. lax _ _ cause.NoPlace _ _ refl (λ h. refl) none;
  owing = λ rows ts. lax _ _ cause.PayerOwes _ _ refl (λ h. refl) (all_same _ ts);
}

pub payers_only : (cap : ℕ) (m : Meaning) (bs : List ℕ)
    → (check_of (judging cap) m bs ≡ check_of not_judging m bs)
    ⊎ ((f : FileFault) × (check_of (judging cap) m bs ≡ Err f) × (of_payers f.cause ≡ true) × NotBefore f.number (check_of not_judging m bs))
payers_only cap m bs = agree (λ c. of_payers c ≡ true) (λ rows. []) (judging cap) not_judging (not-judged cap) m (slots bs) 1 begin

-- Two tables, of which the second is no shorter: it keeps the same payers.

longer : (rows more : ℕ) → rows ≤ more → Less (λ c. c ≡ cause.NoPlace) (λ table. table) (judging rows) (judging more)
longer rows more le = record {
  empty = refl;
  entry = λ table p a t. refl;
  rooms = λ table p a t. lax _ _ cause.NoPlace _ _ refl (wider (length (entered eqb table p a t))) none;
  owing = λ table ts. all_same _ _;
}
  where
    wider : (n : ℕ) → leb n rows ≡ true → leb n more ≡ true
    wider n h = le-leb n more (omega (arith, leb-true n rows h))

pub more_rows : (rows more : ℕ) (m : Meaning) (bs : List ℕ) → rows ≤ more
    → (check_of (judging rows) m bs ≡ check_of (judging more) m bs)
    ⊎ ((f : FileFault) × (check_of (judging rows) m bs ≡ Err f) × (f.cause ≡ cause.NoPlace) × NotBefore f.number (check_of (judging more) m bs))
more_rows rows more m bs le = agree (λ c. c ≡ cause.NoPlace) (λ table. table) (judging rows) (judging more) (longer rows more le) m (slots bs) 1 begin
