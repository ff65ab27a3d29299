-- Checking twins: the judge is a run over the records left, and that run depends on what they have in common alone.
use Rattle.std.proofs.Common.{◌≡◌, ℕ, suc, ◌+◌, Bool, true, false, cond, leb, List, [], ◌∷◌, length, Some, None, Ok, Err, Option, Result, sym, refl, ap, ◌∙◌, subst, subst₂, inr, arith}
use Rattle.std.proofs.lemmas.Bool.{cond-true, false≢true}
use Rattle.record.specs.declared.kinds.Kind.{Kind}
use Rattle.record.specs.declared.kinds.Kind.TheVariants as kind
use Rattle.record.specs.declared.fields.Core.{Core}
use Rattle.record.specs.declared.fields.End.{End}
use Rattle.record.specs.declared.fields.Field.{Field}
use Rattle.record.specs.declared.editions.Level.{Level}
use Rattle.record.specs.declared.classes.Class.{Class}
use Rattle.record.specs.declared.classes.Class.TheVariants as class
use Rattle.record.specs.Kinds.{kind_of}
use Rattle.record.specs.Codes.{code_in}
use Rattle.record.specs.Classes.{by_level, class_by, class_in, class_of}
use Rattle.record.specs.Editions.{Meaning}
use Rattle.record.proofs.ClassLaws.{laws}
use Rattle.manual.specs.declared.faults.Cause.{Cause}
use Rattle.manual.specs.declared.faults.Cause.TheVariants as cause
use Rattle.manual.specs.declared.faults.FileFault.{FileFault}
use Rattle.manual.specs.Slots.{Slot, whole, broken, slots, front}
use Rattle.manual.specs.Judging.{Mode, State, begun, place_after, moved, core_tests, core_after, tests, first, step, ended, at_record, then_on, slot_step, begin, judge, check_of}
use Rattle.manual.proofs.Steps.{passed}
use Rattle.report.specs.Listing.{records_in}
use Rattle.twins.specs.Twins.{Passes, spare_code, is_spare, Twins, Left, numbered, left_from, left, FollowIn}
use Rattle.twins.specs.Agreeing.{Each, none, more, Agree, both_ok, both_err, Few}
use Rattle.twins.proofs.Aligning.{cut_short, Blind, ends_alike}
use Rattle.twins.proofs.Levels.{Beside, beside}

-- The class of a record does not depend on reserve positions.
pub class_blind : (m : Meaning) → Blind (class_of m)
class_blind m r k i b w e past within t = (laws.reserve m k r w e i b past within t).1

-- A record of a spare code is unknown to an edition that knows no spare code.
unknown_by : (m : Meaning) (r : List ℕ) (c : ℕ) (o : Option Kind) (l : Option Level) → o ≡ None → l ≡ None → kind_of c ≡ o → m.level c ≡ l → class_by m c (kind_of c) r ≡ class.Unknown
unknown_by m r c o l p q e f = ap (λ x. class_by m c x r) (e ∙ p) ∙ ap (λ x. by_level x c (m.formed c r)) (f ∙ q)

pub spare_unknown : (spare : ℕ → Bool) (m : Meaning) → Passes spare m → (r : List ℕ) → is_spare spare r ≡ true → class_of m r ≡ class.Unknown
spare_unknown spare m p r h = by (code_in r) h
  where
    by : (o : Option ℕ) → spare_code spare o ≡ true → class_in m o r ≡ class.Unknown
    by None h = absurd (false≢true h)
    by (Some c) h = unknown_by m r c None None refl refl (p.no_core c h) (p.not_known c h)

-- Behind a record that passed, the file has begun.
begun_after : (k : Kind) → begun (place_after k) ≡ true
begun_after kind.Start = refl
begun_after kind.Opening = refl
begun_after kind.Deposit = refl
begun_after kind.Payment = refl
begun_after kind.Deduction = refl
begun_after kind.ExtraReference = refl
begun_after kind.NegativeReference = refl
begun_after kind.Information = refl
begun_after kind.Name = refl
begun_after kind.AddressOne = refl
begun_after kind.AddressTwo = refl
begun_after kind.CompanyNumber = refl
begun_after kind.End = refl

module _ (mode : Mode) where
  core_begun : (s t : State) (k : Kind) (read : Result Core Field) → first (core_tests mode s k read) (core_after mode s k read) ≡ Ok t → begun t.place ≡ true
  core_begun s t k (Ok c) e =
      let p = passed (core_tests mode s k (Ok c)) (moved mode s k c) t e in
      sym (ap (λ (x : State). begun x.place) p.1) ∙ begun_after k
  core_begun s t k (Err f) e =
      let p = passed (core_tests mode s k (Err f)) s t e in absurd (false≢true p.0.1.0)

  step_begun : (s t : State) (c : Class) → step mode s c ≡ Ok t → begun t.place ≡ true
  step_begun s t class.BadCode e = let p = passed (tests mode s class.BadCode) s t e in absurd (false≢true p.0.0)
  step_begun s t (class.Core k read) e = core_begun s t k read e
  step_begun s t (class.Rider x) e =
      let p = passed (tests mode s (class.Rider x)) s t e in sym (ap (λ (y : State). begun y.place) p.1) ∙ p.0.0
  step_begun s t class.Unknown e =
      let p = passed (tests mode s class.Unknown) s t e in sym (ap (λ (y : State). begun y.place) p.1) ∙ p.0.0

  -- and an unknown record passes there
  unknown_on : (s : State) → begun s.place ≡ true → step mode s class.Unknown ≡ Ok s
  unknown_on s h = cond-true (begun s.place) _ _ h

-- going on is the same where it is the same behind the state that a step comes to
on_same : (o : Result State Cause) (n : ℕ) (go went : State → Result End FileFault) → ((t : State) → o ≡ Ok t → go t ≡ went t) → then_on o n go ≡ then_on o n went
on_same (Ok t) n go went h = h t refl
on_same (Err c) n go went h = refl

module _ (mode : Mode) (m : Meaning) where
  -- THE JUDGE WITH NO LIMIT to the number of records. Where 50,001 records are not the answer, it answers the same.
  abbrev free : ℕ → State → List Slot → Result End FileFault
  free n s [] = cond (ended s.place) (Ok s.counts) (at_record n cause.Unfinished)
  free n s (x ∷ xs) = then_on (slot_step mode m s x) n (λ t. free (suc n) t xs)

  few_on : (o : Result State Cause) (n : ℕ) (go went : State → Result End FileFault) → ((t : State) → Few (go t) → go t ≡ went t) → Few (then_on o n go) → then_on o n go ≡ then_on o n went
  few_on (Ok t) n go went h f = h t f
  few_on (Err c) n go went h f = refl

  few_one : (b : Bool) (n : ℕ) (r q : Result End FileFault) → (Few r → r ≡ q) → Few (cond b r (at_record n cause.TooMany)) → cond b r (at_record n cause.TooMany) ≡ q
  few_one true n r q h f = h f
  few_one false n r q h f = absurd (f refl)

  free_few : (ss : List Slot) (n : ℕ) (s : State) → Few (judge mode m n s ss) → judge mode m n s ss ≡ free n s ss
  free_few [] n s f = refl
  free_few (x ∷ xs) n s f =
      few_one (leb n 50000) n (then_on (slot_step mode m s x) n (λ t. judge mode m (suc n) t xs)) (free n s (x ∷ xs))
      (few_on (slot_step mode m s x) n (λ t. judge mode m (suc n) t xs) (λ t. free (suc n) t xs) (free_few xs (suc n))) f

  -- A RUN over the records left, then the number of the place behind the whole records, and whether bytes are left there.
  abbrev closing : State → ℕ → Bool → Result End FileFault
  closing s n true = at_record n cause.Broken
  closing s n false = cond (ended s.place) (Ok s.counts) (at_record n cause.Unfinished)

  abbrev run : State → List Left → ℕ → Bool → Result End FileFault
  run s [] end short = closing s end short
  run s (l ∷ ls) end short = then_on (step mode s (class_of m l.bytes)) l.number (λ t. run t ls end short)

  module _ (spare : ℕ → Bool) (pass : Passes spare m) where
    run_later : (ss : List Slot) (n : ℕ) (s : State) → begun s.place ≡ true → free n s ss ≡ run s (left_from spare n (front ss)) (length (front ss) + n) (cut_short ss)
    run_later [] n s h = ap (λ x. cond (ended s.place) (Ok s.counts) (at_record x cause.Unfinished)) (omega arith)
    run_later (broken ∷ ss) n s h = ap (λ x. at_record x cause.Broken) (omega arith)
    run_later (whole r ∷ ss) n s h =
        by (is_spare spare r) refl (run_later ss (suc n))
        ∙ ap (λ x. run s (cond (is_spare spare r) (left_from spare (suc n) (front ss)) (numbered n r ∷ left_from spare (suc n) (front ss))) x (cut_short ss)) (omega arith)
      where
        by : (b : Bool) → is_spare spare r ≡ b
            → ((t : State) → begun t.place ≡ true → free (suc n) t ss ≡ run t (left_from spare (suc n) (front ss)) (length (front ss) + suc n) (cut_short ss))
            → then_on (step mode s (class_of m r)) n (λ t. free (suc n) t ss)
            ≡ run s (cond b (left_from spare (suc n) (front ss)) (numbered n r ∷ left_from spare (suc n) (front ss))) (length (front ss) + suc n) (cut_short ss)
        by true e on =
            ap (λ c. then_on (step mode s c) n (λ t. free (suc n) t ss)) (spare_unknown spare m pass r e)
            ∙ ap (λ o. then_on o n (λ t. free (suc n) t ss)) (unknown_on mode s h)
            ∙ on s h
        by false e on = on_same (step mode s (class_of m r)) n _ _ (λ t p. on t (step_begun mode s t (class_of m r) p))

    run_first : (ss : List Slot) → free 1 begin ss ≡ run begin (left spare (front ss)) (length (front ss) + 1) (cut_short ss)
    run_first [] = refl
    run_first (broken ∷ ss) = refl
    run_first (whole r ∷ ss) =
        on_same (step mode begin (class_of m r)) 1 _ _ (λ t p. run_later ss 2 t (step_begun mode begin t (class_of m r) p))
        ∙ ap (λ x. run begin (numbered 1 r ∷ left_from spare 2 (front ss)) x (cut_short ss)) (omega arith)

  -- Two runs.
  module _ (F : ℕ → ℕ → Type 0) where
    on_agree : (o q : Result State Cause) (i j : ℕ) (go went : State → Result End FileFault) → o ≡ q → F i j
        → ((t : State) → Agree F (go t) (went t)) → Agree F (then_on o i go) (then_on q j went)
    on_agree o q i j go went e f h = subst (λ x. Agree F (then_on o i go) (then_on x j went)) e (by o)
      where
        by : (o : Result State Cause) → Agree F (then_on o i go) (then_on o j went)
        by (Ok t) = h t
        by (Err c) = both_err c i j f

    finish_agree : (b : Bool) (c : End) (i j : ℕ) → F i j → Agree F (cond b (Ok c) (at_record i cause.Unfinished)) (cond b (Ok c) (at_record j cause.Unfinished))
    finish_agree true c i j f = both_ok c
    finish_agree false c i j f = both_err cause.Unfinished i j f

    closing_agree : (s : State) (i j : ℕ) (short : Bool) → F i j → Agree F (closing s i short) (closing s j short)
    closing_agree s i j true f = both_err cause.Broken i j f
    closing_agree s i j false f = finish_agree (ended s.place) s.counts i j f

    run_agree : (xs ys : List Left) → Each (Beside (class_of m) F) xs ys → (i j : ℕ) → F i j → (short : Bool) (s : State) → Agree F (run s xs i short) (run s ys j short)
    run_agree _ _ none i j f short s = closing_agree s i j short f
    run_agree _ _ (more x y xs ys b h) i j f short s =
        on_agree (step mode s (class_of m x.bytes)) (step mode s (class_of m y.bytes)) x.number y.number (λ t. run t xs i short) (λ t. run t ys j short)
        (ap (step mode s) b.read) b.number (run_agree xs ys h i j f short)

pub checks : (spare : ℕ → Bool) (mode : Mode) (m : Meaning) (a b : List ℕ) → Passes spare m → Twins spare a b
    → Few (check_of mode m a) → Few (check_of mode m b) → Agree (FollowIn spare a b) (check_of mode m a) (check_of mode m b)
checks spare mode m a b p t f g =
    let F : ℕ → ℕ → Type 0 = FollowIn spare a b in
    let x : check_of mode m a ≡ run mode m begin (left spare (records_in a)) (length (records_in a) + 1) (cut_short (slots a)) =
    free_few mode m (slots a) 1 begin f ∙ run_first mode m spare p (slots a) in
    let y : check_of mode m b ≡ run mode m begin (left spare (records_in b)) (length (records_in b) + 1) (cut_short (slots b)) =
    free_few mode m (slots b) 1 begin g ∙ run_first mode m spare p (slots b) in
    subst₂ (Agree F) (sym x) (sym y)
    (subst (λ e. Agree F (run mode m begin (left spare (records_in a)) (length (records_in a) + 1) (cut_short (slots a))) (run mode m begin (left spare (records_in b)) (length (records_in b) + 1) e))
    (ends_alike spare a b t)
    (run_agree mode m F (left spare (records_in a)) (left spare (records_in b)) (beside spare (class_of m) (class_blind m) a b t)
    (length (records_in a) + 1) (length (records_in b) + 1) (inr (refl, refl)) (cut_short (slots a)) begin))
