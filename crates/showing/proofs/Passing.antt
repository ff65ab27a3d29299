-- Which entry is read, and that it is one that opening read.
use Rattle.std.proofs.Common.{◌≡◌, ℕ, zero, suc, ◌-◌, ◌<◌, ◌≤◌, Bool, true, false, cond, leb, List, [], ◌∷◌, length, get_or, drop, Some, None, Ok, Err, Option, Result, sym, refl, ap, ◌∙◌, subst, arith}
use Rattle.std.specs.List.{between}
use Rattle.std.proofs.lemmas.Bool.{cond-true, cond-false, and_parts, leb-true}
use Rattle.field.specs.Bytes.{is_text, every}
use Rattle.record.specs.declared.kinds.Kind.{Kind}
use Rattle.record.specs.declared.fields.Core.{Core}
use Rattle.record.specs.declared.fields.End.{End}
use Rattle.record.specs.declared.fields.Field.{Field}
use Rattle.record.specs.declared.classes.Class.TheVariants as class
use Rattle.record.specs.declared.faults.RecordFault.TheVariants.{Layout}
use Rattle.record.specs.Layouts.{read_core}
use Rattle.record.specs.Codes.{code_in}
use Rattle.record.specs.Classes.{class_of}
use Rattle.record.specs.Editions.{Meaning, bare}
use Rattle.manual.specs.declared.faults.Cause.{Cause}
use Rattle.manual.specs.declared.faults.Cause.TheVariants as cause
use Rattle.manual.specs.declared.faults.FileFault.{FileFault}
use Rattle.manual.specs.Slots.{whole, broken}
use Rattle.manual.specs.Judging.{Mode, State, in_order, slot_step, step, then_on, begin, judge}
use Rattle.manual.specs.Laws.{not_judging}
use Rattle.shelf.specs.Records.{Whole}
use Rattle.shelf.proofs.Flat.{whole_take, whole_drop}
use Rattle.filing.specs.declared.standing.Opened.{Opened}
use Rattle.filing.specs.Entries.{entry_slots, deposits_from, no_deposits, totals_of, reads}
use Rattle.filing.specs.Volumes.{Records, entries_of}
use Rattle.filing.specs.Laws.{Good, All-good}
use Rattle.filing.proofs.Results.{then_ok, cond_ok}
use Rattle.volume.specs.Tokens.{found_on}
use Rattle.volume.specs.Taking.{numbered_in}
use Rattle.volume.proofs.Opened.{laws}
use Rattle.report.specs.Rows.{rows_of}
use Rattle.report.specs.Faults.{first_fault}
use Rattle.report.proofs.Blanked.{core_class}
use Rattle.report.proofs.Same.{All-whole}
use Rattle.report.proofs.Copying.{Readable, All-readable, copying, as_many}
use Rattle.report.specs.Copies.{plain_records}
use Rattle.filing.specs.declared.faults.VolumeFault.TheVariants.{NoEntry, Rider as OfRider}
use Rattle.showing.specs.Showing.{unless_wrong, surveyed, unless_rider, passed}

-- Where the walk passes.

survey_ok : (o : Option FileFault) (n needed : ℕ) → Ok needed ≡ unless_wrong o n → (o ≡ None) × (needed ≡ n)
survey_ok None n needed h = (refl, cc)
survey_ok (Some f) n needed h = let z : ◌≡◌ {A = ℕ} 0 1 = cc in absurd (omega arith)

survey_err : (o : Option FileFault) (n : ℕ) (f : FileFault) → Err f ≡ unless_wrong o n → o ≡ Some f
survey_err None n f h = let z : ◌≡◌ {A = ℕ} 0 1 = cc in absurd (omega arith)
survey_err (Some g) n f h = let same : f ≡ g = cc in sym (ap Some same)

rider_ok : (k : ℕ) (o : Option FileFault) (e r : Records) → unless_rider k o e ≡ Ok r → (e ≡ r) × (o ≡ None)
rider_ok k None e r h = (cc, refl)
rider_ok k (Some f) e r h = let z : ◌≡◌ {A = ℕ} 0 1 = cc in absurd (omega arith)

module _ (m : Meaning) (k : ℕ) (es : List Records) where
  pub none_passes : numbered_in k (length es) ≡ false → passed m k es ≡ Err (NoEntry k)
  none_passes h = cond-false _ _ _ h

  module _ (some : numbered_in k (length es) ≡ true) (e : Records) (is : e ≡ get_or es (k - 1) []) where
    passes : passed m k es ≡ unless_rider k (first_fault m e) e
    passes = cond-true _ _ _ some ∙ ap (λ x. unless_rider k (first_fault m x) x) (sym is)

    pub wrong_stops : (f : FileFault) → Err f ≡ surveyed m e → passed m k es ≡ Err (OfRider k f)
    wrong_stops f h = passes ∙ ap (λ o. unless_rider k o e) (survey_err (first_fault m e) (length (plain_records m e)) f h)

    pub right_passes : (n : ℕ) → Ok n ≡ surveyed m e → passed m k es ≡ Ok e
    right_passes n h = passes ∙ ap (λ o. unless_rider k o e) (survey_ok (first_fault m e) (length (plain_records m e)) n h).0

    pub rows_counted : All-whole e → All-readable e → (n : ℕ) → Ok n ≡ surveyed m e → n ≡ length (rows_of m e)
    rows_counted w d n h = (survey_ok (first_fault m e) (length (plain_records m e)) n h).1 ∙ as_many m e (plain_records m e) (copying m e w d) 1

  -- and back
  pub passed_is : (e : Records) → passed m k es ≡ Ok e → (numbered_in k (length es) ≡ true) × (get_or es (k - 1) [] ≡ e) × (first_fault m (get_or es (k - 1) []) ≡ None)
  passed_is e h =
      let c = cond_ok (numbered_in k (length es)) (unless_rider k (first_fault m (get_or es (k - 1) [])) (get_or es (k - 1) [])) (NoEntry k) e h in
      let r = rider_ok k (first_fault m (get_or es (k - 1) [])) (get_or es (k - 1) []) e c.1 in
      (c.0, r.0, r.1)

-- An entry that was read: its records are whole, and its core records are read.

not_both : {S : Type 0} (b : Bool) (s t : S) (x y : Cause) → cond b (cond false (Ok s) (Err x)) (Err y) ≡ Ok t → ⊥
not_both true s t x y h = let z : ◌≡◌ {A = ℕ} 0 1 = cc in absurd (omega arith)
not_both false s t x y h = let z : ◌≡◌ {A = ℕ} 0 1 = cc in absurd (omega arith)

went_on : (o : Result State Cause) (n : ℕ) (go : State → Result End FileFault) (y : End) → then_on o n go ≡ Ok y → (t : State) × (o ≡ Ok t) × (go t ≡ Ok y)
went_on (Ok t) n go y h = (t, refl, h)
went_on (Err c) n go y h = let z : ◌≡◌ {A = ℕ} 0 1 = cc in absurd (omega arith)

module _ (mode : Mode) (m : Meaning) where
  text_passes : (s t : State) (r : List ℕ) (b : Bool) → slot_step mode m s (cond b (whole r) broken) ≡ Ok t → (b ≡ true) × (step mode s (class_of m r) ≡ Ok t)
  text_passes s t r true h = (refl, h)
  text_passes s t r false h = let z : ◌≡◌ {A = ℕ} 0 1 = cc in absurd (omega arith)

  read_passes : (s t : State) (k : Kind) (o : Result Core Field) → step mode s (class.Core k o) ≡ Ok t → (f : Core) × (o ≡ Ok f)
  read_passes s t k (Ok f) h = (f, refl)
  read_passes s t k (Err f) h = absurd (not_both (in_order s k) s t (cause.Unreadable (Layout f)) cause.Order h)

  each_read : (rs : List (List ℕ)) (n : ℕ) (s : State) (y : End) → judge mode m n s (entry_slots rs) ≡ Ok y → Whole rs → All-whole rs × All-readable rs
  each_read [] n s y h w = (tt, tt)
  each_read (r ∷ rs) n s y h w =
      let few = cond_ok (leb n 50000) _ _ y h in
      let on = went_on _ n (λ t. judge mode m (suc n) t (entry_slots rs)) y few.1 in
      let text = text_passes s on.0 r (every is_text r) on.1 in
      let rest = each_read rs (suc n) on.0 y on.2 w.1 in
      (((w.0, text.0), rest.0), (here text.1, rest.1))
    where
      here : {t : State} → step mode s (class_of m r) ≡ Ok t → Readable r
      here {t} h k g = read_passes s t k (read_core k (between 2 (length r) r)) (ap (step mode s) (sym (core_class m k r (code_in r) g)) ∙ h)

good_at : (es : List Records) (i : ℕ) → i < length es → All-good reads es → Good reads (get_or es i [])
good_at [] i h g = absurd (omega arith)
good_at (e ∷ es) zero h g = g.0
good_at (e ∷ es) (suc i) h g = good_at es i (omega arith) g.1

entry_read : (e : Records) → Good reads e → Whole e → All-whole e × All-readable e
unfolding reads
entry_read e g w =
    let j = then_ok (judge not_judging bare 1 begin (entry_slots e)) (λ x. Ok (totals_of x (deposits_from no_deposits e))) g.totals g.is in
    each_read not_judging bare e 1 begin j.0 j.1 w

module _ (rs : Records) (limit : ℕ) (whole : Whole rs) (o : Opened) (own : found_on rs limit ≡ Ok o) where
  -- an entry of an opened shelf
  pub entry_fine : (k : ℕ) → numbered_in k (length (entries_of rs)) ≡ true → (a b : ℕ) → get_or (entries_of rs) (k - 1) [] ≡ between a b rs
      → All-whole (get_or (entries_of rs) (k - 1) []) × All-readable (get_or (entries_of rs) (k - 1) [])
  entry_fine k some a b is =
      let held = laws.holds reads limit rs o whole own in
      let p = and_parts (leb 1 k) (leb k (length (entries_of rs))) some in
      let low : 1 ≤ k = leb-true 1 k p.0 in
      let high : k ≤ length (entries_of rs) = leb-true k (length (entries_of rs)) p.1 in
      entry_read (get_or (entries_of rs) (k - 1) []) (good_at (entries_of rs) (k - 1) (omega arith) held.good)
      (subst (λ x. Whole x) (sym is) (whole_take (b - a) (drop a rs) (whole_drop a rs whole)))
