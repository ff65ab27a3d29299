-- Cause 7 comes exactly at the record where the payer table is too short, where nothing else is wrong up to there.
use Rattle.std.proofs.Common.{◌≡◌, ℕ, zero, suc, ◌<◌, ◌≤◌, eqb, List, [], ◌∷◌, ◌++◌, length, take, Some, None, Ok, Err, Option, Result, sym, refl, ap, ◌∙◌, subst, inl, inr, arith}
use Rattle.std.specs.List.{between}
use Rattle.field.specs.Chains.{then}
use Rattle.record.specs.declared.kinds.Kind.{Kind}
use Rattle.record.specs.declared.fields.Core.{Core}
use Rattle.record.specs.declared.fields.Core.TheVariants as core
use Rattle.record.specs.declared.fields.Field.{Field}
use Rattle.record.specs.declared.faults.RecordFault.TheVariants.{Code, Layout}
use Rattle.record.specs.Editions.{Meaning}
use Rattle.record.specs.Layouts.{read_core}
use Rattle.record.specs.Laws.{kind_at}
use Rattle.record.specs.Reserve.{used}
use Rattle.sums.specs.Laws.{Exactly, distinct}
use Rattle.manual.specs.declared.faults.Cause.{Cause}
use Rattle.manual.specs.declared.faults.Cause.TheVariants as cause
use Rattle.manual.specs.Slots.{Slot, whole, broken, front, slots}
use Rattle.manual.specs.Judging.{Mode, at_record, check_of}
use Rattle.manual.specs.Laws.{judging}
use Rattle.manual.specs.Manual.{leaf}
use Rattle.manual.specs.Payers.{payers_behind, payers_read, payers_by, payers_from}
use Rattle.manual.specs.Wrong.{come, Has, Crowded, Owing, Unsettled, Miscounted, Wrong, WrongRecord, rank, slot_at, WrongAt, FirstWrong}
use Rattle.manual.specs.Accepting.{TooShort}
use Rattle.manual.proofs.FirstWrongs.{same_cause, first_wrong}
use Rattle.manual.proofs.Knowing.{payers_more}
use Rattle.manual.proofs.Numbers.{number_within}

-- ONE RECORD does to the payers of the open section one of three things.

-- it is a payment or deduction of this payer
abbrev Heads : Core → ℕ → Type 0
Heads (core.Payment t) p = t.payer ≡ p
Heads (core.Deduction t) p = t.payer ≡ p
Heads other p = ⊥

data Step (ps : List ℕ) (r : List ℕ) : List ℕ → Type 0 where
  same : Step ps r ps
  none : Step ps r []
  more : (c : Core) (p : ℕ) → Has r c → Heads c p → Step ps r (ps ++ p ∷ [])

step_core : (ps r : List ℕ) (c : Core) → Has r c → Step ps r (payers_behind ps c)
step_core ps r (core.Start x) h = same
step_core ps r (core.Opening x) h = none
step_core ps r (core.Deposit x) h = same
step_core ps r (core.Payment t) h = more (core.Payment t) t.payer h refl
step_core ps r (core.Deduction t) h = more (core.Deduction t) t.payer h refl
step_core ps r (core.ExtraReference t) h = same
step_core ps r (core.NegativeReference t) h = same
step_core ps r core.Information h = same
step_core ps r core.Name h = same
step_core ps r core.AddressOne h = same
step_core ps r core.AddressTwo h = same
step_core ps r (core.CompanyNumber n) h = same
step_core ps r (core.End x) h = same

step_read : (ps r : List ℕ) (k : Kind) (t : List ℕ) (read : Result Core Field) → kind_at r ≡ Some k → read_core k (between 2 (length r) r) ≡ read
    → Step ps r (payers_read ps (then read (λ c. Ok (leaf c t))))
step_read ps r k t (Ok c) is q = step_core ps r c (record { kind = k; coded = is; keeps = q })
step_read ps r k t (Err f) is q = same

step_by : (ps r : List ℕ) (o : Option Kind) → kind_at r ≡ o → Step ps r (payers_by ps o r)
step_by ps r None is = same
step_by ps r (Some k) is = step_read ps r k (between 2 (used k) r) (read_core k (between 2 (length r) r)) is refl

-- so where one more payer than the table has rows is there behind it, it is that payment or deduction
module _ (rows : ℕ) (before : List (List ℕ)) (r : List ℕ) where
  abbrev ps : List ℕ
  ps = payers_from [] before

  crowds : (c : Core) (p : ℕ) → Heads c p → rows < distinct eqb (ps ++ p ∷ []) → Crowded (judging rows) before c
  crowds (core.Start x) p h l = absurd h
  crowds (core.Opening x) p h l = absurd h
  crowds (core.Deposit x) p h l = absurd h
  crowds (core.Payment t) p h l = (refl, subst (λ q. rows < distinct eqb (ps ++ q ∷ [])) (sym h) l)
  crowds (core.Deduction t) p h l = (refl, subst (λ q. rows < distinct eqb (ps ++ q ∷ [])) (sym h) l)
  crowds (core.ExtraReference t) p h l = absurd h
  crowds (core.NegativeReference t) p h l = absurd h
  crowds core.Information p h l = absurd h
  crowds core.Name p h l = absurd h
  crowds core.AddressOne p h l = absurd h
  crowds core.AddressTwo p h l = absurd h
  crowds (core.CompanyNumber n) p h l = absurd h
  crowds (core.End x) p h l = absurd h

  step_crowds : (next : List ℕ) → Step ps r next → distinct eqb ps ≤ rows → rows < distinct eqb next → (c : Core) × Has r c × Crowded (judging rows) before c
  step_crowds _ same le l = absurd (omega (arith, le, l))
  step_crowds _ none le l = absurd (omega (arith, l))
  step_crowds _ (more c p h s) le l = (c, h, crowds c p s l)

  -- and the other way round
  crowd_step : (c : Core) → Has r c → Crowded (judging rows) before c → rows < distinct eqb (payers_by ps (kind_at r) r)
  crowd_step c h w = subst (λ o. rows < distinct eqb (payers_by ps o r)) (sym h.coded) (subst (λ x. rows < distinct eqb (payers_read ps (then x (λ y. Ok (leaf y (between 2 (used h.kind) r)))))) (sym h.keeps) (by c w))
    where
      by : (c : Core) → Crowded (judging rows) before c → rows < distinct eqb (payers_behind ps c)
      by (core.Start x) w = absurd w
      by (core.Opening x) w = absurd w
      by (core.Deposit x) w = absurd w
      by (core.Payment t) w = w.1
      by (core.Deduction t) w = w.1
      by (core.ExtraReference t) w = absurd w
      by (core.NegativeReference t) w = absurd w
      by core.Information w = absurd w
      by core.Name w = absurd w
      by core.AddressOne w = absurd w
      by core.AddressTwo w = absurd w
      by (core.CompanyNumber n) w = absurd w
      by (core.End x) w = absurd w

  -- of a payment or deduction nothing is asked behind that
  disjoint : (c : Core) → Crowded (judging rows) before c → (Owing (judging rows) (come before) c → ⊥) × (Unsettled (come before) c → ⊥) × (Miscounted (come before) c → ⊥)
  disjoint (core.Start x) w = absurd w
  disjoint (core.Opening x) w = absurd w
  disjoint (core.Deposit x) w = absurd w
  disjoint (core.Payment t) w = (λ o. o, λ o. o, λ o. o)
  disjoint (core.Deduction t) w = (λ o. o, λ o. o, λ o. o)
  disjoint (core.ExtraReference t) w = absurd w
  disjoint (core.NegativeReference t) w = absurd w
  disjoint core.Information w = absurd w
  disjoint core.Name w = absurd w
  disjoint core.AddressOne w = absurd w
  disjoint core.AddressTwo w = absurd w
  disjoint (core.CompanyNumber n) w = absurd w
  disjoint (core.End x) w = absurd w

  one_core : (c x : Core) → Has r c → Has r x → x ≡ c
  one_core c x h w =
      let k : Some w.kind ≡ Some h.kind = sym w.coded ∙ h.coded in
      let l : w.kind ≡ h.kind = cc in
      let z : Ok x ≡ Ok c = sym w.keeps ∙ ap (λ j. read_core j (between 2 (length r) r)) l ∙ h.keeps in
      cc

  alone : (m : Meaning) (c : Core) → Has r c → Crowded (judging rows) before c → (d : Cause) → 9 < rank d → WrongRecord (judging rows) m before r d → ⊥
  alone m c h w cause.Broken l x = x
  alone m c h w (cause.Unreadable Code) l x = absurd (omega arith)
  alone m c h w (cause.Unreadable (Layout f)) l x = absurd (omega arith)
  alone m c h w cause.Order l x = absurd (omega arith)
  alone m c h w cause.UnlikeItem l x = absurd (omega arith)
  alone m c h w cause.Information l x = absurd (omega arith)
  alone m c h w cause.NoPlace l x = absurd (omega arith)
  alone m c h w cause.PayerOwes l x = (disjoint c w).0 (subst (Owing (judging rows) (come before)) (one_core c x.0 h x.1) x.2)
  alone m c h w cause.Deposit l x = (disjoint c w).1 (subst (Unsettled (come before)) (one_core c x.0 h x.1) x.2)
  alone m c h w cause.Counts l x = (disjoint c w).2 (subst (Miscounted (come before)) (one_core c x.0 h x.1) x.2)
  alone m c h w cause.TooMany l x = x
  alone m c h w cause.Unfinished l x = x
  alone m c h w cause.RiderIllFormed l x = absurd (omega arith)
  alone m c h w cause.RiderLevel l x = absurd (omega arith)

-- RECORDS AND SLOTS. The first k records of a file, the first k + 1, and what stands between them.

data View : List (List ℕ) → List (List ℕ) → Option Slot → Type 0 where
  there : (b : List (List ℕ)) (r : List ℕ) → View b (b ++ r ∷ []) (Some (whole r))
  ends : (b : List (List ℕ)) → View b b None
  breaks : (b : List (List ℕ)) → View b b (Some broken)

view_on : (q : List ℕ) (b a : List (List ℕ)) (o : Option Slot) → View b a o → View (q ∷ b) (q ∷ a) o
view_on q _ _ _ (there b r) = there (q ∷ b) r
view_on q _ _ _ (ends b) = ends (q ∷ b)
view_on q _ _ _ (breaks b) = breaks (q ∷ b)

view : (ss : List Slot) (k : ℕ) → View (take k (front ss)) (take (suc k) (front ss)) (slot_at k ss)
view [] zero = ends []
view [] (suc k) = ends []
view (broken ∷ ss) zero = breaks []
view (broken ∷ ss) (suc k) = ends []
view (whole r ∷ ss) zero = there [] r
view (whole r ∷ ss) (suc k) = view_on r (take k (front ss)) (take (suc k) (front ss)) (slot_at k ss) (view ss k)

module _ (rows : ℕ) (m : Meaning) where
  abbrev mode : Mode
  mode = judging rows

  abbrev payers_of : List (List ℕ) → ℕ
  payers_of b = distinct eqb (payers_from [] b)

  full : (b a : List (List ℕ)) (o : Option Slot) → View b a o → Wrong mode m b o cause.NoPlace → rows < payers_of a
  full _ _ _ (there b r) (inl x) = let z = x.0 in let y : ◌≡◌ {A = ℕ} 0 1 = cc in absurd (omega arith)
  full _ _ _ (there b r) (inr x) = subst (λ p. rows < distinct eqb p) (sym (payers_more [] b r)) (crowd_step rows b r x.0 x.1 x.2)
  full _ _ _ (ends b) x = let z = x.0 in let y : ◌≡◌ {A = ℕ} 0 1 = cc in absurd (omega arith)
  full _ _ _ (breaks b) (inl x) = let y : ◌≡◌ {A = ℕ} 0 1 = cc in absurd (omega arith)
  full _ _ _ (breaks b) (inr x) = let z = x.0 in let y : ◌≡◌ {A = ℕ} 0 1 = cc in absurd (omega arith)

  too_full : (b a : List (List ℕ)) (o : Option Slot) → View b a o → payers_of b ≤ rows → rows < payers_of a → Wrong mode m b o cause.NoPlace
  too_full _ _ _ (there b r) le l = inr (step_crowds rows b r (payers_by (payers_from [] b) (kind_at r) r) (step_by (payers_from [] b) r (kind_at r) refl) le (subst (λ p. rows < distinct eqb p) (payers_more [] b r) l))
  too_full _ _ _ (ends b) le l = absurd (omega (arith, le, l))
  too_full _ _ _ (breaks b) le l = absurd (omega (arith, le, l))

  none_behind : (b a : List (List ℕ)) (o : Option Slot) → View b a o → Wrong mode m b o cause.NoPlace → (d : Cause) → 9 < rank d → Wrong mode m b o d → ⊥
  none_behind _ _ _ (there b r) (inl x) d l y = let z = x.0 in let y : ◌≡◌ {A = ℕ} 0 1 = cc in absurd (omega arith)
  none_behind _ _ _ (there b r) (inr x) d l (inl y) = omega (arith, ap rank y.0)
  none_behind _ _ _ (there b r) (inr x) d l (inr y) = alone rows b r m x.0 x.1 x.2 d l y
  none_behind _ _ _ (ends b) x d l y = let z = x.0 in let y : ◌≡◌ {A = ℕ} 0 1 = cc in absurd (omega arith)
  none_behind _ _ _ (breaks b) (inl x) d l y = let y : ◌≡◌ {A = ℕ} 0 1 = cc in absurd (omega arith)
  none_behind _ _ _ (breaks b) (inr x) d l y = let z = x.0 in let y : ◌≡◌ {A = ℕ} 0 1 = cc in absurd (omega arith)

  module _ (bs : List ℕ) where
    abbrev ss : List Slot
    ss = slots bs

    -- from the first wrong thing
    module _ (k : ℕ) (w : FirstWrong mode m ss k cause.NoPlace) where
      enough : (j : ℕ) → j < suc k → payers_of (take j (front ss)) ≤ rows
      enough zero l = omega arith
      enough (suc j) l =
          let before = enough j (omega arith) in
          let not : rows < payers_of (take (suc j) (front ss)) → ⊥ = λ h. w.none_before j cause.NoPlace (omega arith) (too_full _ _ _ (view ss j) before h) in
          omega arith

      else_none : (j : ℕ) (d : Cause) → j < suc k → WrongAt mode m ss j d → d ≡ cause.NoPlace
      else_none j d l x =
          let before : j < k → ⊥ = λ h. w.none_before j d h x in
          let at : j ≡ k = omega arith in
          let y : WrongAt mode m ss k d = subst (λ i. WrongAt mode m ss i d) at x in
          let low : rank d < 9 → ⊥ = λ h. w.none_earlier d h y in
          let high : 9 < rank d → ⊥ = λ h. none_behind _ _ _ (view ss k) w.wrong d h y in
          same_cause d cause.NoPlace (omega arith) (λ f g p q. let y : ◌≡◌ {A = ℕ} 0 1 = cc in absurd (omega arith))

      too_short : TooShort rows m bs (suc k)
      too_short = record { fewer = full _ _ _ (view ss k) w.wrong; enough = enough; nothing_else = else_none }

    first_of : (k : ℕ) → TooShort rows m bs (suc k) → FirstWrong mode m ss k cause.NoPlace
    first_of k t = record {
      wrong = too_full _ _ _ (view ss k) (t.enough k (omega arith)) t.fewer;
      none_before = λ j d l x.
          let is = t.nothing_else j d (omega arith) x in
          let more = full _ _ _ (view ss j) (subst (WrongAt mode m ss j) is x) in
          omega (arith, more, t.enough (suc j) (omega arith));
      none_earlier = λ d l x. let is = t.nothing_else k d (omega arith) x in omega (arith, ap rank is);
    }

    pub seven : (n : ℕ) → Exactly (check_of mode m bs ≡ at_record n cause.NoPlace) (TooShort rows m bs n)
    seven zero = (λ e. absurd (omega (arith, (number_within mode m bs _ e).0)), λ t. absurd (omega (arith, t.fewer)))
    seven (suc k) = (λ e. too_short k ((first_wrong mode m ss k cause.NoPlace).0 e), λ t. (first_wrong mode m ss k cause.NoPlace).1 (first_of k t))
