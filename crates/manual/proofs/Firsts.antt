-- The judge refuses at the first record at which something is wrong, with the first thing that is.
use Rattle.std.proofs.Common.{◌≡◌, ℕ, ◌<◌, ◌≤◌, Bool, true, false, cond, not, ◌&&◌, ◌||◌, eqb, leb, ltb, List, [], ◌∷◌, ◌++◌, length, Some, None, Ok, Err, Option, Result, sym, refl, ap, ◌∙◌, subst, arith}
use Rattle.std.specs.List.{between}
use Rattle.std.proofs.lemmas.Bool.{false≢true, eqb-true, eq-eqb, ltb-true, lt-ltb, and_parts, and_from}
use Rattle.field.specs.Chains.{and_then}
use Rattle.record.specs.declared.kinds.Kind.{Kind}
use Rattle.record.specs.declared.kinds.Kind.TheVariants as kind
use Rattle.record.specs.declared.fields.Transfer.{Transfer}
use Rattle.record.specs.declared.fields.Deposit.{Deposit}
use Rattle.record.specs.declared.fields.End.{End}
use Rattle.record.specs.declared.fields.Core.{Core}
use Rattle.record.specs.declared.fields.Core.TheVariants as core
use Rattle.record.specs.declared.fields.Field.{Field}
use Rattle.record.specs.declared.editions.Level.{Level}
use Rattle.record.specs.declared.classes.Class.{Class}
use Rattle.record.specs.declared.classes.Class.TheVariants as class
use Rattle.record.specs.declared.faults.RecordFault.TheVariants.{Code, Layout}
use Rattle.record.specs.Layouts.{read_core}
use Rattle.record.specs.Rows.{kind_in}
use Rattle.record.specs.Codes.{code_in}
use Rattle.record.specs.Classes.{class_of}
use Rattle.record.specs.Editions.{Meaning}
use Rattle.record.specs.Laws.{kind_at}
use Rattle.sums.specs.Table.{covered, entered}
use Rattle.sums.specs.Laws.{distinct}
use Rattle.manual.specs.declared.faults.Cause.{Cause}
use Rattle.manual.specs.declared.faults.Cause.TheVariants as cause
use Rattle.manual.specs.declared.places.Place.TheVariants as place
use Rattle.manual.specs.Judging.{Mode, State, in_order, may_follow, paid_for, begun, sits, one_currency, room, none_owes, like_item, deposit_agrees, same_counts, content, moved, first, step, ended}
use Rattle.manual.specs.Manual.{total, last_kind, level_after}
use Rattle.manual.specs.Payers.{payers_from}
use Rattle.manual.specs.Wrong.{come, kinds, inside, pays_by, deducts_by, Begins, OutOfOrder, no_start, not_next, Has, LikeItem, Settles, CountsAll, Unlike, Hundredth, Crowded, Owing, Unsettled, Miscounted, Rides, WrongRecord, rank}
use Rattle.manual.proofs.Roles.{role_of, agrees}
use Rattle.manual.proofs.Bounds.{Modest, in_pairs, same_after, same_sum, read_kind, read_modest}
use Rattle.manual.proofs.Sections.{right, rightly, none_short, some_short}
use Rattle.manual.proofs.Tables.{entering}
use Rattle.manual.proofs.Judged.{level_at, seated, seats}
use Rattle.manual.proofs.Orders.{follows_begins, begins_follows}
use Rattle.manual.proofs.Held.{few, too_many, held_more}
use Rattle.manual.proofs.Classes as classes
use Rattle.manual.proofs.Classes.{Seen, seen}
use Rattle.manual.proofs.Knowing.{Known, Knows, place_of, in_item, in_section, knows_core, knows_other, Roomed}

-- ONE STEP. Its tests fail for what is wrong, the first one that fails being the first thing that is.

-- what an answer of a step has to do with what is wrong
abbrev pub Verdict : (Cause → Type 0) → (State → Type 0) → Result State Cause → Type 0
Verdict wrong good (Ok t) = good t × ((d : Cause) → wrong d → ⊥)
Verdict wrong good (Err c) = wrong c × ((d : Cause) → rank d < rank c → wrong d → ⊥)

module _ (wrong : Cause → Type 0) (good : State → Type 0) where
  test : (b : Bool) (c : Cause) (ts : List (Bool × Cause)) (t : State) → (b ≡ false → wrong c × ((d : Cause) → rank d < rank c → wrong d → ⊥))
      → (b ≡ true → Verdict wrong good (first ts t)) → Verdict wrong good (first ((b, c) ∷ ts) t)
  test b c ts t fails passes =
      (elim b as (λ v. b ≡ v → Verdict wrong good (cond v (first ts t) (Err c))) [
        | true ↦ passes
        | false ↦ fails
      ]) refl

rank_small : (c : Cause) → rank c < 14
rank_small cause.Broken = omega arith
rank_small (cause.Unreadable Code) = omega arith
rank_small (cause.Unreadable (Layout f)) = omega arith
rank_small cause.Order = omega arith
rank_small cause.UnlikeItem = omega arith
rank_small cause.Information = omega arith
rank_small cause.NoPlace = omega arith
rank_small cause.PayerOwes = omega arith
rank_small cause.Deposit = omega arith
rank_small cause.Counts = omega arith
rank_small cause.TooMany = omega arith
rank_small cause.Unfinished = omega arith
rank_small cause.RiderIllFormed = omega arith
rank_small cause.RiderLevel = omega arith

-- the first record is a start record, in order
only_start : (k : Kind) → may_follow place.Fresh k ≡ true → k ≡ kind.Start
only_start kind.Start h = refl
only_start kind.Opening h = absurd (false≢true h)
only_start kind.Deposit h = absurd (false≢true h)
only_start kind.Payment h = absurd (false≢true h)
only_start kind.Deduction h = absurd (false≢true h)
only_start kind.ExtraReference h = absurd (false≢true h)
only_start kind.NegativeReference h = absurd (false≢true h)
only_start kind.Information h = absurd (false≢true h)
only_start kind.Name h = absurd (false≢true h)
only_start kind.AddressOne h = absurd (false≢true h)
only_start kind.AddressTwo h = absurd (false≢true h)
only_start kind.CompanyNumber h = absurd (false≢true h)
only_start kind.End h = absurd (false≢true h)

level_place : (o : Option Kind) → level_at (place_of o) ≡ and_then o level_after
level_place None = refl
level_place (Some kind.Start) = refl
level_place (Some kind.Opening) = refl
level_place (Some kind.Deposit) = refl
level_place (Some kind.Payment) = refl
level_place (Some kind.Deduction) = refl
level_place (Some kind.ExtraReference) = refl
level_place (Some kind.NegativeReference) = refl
level_place (Some kind.Information) = refl
level_place (Some kind.Name) = refl
level_place (Some kind.AddressOne) = refl
level_place (Some kind.AddressTwo) = refl
level_place (Some kind.CompanyNumber) = refl
level_place (Some kind.End) = refl

pub ended_place : (o : Option Kind) → ended (place_of o) ≡ true → o ≡ Some kind.End
ended_place None h = absurd (false≢true h)
ended_place (Some kind.Start) h = absurd (false≢true h)
ended_place (Some kind.Opening) h = absurd (false≢true h)
ended_place (Some kind.Deposit) h = absurd (false≢true h)
ended_place (Some kind.Payment) h = absurd (false≢true h)
ended_place (Some kind.Deduction) h = absurd (false≢true h)
ended_place (Some kind.ExtraReference) h = absurd (false≢true h)
ended_place (Some kind.NegativeReference) h = absurd (false≢true h)
ended_place (Some kind.Information) h = absurd (false≢true h)
ended_place (Some kind.Name) h = absurd (false≢true h)
ended_place (Some kind.AddressOne) h = absurd (false≢true h)
ended_place (Some kind.AddressTwo) h = absurd (false≢true h)
ended_place (Some kind.CompanyNumber) h = absurd (false≢true h)
ended_place (Some kind.End) h = refl

module _ (mode : Mode) (m : Meaning) (before : List (List ℕ)) (s : State) (knows : Knows mode before s) (small : length before ≤ 50000) (r : List ℕ) where
  abbrev wrong : Cause → Type 0
  wrong = WrongRecord mode m before r

  abbrev good : State → Type 0
  good t = Knows mode (before ++ r ∷ []) t

  abbrev cs : List Core
  cs = come before

  h : Known mode (length before) (kinds before) cs (payers_from [] before) (last_kind before) s
  h = knows.known

  -- no record before: the place before the start record
  at_first : before ≡ [] → s.place ≡ place.Fresh
  at_first e = h.place ∙ ap (λ (b : List (List ℕ)). place_of (last_kind b)) e

  -- A CORE RECORD of these fields.
  module _ (c : Core) (code : ℕ) (e : code_in r ≡ Some code) (is : kind_at r ≡ Some (kind_in c)) (free : m.level code ≡ None) (q : read_core (kind_in c) (between 2 (length r) r) ≡ Ok c) where
    has : Has r c
    has = record { kind = kind_in c; coded = is; keeps = q }

    same_core : (x : Core) → Has r x → x ≡ c
    same_core x w =
        let k : Some w.kind ≡ Some (kind_in c) = sym w.coded ∙ is in
        let l : w.kind ≡ kind_in c = cc in
        let z : Ok x ≡ Ok c = sym w.keeps ∙ ap (λ j. read_core j (between 2 (length r) r)) l ∙ q in
        cc

    -- what is wrong before this place in the order, if nothing of this sort is
    refuted : (lim : ℕ) → (3 < lim → OutOfOrder before r → ⊥) → (7 < lim → Unlike cs c → ⊥) → (8 < lim → Hundredth cs c → ⊥) → (9 < lim → Crowded mode before c → ⊥)
        → (10 < lim → Owing mode cs c → ⊥) → (11 < lim → Unsettled cs c → ⊥) → (12 < lim → Miscounted cs c → ⊥) → (d : Cause) → rank d < lim → wrong d → ⊥
    refuted lim o u i n p t w cause.Broken l x = x
    refuted lim o u i n p t w (cause.Unreadable Code) l x = let z : None ≡ Some code = sym x ∙ e in let y : ◌≡◌ {A = ℕ} 0 1 = cc in absurd (omega arith)
    refuted lim o u i n p t w (cause.Unreadable (Layout f)) l x =
        let k : Some x.0 ≡ Some (kind_in c) = sym x.1 ∙ is in
        let j : x.0 ≡ kind_in c = cc in
        let z : Err f ≡ Ok c = sym x.2 ∙ ap (λ j. read_core j (between 2 (length r) r)) j ∙ q in
        let y : ◌≡◌ {A = ℕ} 0 1 = cc in absurd (omega arith)
    refuted lim o u i n p t w cause.Order l x = o l x
    refuted lim o u i n p t w cause.UnlikeItem l x = u l (subst (Unlike cs) (same_core x.0 x.1) x.2)
    refuted lim o u i n p t w cause.Information l x = i l (subst (Hundredth cs) (same_core x.0 x.1) x.2)
    refuted lim o u i n p t w cause.NoPlace l x = n l (subst (Crowded mode before) (same_core x.0 x.1) x.2)
    refuted lim o u i n p t w cause.PayerOwes l x = p l (subst (Owing mode cs) (same_core x.0 x.1) x.2)
    refuted lim o u i n p t w cause.Deposit l x = t l (subst (Unsettled cs) (same_core x.0 x.1) x.2)
    refuted lim o u i n p t w cause.Counts l x = w l (subst (Miscounted cs) (same_core x.0 x.1) x.2)
    refuted lim o u i n p t w cause.TooMany l x = x
    refuted lim o u i n p t w cause.Unfinished l x = x
    refuted lim o u i n p t w cause.RiderIllFormed l x = let f = x.0 in unknown f.code f.level f.coded f.known
      where
        unknown : (d : ℕ) (v : Level) → code_in r ≡ Some d → m.level d ≡ Some v → ⊥
        unknown d v a b = let same : Some d ≡ Some code = sym a ∙ e in let z : d ≡ code = cc in let y : None ≡ Some v = sym free ∙ ap m.level (sym z) ∙ b in let x : ◌≡◌ {A = ℕ} 0 1 = cc in absurd (omega arith)
    refuted lim o u i n p t w cause.RiderLevel l x = let f = x.0 in unknown f.code f.level f.coded f.known
      where
        unknown : (d : ℕ) (v : Level) → code_in r ≡ Some d → m.level d ≡ Some v → ⊥
        unknown d v a b = let same : Some d ≡ Some code = sym a ∙ e in let z : d ≡ code = cc in let y : None ≡ Some v = sym free ∙ ap m.level (sym z) ∙ b in let x : ◌≡◌ {A = ℕ} 0 1 = cc in absurd (omega arith)

    -- order
    out_of_order : in_order s (kind_in c) ≡ false → OutOfOrder before r
    out_of_order f = not_next (kind_in c) is (λ b. let g = begins_follows (kinds before) s.place s.section.payments h.way (kind_in c) b in false≢true (sym f ∙ and_from _ _ g.0 g.1))

    ordered : may_follow s.place (kind_in c) ≡ true → paid_for s.section.payments (kind_in c) ≡ true → OutOfOrder before r → ⊥
    ordered f g (no_start z n) = n (is ∙ ap Some (only_start (kind_in c) (subst (λ p. may_follow p (kind_in c) ≡ true) (at_first z) f)))
    ordered f g (not_next k a b) =
        let same : Some k ≡ Some (kind_in c) = sym a ∙ is in
        let z : k ≡ kind_in c = cc in
        b (subst (λ j. Begins (kinds before ++ j ∷ [])) (sym z) (follows_begins (kinds before) s.place s.section.payments h.way (kind_in c) f g))

    modest : Modest (role_of c [])
    modest = read_modest (kind_in c) (between 2 (length r) r) c [] q

    -- the state behind it
    passed_on : may_follow s.place (kind_in c) ≡ true → paid_for s.section.payments (kind_in c) ≡ true → Roomed mode (length before) (kinds before) cs (payers_from [] before) (last_kind before) s h [] c → good (moved mode s (kind_in c) c)
    passed_on f g w = subst good (sym (same_after mode (length before) s c [] small h.bound modest)) (knows_core mode before s knows r c is q f g modest w)

  abbrev Core-verdict : Core → Type 0
  Core-verdict c = (code : ℕ) → code_in r ≡ Some code → kind_at r ≡ Some (kind_in c) → m.level code ≡ None → read_core (kind_in c) (between 2 (length r) r) ≡ Ok c
      → (f : may_follow s.place (kind_in c) ≡ true) → (g : paid_for s.section.payments (kind_in c) ≡ true) → Verdict wrong good (first (content mode s c) (moved mode s (kind_in c) c))

  -- a core record whose fields nothing is asked of
  plain : (c : Core) → content mode s c ≡ [] → (Unlike cs c → ⊥) → (Hundredth cs c → ⊥) → (Crowded mode before c → ⊥) → (Owing mode cs c → ⊥) → (Unsettled cs c → ⊥) → (Miscounted cs c → ⊥)
      → Roomed mode (length before) (kinds before) cs (payers_from [] before) (last_kind before) s h [] c → Core-verdict c
  plain c none u i n p t w room code e is free q f g =
      subst (λ ts. Verdict wrong good (first ts (moved mode s (kind_in c) c))) (sym none) (
        passed_on c code e is free q f g room,
        λ d. refuted c code e is free q 14 (λ l. ordered c code e is free q f g) (λ l. u) (λ l. i) (λ l. n) (λ l. p) (λ l. t) (λ l. w) d (rank_small d),
      )

  -- an extra reference
  like_is : (t : Transfer) → may_follow s.place kind.ExtraReference ≡ true → like_item s.item t ≡ true → LikeItem cs t
  like_is t f b =
      let i = h.item (in_item s.place kind.ExtraReference (omega arith) (omega arith) f) in
      let a = and_parts (eqb t.payer s.item.payer) (eqb t.serial s.item.serial) b in
      record { item = i.item; is = i.is; payer = eqb-true t.payer s.item.payer a.0 ∙ i.payer; serial = eqb-true t.serial s.item.serial a.1 ∙ i.serial }

  is_like : (t : Transfer) → may_follow s.place kind.ExtraReference ≡ true → LikeItem cs t → like_item s.item t ≡ true
  is_like t f l =
      let i = h.item (in_item s.place kind.ExtraReference (omega arith) (omega arith) f) in
      let same : Some i.item ≡ Some l.item = sym i.is ∙ l.is in
      let z : i.item ≡ l.item = cc in
      and_from _ _ (eq-eqb t.payer s.item.payer (l.payer ∙ sym (ap (λ (x : Transfer). x.payer) z) ∙ sym i.payer)) (eq-eqb t.serial s.item.serial (l.serial ∙ sym (ap (λ (x : Transfer). x.serial) z) ∙ sym i.serial))

  -- room for a payer
  room_parts : (p a t : ℕ) → room mode s.section.rows p a t ≡ false → (mode.judged ≡ true) × (leb (length (entered eqb s.section.rows p a t)) mode.cap ≡ false)
  room_parts p a t e = by mode.judged refl e
    where
      by : (b : Bool) → mode.judged ≡ b → (not b || leb (length (entered eqb s.section.rows p a t)) mode.cap) ≡ false → (mode.judged ≡ true) × (leb (length (entered eqb s.section.rows p a t)) mode.cap ≡ false)
      by true j z = (j, z)
      by false j z = absurd (false≢true (sym z))

  crowded : (p a t : ℕ) → room mode s.section.rows p a t ≡ false → (mode.judged ≡ true) × (mode.cap < distinct eqb (payers_from [] before ++ p ∷ []))
  crowded p a t e = let b = room_parts p a t e in (b.0, too_many (h.table b.0).held p a t b.1)

  roomy : (p a t : ℕ) → room mode s.section.rows p a t ≡ true → mode.judged ≡ true → mode.cap < distinct eqb (payers_from [] before ++ p ∷ []) → ⊥
  roomy p a t e j l =
      let fit : leb (length (entered eqb s.section.rows p a t)) mode.cap ≡ true = sym (ap (λ b. not b || leb (length (entered eqb s.section.rows p a t)) mode.cap) j) ∙ e in
      omega (arith, l, few (held_more (h.table j).held p a t fit))

  -- payers that owe
  owes_parts : none_owes mode s.section.rows ≡ false → (mode.judged ≡ true) × (covered s.section.rows ≡ false)
  owes_parts e = by mode.judged refl e
    where
      by : (b : Bool) → mode.judged ≡ b → (not b || covered s.section.rows) ≡ false → (mode.judged ≡ true) × (covered s.section.rows ≡ false)
      by true j z = (j, z)
      by false j z = absurd (false≢true (sym z))

  owing : none_owes mode s.section.rows ≡ false → (mode.judged ≡ true) × ((p : ℕ) × (total (pays_by p) (inside cs) < total (deducts_by p) (inside cs)))
  owing e =
      let b = owes_parts e in
      let t = h.table b.0 in
      let p = some_short t.held.entries (omega (arith, t.few, small)) t.small s.section.rows (entering.summed mode.cap t.held.entries s.section.rows t.held.filled) b.1 in
      (b.0, (p.0, omega (arith, p.1, t.added p.0, t.taken p.0)))

  none_owing : none_owes mode s.section.rows ≡ true → mode.judged ≡ true → (p : ℕ) → total (pays_by p) (inside cs) < total (deducts_by p) (inside cs) → ⊥
  none_owing e j p l =
      let t = h.table j in
      let all : covered s.section.rows ≡ true = sym (ap (λ b. not b || covered s.section.rows) j) ∙ e in
      omega (arith, l, t.added p, t.taken p, none_short t.held.entries (omega (arith, t.few, small)) t.small s.section.rows (entering.summed mode.cap t.held.entries s.section.rows t.held.filled) all p)

  -- a deposit
  plain_sum : (d : Deposit) → deposit_agrees s.section d ≡ agrees s.section d
  plain_sum d = λ i. one_currency d.currency s.section.currency && (eqb d.count s.section.records && same_sum d.sum s.section.minus s.section.plus (omega (arith, h.bound.plus, small)) i)

  settles : (d : Deposit) → may_follow s.place kind.Deposit ≡ true → deposit_agrees s.section d ≡ true → Settles cs d
  settles d f e =
      let a = right s.section d (sym (plain_sum d) ∙ e) in
      record {
        currency = h.currency (in_section s.place kind.Deposit (omega arith) (omega arith) f) ∙ ap Some (sym a.0);
        count = omega (arith, a.1, h.sums.records);
        sum = omega (arith, a.2, h.sums.plus, h.sums.minus);
      }

  settled : (d : Deposit) → may_follow s.place kind.Deposit ≡ true → Settles cs d → deposit_agrees s.section d ≡ true
  settled d f w =
      let same : Some s.section.currency ≡ Some d.currency = sym (h.currency (in_section s.place kind.Deposit (omega arith) (omega arith) f)) ∙ w.currency in
      let z : s.section.currency ≡ d.currency = cc in
      plain_sum d ∙ rightly s.section d (sym z) (omega (arith, w.count, h.sums.records)) (omega (arith, w.sum, h.sums.plus, h.sums.minus))

  -- an end record
  counts : (e : End) → same_counts s.counts e ≡ true → CountsAll cs e
  counts e t =
      let c = s.counts in
      let a = and_parts (eqb e.payments c.payments) (eqb e.deductions c.deductions && (eqb e.extras c.extras && eqb e.deposits c.deposits)) t in
      let b = and_parts (eqb e.deductions c.deductions) (eqb e.extras c.extras && eqb e.deposits c.deposits) a.1 in
      let d = and_parts (eqb e.extras c.extras) (eqb e.deposits c.deposits) b.1 in
      record {
        payments = eqb-true e.payments c.payments a.0 ∙ h.sums.payments;
        deductions = eqb-true e.deductions c.deductions b.0 ∙ h.sums.deductions;
        extras = eqb-true e.extras c.extras d.0 ∙ h.sums.extras;
        deposits = eqb-true e.deposits c.deposits d.1 ∙ h.sums.deposits;
      }

  counted : (e : End) → CountsAll cs e → same_counts s.counts e ≡ true
  counted e w =
      let c = s.counts in
      and_from _ _ (eq-eqb e.payments c.payments (w.payments ∙ sym h.sums.payments)) (and_from _ _ (eq-eqb e.deductions c.deductions (w.deductions ∙ sym h.sums.deductions))
      (and_from _ _ (eq-eqb e.extras c.extras (w.extras ∙ sym h.sums.extras)) (eq-eqb e.deposits c.deposits (w.deposits ∙ sym h.sums.deposits))))

  -- THE FIELDS of a core record that comes in order.
  core_verdict : (c : Core) → Core-verdict c
  core_verdict (core.Start x) code e is free q f g = plain (core.Start x) refl (λ w. w) (λ w. w) (λ w. w) (λ w. w) (λ w. w) (λ w. w) tt code e is free q f g
  core_verdict (core.Opening x) code e is free q f g = plain (core.Opening x) refl (λ w. w) (λ w. w) (λ w. w) (λ w. w) (λ w. w) (λ w. w) tt code e is free q f g
  core_verdict (core.Deposit d) code e is free q f g =
      let c : Core = core.Deposit d in
      test wrong good (none_owes mode s.section.rows) cause.PayerOwes ((deposit_agrees s.section d, cause.Deposit) ∷ []) (moved mode s kind.Deposit c)
      (λ b. ((c, has c code e is free q, owing b), refuted c code e is free q 10 (λ l. ordered c code e is free q f g) (λ l w. w) (λ l w. w) (λ l w. w) (λ l. absurd (omega arith)) (λ l. absurd (omega arith)) (λ l w. w)))
      (λ b. test wrong good (deposit_agrees s.section d) cause.Deposit [] (moved mode s kind.Deposit c)
      (λ v. ((c, has c code e is free q, λ w. false≢true (sym v ∙ settled d f w)), refuted c code e is free q 11 (λ l. ordered c code e is free q f g) (λ l w. w) (λ l w. w) (λ l w. w) (λ l w. none_owing b w.0 w.1.0 w.1.1) (λ l. absurd (omega arith)) (λ l w. w)))
      (λ v. (passed_on c code e is free q f g tt, λ y. refuted c code e is free q 14 (λ l. ordered c code e is free q f g) (λ l w. w) (λ l w. w) (λ l w. w) (λ l w. none_owing b w.0 w.1.0 w.1.1) (λ l w. w (settles d f v)) (λ l w. w) y (rank_small y))))
  core_verdict (core.Payment t) code e is free q f g =
      let c : Core = core.Payment t in
      test wrong good (room mode s.section.rows t.payer t.amount 0) cause.NoPlace [] (moved mode s kind.Payment c)
      (λ b. ((c, has c code e is free q, crowded t.payer t.amount 0 b), refuted c code e is free q 9 (λ l. ordered c code e is free q f g) (λ l w. w) (λ l w. w) (λ l. absurd (omega arith)) (λ l w. w) (λ l w. w) (λ l w. w)))
      (λ b. (passed_on c code e is free q f g b, λ y. refuted c code e is free q 14 (λ l. ordered c code e is free q f g) (λ l w. w) (λ l w. w) (λ l w. roomy t.payer t.amount 0 b w.0 w.1) (λ l w. w) (λ l w. w) (λ l w. w) y (rank_small y)))
  core_verdict (core.Deduction t) code e is free q f g =
      let c : Core = core.Deduction t in
      test wrong good (room mode s.section.rows t.payer 0 t.amount) cause.NoPlace [] (moved mode s kind.Deduction c)
      (λ b. ((c, has c code e is free q, crowded t.payer 0 t.amount b), refuted c code e is free q 9 (λ l. ordered c code e is free q f g) (λ l w. w) (λ l w. w) (λ l. absurd (omega arith)) (λ l w. w) (λ l w. w) (λ l w. w)))
      (λ b. (passed_on c code e is free q f g b, λ y. refuted c code e is free q 14 (λ l. ordered c code e is free q f g) (λ l w. w) (λ l w. w) (λ l w. roomy t.payer 0 t.amount b w.0 w.1) (λ l w. w) (λ l w. w) (λ l w. w) y (rank_small y)))
  core_verdict (core.ExtraReference t) code e is free q f g =
      let c : Core = core.ExtraReference t in
      test wrong good (like_item s.item t) cause.UnlikeItem [] (moved mode s kind.ExtraReference c)
      (λ b. ((c, has c code e is free q, λ w. false≢true (sym b ∙ is_like t f w)), refuted c code e is free q 7 (λ l. ordered c code e is free q f g) (λ l. absurd (omega arith)) (λ l w. w) (λ l w. w) (λ l w. w) (λ l w. w) (λ l w. w)))
      (λ b. (passed_on c code e is free q f g tt, λ y. refuted c code e is free q 14 (λ l. ordered c code e is free q f g) (λ l w. w (like_is t f b)) (λ l w. w) (λ l w. w) (λ l w. w) (λ l w. w) (λ l w. w) y (rank_small y)))
  core_verdict (core.NegativeReference t) code e is free q f g =
      let c : Core = core.NegativeReference t in
      let k = sym (in_pairs s.place).1 ∙ f in
      test wrong good (like_item s.item t) cause.UnlikeItem [] (moved mode s kind.NegativeReference c)
      (λ b. ((c, has c code e is free q, λ w. false≢true (sym b ∙ is_like t k w)), refuted c code e is free q 7 (λ l. ordered c code e is free q f g) (λ l. absurd (omega arith)) (λ l w. w) (λ l w. w) (λ l w. w) (λ l w. w) (λ l w. w)))
      (λ b. (passed_on c code e is free q f g tt, λ y. refuted c code e is free q 14 (λ l. ordered c code e is free q f g) (λ l w. w (like_is t k b)) (λ l w. w) (λ l w. w) (λ l w. w) (λ l w. w) (λ l w. w) y (rank_small y)))
  core_verdict core.Information code e is free q f g =
      let c : Core = core.Information in
      test wrong good (ltb s.item.infos 99) cause.Information [] (moved mode s kind.Information c)
      (λ b. ((c, has c code e is free q, let not : s.item.infos < 99 → ⊥ = λ l. false≢true (sym b ∙ lt-ltb s.item.infos 99 l) in omega (arith, h.sums.infos)), refuted c code e is free q 8 (λ l. ordered c code e is free q f g) (λ l w. w) (λ l. absurd (omega arith)) (λ l w. w) (λ l w. w) (λ l w. w) (λ l w. w)))
      (λ b. (passed_on c code e is free q f g tt, λ y. refuted c code e is free q 14 (λ l. ordered c code e is free q f g) (λ l w. w) (λ l w. omega (arith, w, ltb-true s.item.infos 99 b, h.sums.infos)) (λ l w. w) (λ l w. w) (λ l w. w) (λ l w. w) y (rank_small y)))
  core_verdict core.Name code e is free q f g = plain core.Name refl (λ w. w) (λ w. w) (λ w. w) (λ w. w) (λ w. w) (λ w. w) tt code e is free q f g
  core_verdict core.AddressOne code e is free q f g = plain core.AddressOne refl (λ w. w) (λ w. w) (λ w. w) (λ w. w) (λ w. w) (λ w. w) tt code e is free q f g
  core_verdict core.AddressTwo code e is free q f g = plain core.AddressTwo refl (λ w. w) (λ w. w) (λ w. w) (λ w. w) (λ w. w) (λ w. w) tt code e is free q f g
  core_verdict (core.CompanyNumber n) code e is free q f g = plain (core.CompanyNumber n) refl (λ w. w) (λ w. w) (λ w. w) (λ w. w) (λ w. w) (λ w. w) tt code e is free q f g
  core_verdict (core.End x) code e is free q f g =
      let c : Core = core.End x in
      test wrong good (same_counts s.counts x) cause.Counts [] (moved mode s kind.End c)
      (λ b. ((c, has c code e is free q, λ w. false≢true (sym b ∙ counted x w)), refuted c code e is free q 12 (λ l. ordered c code e is free q f g) (λ l w. w) (λ l w. w) (λ l w. w) (λ l w. w) (λ l w. w) (λ l. absurd (omega arith))))
      (λ b. (passed_on c code e is free q f g tt, λ y. refuted c code e is free q 14 (λ l. ordered c code e is free q f g) (λ l w. w) (λ l w. w) (λ l w. w) (λ l w. w) (λ l w. w) (λ l w. w (counts x b)) y (rank_small y)))

  -- A CORE RECORD by its kind, whether its layout is kept or not.
  module _ (code : ℕ) (k : Kind) (e : code_in r ≡ Some code) (is : kind_at r ≡ Some k) (free : m.level code ≡ None) where
    unordered : in_order s k ≡ false → OutOfOrder before r
    unordered f = not_next k is (λ b. let g = begins_follows (kinds before) s.place s.section.payments h.way k b in false≢true (sym f ∙ and_from _ _ g.0 g.1))

    in_its_order : in_order s k ≡ true → OutOfOrder before r → ⊥
    in_its_order f (no_start z n) = n (is ∙ ap Some (only_start k (subst (λ p. may_follow p k ≡ true) (at_first z) (and_parts _ _ f).0)))
    in_its_order f (not_next j a b) =
        let same : Some j ≡ Some k = sym a ∙ is in
        let z : j ≡ k = cc in
        let g = and_parts (may_follow s.place k) (paid_for s.section.payments k) f in
        b (subst (λ j. Begins (kinds before ++ j ∷ [])) (sym z) (follows_begins (kinds before) s.place s.section.payments h.way k g.0 g.1))

    no_rider : Rides m r → ⊥
    no_rider f = by f.code f.level f.coded f.known
      where
        by : (d : ℕ) (v : Level) → code_in r ≡ Some d → m.level d ≡ Some v → ⊥
        by d v a b = let same : Some d ≡ Some code = sym a ∙ e in let z : d ≡ code = cc in let y : None ≡ Some v = sym free ∙ ap m.level (sym z) ∙ b in let x : ◌≡◌ {A = ℕ} 0 1 = cc in absurd (omega arith)

    -- before its layout
    early : (lim : ℕ) → lim ≤ 6 → (3 < lim → OutOfOrder before r → ⊥) → (d : Cause) → rank d < lim → wrong d → ⊥
    early lim le o cause.Broken l x = x
    early lim le o (cause.Unreadable Code) l x = let z : None ≡ Some code = sym x ∙ e in let y : ◌≡◌ {A = ℕ} 0 1 = cc in absurd (omega arith)
    early lim le o (cause.Unreadable (Layout f)) l x = absurd (omega arith)
    early lim le o cause.Order l x = o l x
    early lim le o cause.UnlikeItem l x = absurd (omega arith)
    early lim le o cause.Information l x = absurd (omega arith)
    early lim le o cause.NoPlace l x = absurd (omega arith)
    early lim le o cause.PayerOwes l x = absurd (omega arith)
    early lim le o cause.Deposit l x = absurd (omega arith)
    early lim le o cause.Counts l x = absurd (omega arith)
    early lim le o cause.TooMany l x = x
    early lim le o cause.Unfinished l x = x
    early lim le o cause.RiderIllFormed l x = no_rider x.0
    early lim le o cause.RiderLevel l x = no_rider x.0

    kind_verdict : (read : Result Core Field) → read_core k (between 2 (length r) r) ≡ read → Verdict wrong good (step mode s (class.Core k read))
    kind_verdict (Err f) q =
        test wrong good (in_order s k) cause.Order ((false, cause.Unreadable (Layout f)) ∷ []) s
        (λ b. (unordered b, early 3 (omega arith) (λ l. absurd (omega arith))))
        (λ b. ((k, is, q), early 6 (omega arith) (λ l. in_its_order b)))
    kind_verdict (Ok c) q =
        test wrong good (in_order s k) cause.Order (content mode s c) (moved mode s k c)
        (λ b. (unordered b, early 3 (omega arith) (λ l. absurd (omega arith))))
        (λ b.
        let g = and_parts (may_follow s.place k) (paid_for s.section.payments k) b in
        subst (λ j. Verdict wrong good (first (content mode s c) (moved mode s j c))) same
        (core_verdict c code e (is ∙ ap Some (sym same)) free (ap (λ j. read_core j (between 2 (length r) r)) same ∙ q)
        (subst (λ j. may_follow s.place j ≡ true) (sym same) g.0) (subst (λ j. paid_for s.section.payments j ≡ true) (sym same) g.1)))
      where
        same : kind_in c ≡ k
        same = read_kind k (between 2 (length r) r) c q

  -- ANOTHER RECORD.

  -- none before is out of order, where the start record has come
  begun_ordered : kind_at r ≡ None → begun s.place ≡ true → OutOfOrder before r → ⊥
  begun_ordered is b (no_start z n) = false≢true (sym (ap begun (at_first z)) ∙ b)
  begun_ordered is b (not_next k a n) = let z : None ≡ Some k = sym is ∙ a in let y : ◌≡◌ {A = ℕ} 0 1 = cc in absurd (omega arith)

  not_begun : kind_at r ≡ None → begun s.place ≡ false → OutOfOrder before r
  not_begun is b = no_start (knows.first b) (λ a. let z : None ≡ Some kind.Start = sym is ∙ a in let y : ◌≡◌ {A = ℕ} 0 1 = cc in absurd (omega arith))

  no_core : (P : Core → Type 0) → kind_at r ≡ None → (c : Core) × Has r c × P c → ⊥
  no_core P is x = let w = x.1 in let z : None ≡ Some w.kind = sym is ∙ w.coded in let y : ◌≡◌ {A = ℕ} 0 1 = cc in absurd (omega arith)

  other : (code : ℕ) → code_in r ≡ Some code → kind_at r ≡ None → (lim : ℕ) → (3 < lim → OutOfOrder before r → ⊥) → (4 < lim → wrong cause.RiderLevel → ⊥) → (5 < lim → wrong cause.RiderIllFormed → ⊥)
      → (d : Cause) → rank d < lim → wrong d → ⊥
  other code e is lim o v w cause.Broken l x = x
  other code e is lim o v w (cause.Unreadable Code) l x = let z : None ≡ Some code = sym x ∙ e in let y : ◌≡◌ {A = ℕ} 0 1 = cc in absurd (omega arith)
  other code e is lim o v w (cause.Unreadable (Layout f)) l x = let z : None ≡ Some x.0 = sym is ∙ x.1 in let y : ◌≡◌ {A = ℕ} 0 1 = cc in absurd (omega arith)
  other code e is lim o v w cause.Order l x = o l x
  other code e is lim o v w cause.UnlikeItem l x = no_core _ is x
  other code e is lim o v w cause.Information l x = no_core _ is x
  other code e is lim o v w cause.NoPlace l x = no_core _ is x
  other code e is lim o v w cause.PayerOwes l x = no_core _ is x
  other code e is lim o v w cause.Deposit l x = no_core _ is x
  other code e is lim o v w cause.Counts l x = no_core _ is x
  other code e is lim o v w cause.TooMany l x = x
  other code e is lim o v w cause.Unfinished l x = x
  other code e is lim o v w cause.RiderIllFormed l x = w l x
  other code e is lim o v w cause.RiderLevel l x = v l x

  early_bad : (d : Cause) → rank d < 2 → wrong d → ⊥
  early_bad cause.Broken l x = x
  early_bad (cause.Unreadable Code) l x = absurd (omega arith)
  early_bad (cause.Unreadable (Layout f)) l x = absurd (omega arith)
  early_bad cause.Order l x = absurd (omega arith)
  early_bad cause.UnlikeItem l x = absurd (omega arith)
  early_bad cause.Information l x = absurd (omega arith)
  early_bad cause.NoPlace l x = absurd (omega arith)
  early_bad cause.PayerOwes l x = absurd (omega arith)
  early_bad cause.Deposit l x = absurd (omega arith)
  early_bad cause.Counts l x = absurd (omega arith)
  early_bad cause.TooMany l x = x
  early_bad cause.Unfinished l x = x
  early_bad cause.RiderIllFormed l x = absurd (omega arith)
  early_bad cause.RiderLevel l x = absurd (omega arith)

  module _ (code : ℕ) (v : Level) (e : code_in r ≡ Some code) (is : kind_at r ≡ None) (rides : m.level code ≡ Some v) where
    same_rider : (x : Rides m r) → (x.code ≡ code) × (x.level ≡ v)
    same_rider x =
        let a : Some x.code ≡ Some code = sym x.coded ∙ e in
        let b : x.code ≡ code = cc in
        let c : Some x.level ≡ Some v = sym x.known ∙ ap m.level b ∙ rides in
        (b, cc)

    abbrev rider : Rides m r
    rider = record { code = code; level = v; coded = e; known = rides }

    level_now : level_at s.place ≡ and_then (last_kind before) level_after
    level_now = ap level_at h.place ∙ level_place (last_kind before)

    rider_verdict : Verdict wrong good (step mode s (class.Rider (record { code = code; level = v; formed = m.formed code r })))
    rider_verdict =
        test wrong good (begun s.place) cause.Order ((sits s.place v, cause.RiderLevel) ∷ (m.formed code r, cause.RiderIllFormed) ∷ []) s
        (λ b. (not_begun is b, other code e is 3 (λ l. absurd (omega arith)) (λ l. absurd (omega arith)) (λ l. absurd (omega arith))))
        (λ b. test wrong good (sits s.place v) cause.RiderLevel ((m.formed code r, cause.RiderIllFormed) ∷ []) s
        (λ f. ((rider, λ a. false≢true (sym f ∙ seats s.place v (level_now ∙ a))), other code e is 4 (λ l. begun_ordered is b) (λ l. absurd (omega arith)) (λ l. absurd (omega arith))))
        (λ f.
        let level : wrong cause.RiderLevel → ⊥ = λ x. x.1 (sym level_now ∙ seated s.place v f ∙ ap Some (sym (same_rider x.0).1)) in
        test wrong good (m.formed code r) cause.RiderIllFormed [] s
        (λ g. ((rider, g), other code e is 5 (λ l. begun_ordered is b) (λ l. level) (λ l. absurd (omega arith))))
        (λ g. (
          knows_other mode before s knows r is b,
          λ d. other code e is 14 (λ l. begun_ordered is b) (λ l. level) (λ l x. false≢true (sym x.1 ∙ ap (λ c. m.formed c r) (same_rider x.0).0 ∙ g)) d (rank_small d),
        ))))

  unknown_verdict : (code : ℕ) → code_in r ≡ Some code → kind_at r ≡ None → m.level code ≡ None → Verdict wrong good (step mode s class.Unknown)
  unknown_verdict code e is free =
      test wrong good (begun s.place) cause.Order [] s
      (λ b. (not_begun is b, other code e is 3 (λ l. absurd (omega arith)) (λ l. absurd (omega arith)) (λ l. absurd (omega arith))))
      (λ b. (knows_other mode before s knows r is b, λ d. other code e is 14 (λ l. begun_ordered is b) (λ l x. none x.0) (λ l x. none x.0) d (rank_small d)))
    where
      none : Rides m r → ⊥
      none f = by f.code f.level f.coded f.known
        where
          by : (d : ℕ) (v : Level) → code_in r ≡ Some d → m.level d ≡ Some v → ⊥
          by d v a b = let same : Some d ≡ Some code = sym a ∙ e in let z : d ≡ code = cc in let y : None ≡ Some v = sym free ∙ ap m.level (sym z) ∙ b in let x : ◌≡◌ {A = ℕ} 0 1 = cc in absurd (omega arith)

  seen_verdict : (y : Class) → Seen m r y → Verdict wrong good (step mode s y)
  seen_verdict _ (classes.bad e) = (e, early_bad)
  seen_verdict _ (classes.core c k e is l) = kind_verdict c k e is l (read_core k (between 2 (length r) r)) refl
  seen_verdict _ (classes.rider c v e is l) = rider_verdict c v e is l
  seen_verdict _ (classes.unknown c e is l) = unknown_verdict c e is l

  pub verdict : Verdict wrong good (step mode s (class_of m r))
  verdict = seen_verdict (class_of m r) (seen m r)
