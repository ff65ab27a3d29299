-- Entries that can be read: what they come to fits a trailer's digits, and a file that is accepted is one.
use Rattle.std.proofs.Common.{◌≡◌, ℕ, suc, ◌+◌, ◌*◌, ◌<◌, ◌≤◌, Bool, true, false, cond, ◌&&◌, eqb, leb, ◌⊎◌, List, [], ◌∷◌, map, length, Some, None, Ok, Err, Result, sym, refl, ap, ◌∙◌, subst, inl, inr, ⊎_elim, arith}
use Rattle.std.specs.List.{between, AllByRecursion}
use Rattle.std.proofs.lemmas.Bool.{false≢true, eqb-true, leb-true, and_parts, or_cases, cond-true}
use Rattle.field.specs.declared.money.Currency.{Currency}
use Rattle.field.specs.declared.money.Currency.TheVariants.{Sek, Eur}
use Rattle.field.specs.Bytes.{is_text, every}
use Rattle.field.specs.Chains.{then}
use Rattle.record.specs.declared.kinds.Kind.{Kind}
use Rattle.record.specs.declared.fields.Core.{Core}
use Rattle.record.specs.declared.fields.Core.TheVariants as core
use Rattle.record.specs.declared.fields.End.{End}
use Rattle.record.specs.declared.fields.Field.{Field}
use Rattle.record.specs.declared.classes.Class.{Class}
use Rattle.record.specs.declared.classes.Class.TheVariants as class
use Rattle.record.specs.Kinds.{code_of}
use Rattle.record.specs.Layouts.{read_core}
use Rattle.record.specs.Rows.{kind_in}
use Rattle.record.specs.Classes.{class_of}
use Rattle.record.specs.Editions.{Meaning, bare}
use Rattle.sums.specs.Table.{capped}
use Rattle.trailer.specs.declared.layout.Totals.{Totals}
use Rattle.trailer.specs.Laws.{Fits}
use Rattle.manual.specs.declared.faults.FileFault.{FileFault}
use Rattle.manual.specs.declared.places.Place.{Place}
use Rattle.manual.specs.declared.places.Place.TheVariants as place
use Rattle.manual.specs.Slots.{Slot, whole, broken, slots}
use Rattle.manual.specs.Judging.{State, Section as OpenSection, one_currency, among, may_follow, moved, core_tests, tests, place_after, section_after, begin, ended, slot_step, step, judge, check_of}
use Rattle.manual.specs.Laws.{NotBefore, NoRiderFault, of_payers, judging, not_judging}
use Rattle.manual.specs.Manual.{Line, records, Reading, Follows}
use Rattle.manual.specs.Slots.{front}
use Rattle.manual.proofs.Roles.{role_of}
use Rattle.manual.proofs.Steps.{Passes, passed}
use Rattle.manual.proofs.Bounds.{Bounded, Modest, bounded_begin, bounded_kept, bounded_on, same_after, read_kind, read_modest}
use Rattle.manual.proofs.Judged.{ended_ok, step_ok}
use Rattle.manual.proofs.Classes as classes
use Rattle.manual.proofs.Classes.{Seen, seen}
use Rattle.manual.proofs.Editions.{bare_agrees}
use Rattle.manual.proofs.Payers.{unknown_passes, payers_only}
use Rattle.manual.proofs.Slotting.{slots-lines}
use Rattle.manual.proofs.Accepting.{right}
use Rattle.filing.specs.declared.deposits.Deposits.{Deposits}
use Rattle.filing.specs.Entries.{slot_of, entry_slots, in_currency, deposits_core, deposits_behind, deposits_from, no_deposits, totals_of, reads}

-- The deposits never come to more than the payments.

abbrev both : Deposits → ℕ
both x = x.sek + x.eur

-- what the open section has paid in so far, behind its opening record and before its deposit
abbrev live : Place → ℕ → ℕ
live place.Fresh n = 0
live place.Begun n = 0
live place.Opened n = n
live (place.Within st) n = n
live place.Between n = 0
live place.Done n = 0

-- n records have come, and no amount is larger than a layout allows
record Held (n : ℕ) (s : State) (x : Deposits) : Type 0 where
  bound : Bounded n s
  paid : both x + live s.place s.section.plus ≤ n * 9999999999999

-- the codes of what stands in a section behind its opening record, deposit included, are from 15 to 29
out : (c : ℕ) (cs : List ℕ) → AllByRecursion (λ x. (x < 15) ⊎ (29 < x)) cs → 15 ≤ c → c ≤ 29 → among c cs ≡ true → ⊥
out c [] a lo hi h = false≢true h
out c (x ∷ xs) a lo hi h = ⊎_elim (λ e. ⊎_elim (λ l. omega (arith, eqb-true c x e)) (λ l. omega (arith, eqb-true c x e)) a.0) (λ t. out c xs a.1 lo hi t) (or_cases (eqb c x) (among c xs) h)

inside : (p : Place) (k : Kind) (n : ℕ) → 15 ≤ code_of k → code_of k ≤ 29 → may_follow p k ≡ true → live p n ≡ n
inside place.Fresh k n lo hi h = absurd (out (code_of k) (1 ∷ []) (inl (omega arith), tt) lo hi h)
inside place.Begun k n lo hi h = absurd (out (code_of k) (5 ∷ []) (inl (omega arith), tt) lo hi h)
inside place.Opened k n lo hi h = refl
inside (place.Within st) k n lo hi h = refl
inside place.Between k n lo hi h = absurd (out (code_of k) (5 ∷ 70 ∷ []) (inl (omega arith), (inr (omega arith), tt)) lo hi h)
inside place.Done k n lo hi h = absurd (false≢true h)

with_both : (x : Deposits) (n : ℕ) (c : Currency) → both (in_currency x n c) ≤ both x + n
with_both x n Sek = omega arith
with_both x n Eur = omega arith

module _ (n : ℕ) (s : State) (x : Deposits) (few : n ≤ 50000) (h : Held n s x) where
  -- a core record that passes
  paid-core : (c : Core) (t : List ℕ) → Modest (role_of c t) → Passes (core_tests not_judging s (kind_in c) (Ok c))
      → both (deposits_core x c) + live (place_after (kind_in c)) (section_after not_judging s.section c).plus ≤ suc n * 9999999999999
  paid-core (core.Start y) t m p = omega (arith, h.paid)
  paid-core (core.Opening y) t m p = omega (arith, h.paid)
  paid-core (core.Deposit d) t m p =
      let at = inside s.place (kind_in (core.Deposit d)) s.section.plus (omega arith) (omega arith) (and_parts _ _ p.0).0 in
      let y : OpenSection = s.section in
      let a = and_parts (one_currency d.currency y.currency) (eqb d.count y.records && eqb (capped d.sum y.minus) y.plus) p.1.1.0 in
      let b = and_parts (eqb d.count y.records) (eqb (capped d.sum y.minus) y.plus) a.1 in
      omega (arith, h.paid, h.bound.plus, at, eqb-true (capped d.sum y.minus) y.plus b.1, with_both x d.sum d.currency)
  paid-core (core.Payment y) t m p = omega (arith, h.paid, m, inside s.place (kind_in (core.Payment y)) s.section.plus (omega arith) (omega arith) (and_parts _ _ p.0).0)
  paid-core (core.Deduction y) t m p = omega (arith, h.paid, inside s.place (kind_in (core.Deduction y)) s.section.plus (omega arith) (omega arith) (and_parts _ _ p.0).0)
  paid-core (core.ExtraReference y) t m p = omega (arith, h.paid, inside s.place (kind_in (core.ExtraReference y)) s.section.plus (omega arith) (omega arith) (and_parts _ _ p.0).0)
  paid-core (core.NegativeReference y) t m p = omega (arith, h.paid, inside s.place (kind_in (core.NegativeReference y)) s.section.plus (omega arith) (omega arith) (and_parts _ _ p.0).0)
  paid-core core.Information t m p = omega (arith, h.paid, inside s.place (kind_in core.Information) s.section.plus (omega arith) (omega arith) (and_parts _ _ p.0).0)
  paid-core core.Name t m p = omega (arith, h.paid, inside s.place (kind_in core.Name) s.section.plus (omega arith) (omega arith) (and_parts _ _ p.0).0)
  paid-core core.AddressOne t m p = omega (arith, h.paid, inside s.place (kind_in core.AddressOne) s.section.plus (omega arith) (omega arith) (and_parts _ _ p.0).0)
  paid-core core.AddressTwo t m p = omega (arith, h.paid, inside s.place (kind_in core.AddressTwo) s.section.plus (omega arith) (omega arith) (and_parts _ _ p.0).0)
  paid-core (core.CompanyNumber y) t m p = omega (arith, h.paid, inside s.place (kind_in (core.CompanyNumber y)) s.section.plus (omega arith) (omega arith) (and_parts _ _ p.0).0)
  paid-core (core.End y) t m p = omega (arith, h.paid)

  -- a record that leaves the state and the deposits as they were
  kept : Held (suc n) s x
  kept = record { bound = bounded_kept n s h.bound; paid = omega (arith, h.paid) }

  over-core : (k : Kind) (rest : List ℕ) (read : Result Core Field) (t : State) → read_core k rest ≡ read → step not_judging s (class.Core k read) ≡ Ok t → Held (suc n) t (deposits_behind x (class.Core k read))
  over-core k rest (Err f) t e q = absurd (false≢true (passed (core_tests not_judging s k (Err f)) s t q).0.1.0)
  over-core k rest (Ok c) t e q =
      let same : kind_in c ≡ k = read_kind k rest c e in
      let m : Modest (role_of c []) = read_modest k rest c [] e in
      let p = passed (core_tests not_judging s k (Ok c)) (moved not_judging s k c) t q in
      let passes : Passes (core_tests not_judging s (kind_in c) (Ok c)) = subst (λ j. Passes (core_tests not_judging s j (Ok c))) (sym same) p.0 in
      let after : Held (suc n) (moved not_judging s (kind_in c) c) (deposits_core x c) = record {
        bound = subst (Bounded (suc n)) (sym (same_after not_judging n s c [] few h.bound m)) (bounded_on not_judging n s (role_of c []) h.bound m);
        paid = paid-core c [] m passes;
      } in
      subst (λ u. Held (suc n) u (deposits_core x c)) (ap (λ j. moved not_judging s j c) same ∙ p.1) after

  over : (r : List ℕ) (y : Class) (t : State) → Seen bare r y → step not_judging s y ≡ Ok t → Held (suc n) t (deposits_behind x y)
  over r _ t (classes.bad e) q = absurd (false≢true (passed (tests not_judging s class.BadCode) s t q).0.0)
  over r _ t (classes.core c k e g u) q = over-core k (between 2 (length r) r) (read_core k (between 2 (length r) r)) t refl q
  over r _ t (classes.rider c v e g k) q = let none : None ≡ Some v = k in let z : ◌≡◌ {A = ℕ} 0 1 = cc in absurd (omega arith)
  over r _ t (classes.unknown c e g u) q = subst (λ u. Held (suc n) u x) (sym (unknown_passes not_judging s t q)) kept

-- What an entry comes to.

record Few (e : End) (x : Deposits) : Type 0 where
  payments : e.payments ≤ 50000
  deductions : e.deductions ≤ 50000
  deposits : both x ≤ 50000 * 9999999999999

slot_ok : (b : Bool) (s t : State) (r : List ℕ) → slot_step not_judging bare s (cond b (whole r) broken) ≡ Ok t → step not_judging s (class_of bare r) ≡ Ok t
slot_ok true s t r q = q
slot_ok false s t r q = let z : ◌≡◌ {A = ℕ} 0 1 = cc in absurd (omega arith)

few_of : (rs : List (List ℕ)) (n : ℕ) (s : State) (x : Deposits) (e : End) → n ≤ 50000 → Held n s x → judge not_judging bare (suc n) s (entry_slots rs) ≡ Ok e → Few e (deposits_from x rs)
few_of [] n s x e few h q =
    subst (λ (c : End). Few c x) (ended_ok (ended s.place) (suc n) s.counts e q).1 (record { payments = omega (arith, h.bound.payments); deductions = omega (arith, h.bound.deductions); deposits = omega (arith, h.paid) })
few_of (r ∷ rs) n s x e few h q =
    let a = step_ok (leb (suc n) 50000) (slot_step not_judging bare s (slot_of r)) (suc n) (λ t. judge not_judging bare (suc (suc n)) t (entry_slots rs)) e q in
    few_of rs (suc n) a.1.0 (deposits_behind x (class_of bare r)) e (leb-true _ _ a.0) (over n s x few h r (class_of bare r) a.1.0 (seen bare r) (slot_ok (every is_text r) s a.1.0 r a.1.1)) a.1.2

pub then_ok : (o : Result End FileFault) (x : Deposits) (t : Totals) → then o (λ e. Ok (totals_of e x)) ≡ Ok t → (e : End) × (o ≡ Ok e) × (totals_of e x ≡ t)
then_ok (Ok e) x t q = (e, refl, cc)
then_ok (Err f) x t q = let z : ◌≡◌ {A = ℕ} 0 1 = cc in absurd (omega arith)

pub fits : (rs : List (List ℕ)) (t : Totals) → reads rs ≡ Ok t → Fits t
unfolding reads
fits rs t q =
    let a = then_ok (judge not_judging bare 1 begin (entry_slots rs)) (deposits_from no_deposits rs) t q in
    let f = few_of rs 0 begin no_deposits a.0 (omega arith) (record { bound = bounded_begin; paid = omega arith }) a.1 in
    subst (λ (u : Totals). Fits u) a.2 (record { payments = omega (arith, f.payments); deductions = omega (arith, f.deductions); sek = omega (arith, f.deposits); eur = omega (arith, f.deposits) })

-- A file that is accepted, under any edition and with payers judged, can be read as an entry, with the same counts.

pub front-whole : (rs : List (List ℕ)) → front (map whole rs) ≡ rs
front-whole [] = refl
front-whole (r ∷ rs) = ap (λ l. r ∷ l) (front-whole rs)

slots_of_lines : (ls : List Line) → entry_slots (records ls) ≡ map whole (records ls)
slots_of_lines [] = refl
slots_of_lines (l ∷ ls) = λ i. cond-true (every is_text l.bytes) (whole l.bytes) broken l.is_whole.1 i ∷ slots_of_lines ls i

same-slots : (m : Meaning) (bs : List ℕ) (r : Reading) → Follows m bs r → entry_slots (front (slots bs)) ≡ slots bs
same-slots m bs r f =
    let its : slots bs ≡ map whole (records f.lines) = ap slots f.whole ∙ slots-lines f.lines in
    ap (λ (ss : List Slot). entry_slots (front ss)) its ∙ ap entry_slots (front-whole (records f.lines)) ∙ slots_of_lines f.lines ∙ sym its

not-judged : (cap : ℕ) (bs : List ℕ) (e : End) → check_of (judging cap) bare bs ≡ Ok e → check_of not_judging bare bs ≡ Ok e
not-judged cap bs e h = by (payers_only cap bare bs)
  where
    by : (check_of (judging cap) bare bs ≡ check_of not_judging bare bs) ⊎ ((f : FileFault) × (check_of (judging cap) bare bs ≡ Err f) × (of_payers f.cause ≡ true) × NotBefore f.number (check_of not_judging bare bs)) → check_of not_judging bare bs ≡ Ok e
    by (inl q) = sym q ∙ h
    by (inr (f, q, p, l)) = let g : Ok e ≡ Err f = sym h ∙ q in let z : ◌≡◌ {A = ℕ} 0 1 = cc in absurd (omega arith)

pub file_reads : (cap : ℕ) (m : Meaning) (bs : List ℕ) (e : End) → check_of (judging cap) m bs ≡ Ok e → reads (front (slots bs)) ≡ Ok (totals_of e (deposits_from no_deposits (front (slots bs))))
unfolding reads
file_reads cap m bs e h =
    let plain : check_of (judging cap) bare bs ≡ Ok e = bare_agrees (judging cap) m bs (subst NoRiderFault (sym h) tt) ∙ h in
    let f = (right cap m bs).accepted e h in
    ap (λ o. then o (λ e. Ok (totals_of e (deposits_from no_deposits (front (slots bs)))))) (ap (judge not_judging bare 1 begin) (same-slots m bs f.0 f.1) ∙ not-judged cap bs e plain)
