-- What reading an entry answers is what it comes to by the manual: the theorem of specs/Readings.
use Rattle.std.proofs.Common.{◌≡◌, ℕ, suc, ◌+◌, ◌-◌, ◌^◌, ◌≤◌, Bool, true, false, cond, List, [], ◌∷◌, map, length, Some, None, Ok, Err, Option, Result, sym, refl, ap, ◌∙◌, subst, arith}
use Rattle.std.specs.List.{between, AllByRecursion}
use Rattle.std.proofs.lemmas.Bool.{cond-true}
use Rattle.field.specs.declared.money.Currency.{Currency}
use Rattle.field.specs.declared.money.Currency.TheVariants.{Sek, Eur}
use Rattle.field.specs.Bytes.{is_text, every}
use Rattle.field.specs.Chains.{then, and_then}
use Rattle.record.specs.declared.kinds.Kind.{Kind}
use Rattle.record.specs.declared.fields.Core.{Core}
use Rattle.record.specs.declared.fields.Core.TheVariants as core
use Rattle.record.specs.declared.fields.End.{End}
use Rattle.record.specs.declared.fields.Field.{Field}
use Rattle.record.specs.declared.classes.Class.{Class}
use Rattle.record.specs.Kinds.{kind_of}
use Rattle.record.specs.Layouts.{read_core}
use Rattle.record.specs.Classes.{class_of}
use Rattle.record.specs.Editions.{Meaning, bare}
use Rattle.record.specs.Laws.{kind_at}
use Rattle.record.specs.Reserve.{used}
use Rattle.sums.specs.Table.{capped}
use Rattle.sums.specs.Laws.{Exactly}
use Rattle.trailer.specs.declared.layout.Totals.{Totals}
use Rattle.trailer.specs.Laws.{Fits}
use Rattle.manual.specs.declared.faults.Cause.{Cause}
use Rattle.manual.specs.declared.faults.FileFault.{FileFault}
use Rattle.manual.specs.Wrong.{FirstWrong}
use Rattle.manual.proofs.FirstWrongs.{first_wrong}
use Rattle.manual.specs.Slots.{whole, broken}
use Rattle.manual.specs.Judging.{at_record, begin, judge}
use Rattle.manual.specs.Laws.{not_judging}
use Rattle.manual.specs.Manual.{Read, Item, Section, Tree, leaf, leaves, read_by, core_then, cores, total, SectionAdds, SectionStands, ReadAs, Line, records}
use Rattle.manual.proofs.Roles.{Role, Part, part, extra, info, name, address1, address2, company, leaf_of}
use Rattle.manual.proofs.Trees.{written, roles}
use Rattle.manual.proofs.Unique.{leaves_roles, same-leaves, tally}
use Rattle.manual.proofs.Classes as classes
use Rattle.manual.proofs.Classes.{Seen, seen}
use Rattle.manual.proofs.Accepting.{plain_reading, plain_accepted, same_map}
use Rattle.filing.specs.declared.deposits.Deposits.{Deposits}
use Rattle.filing.specs.Entries.{slot_of, entry_slots, in_currency, deposits_core, deposits_read, deposits_behind, deposits_from, no_deposits, totals_of, reads}
use Rattle.filing.specs.Volumes.{Records}
use Rattle.filing.specs.Readings.{in_sek, in_eur, EntryReads, Sums, ComesTo, EntryLaws}
use Rattle.filing.proofs.Fitting.{fits, then_ok}

-- DEPOSITS. What the records add up to is the capped sum over the core records.

-- what a core record adds in one currency
abbrev added : (Currency → ℕ → ℕ) → Core → ℕ
added f (core.Deposit d) = f d.currency d.sum
added f other = 0

abbrev of_read : (Currency → ℕ → ℕ) → Result (Read Core) Field → ℕ
of_read f (Ok l) = added f l.fields
of_read f (Err e) = 0

abbrev of_record : (Currency → ℕ → ℕ) → Option Kind → List ℕ → ℕ
of_record f None r = 0
of_record f (Some k) r = of_read f (read_by k r)

-- the deposits are below the cap, and are more by these amounts
abbrev Small : Deposits → Type 0
Small x = (x.sek ≤ 2 ^ 64 - 1) × (x.eur ≤ 2 ^ 64 - 1)

abbrev More : Deposits → Deposits → ℕ → ℕ → Type 0
More x y a b = (y.sek ≡ capped x.sek a) × (y.eur ≡ capped x.eur b)

more_in : (x : Deposits) (n : ℕ) (c : Currency) → Small x → More x (in_currency x n c) (in_sek c n) (in_eur c n)
more_in x n Sek h = (refl, omega arith)
more_in x n Eur h = (omega arith, refl)

more_core : (x : Deposits) (c : Core) → Small x → More x (deposits_core x c) (added in_sek c) (added in_eur c)
more_core x (core.Start y) h = (omega arith, omega arith)
more_core x (core.Opening y) h = (omega arith, omega arith)
more_core x (core.Deposit d) h = more_in x d.sum d.currency h
more_core x (core.Payment y) h = (omega arith, omega arith)
more_core x (core.Deduction y) h = (omega arith, omega arith)
more_core x (core.ExtraReference y) h = (omega arith, omega arith)
more_core x (core.NegativeReference y) h = (omega arith, omega arith)
more_core x core.Information h = (omega arith, omega arith)
more_core x core.Name h = (omega arith, omega arith)
more_core x core.AddressOne h = (omega arith, omega arith)
more_core x core.AddressTwo h = (omega arith, omega arith)
more_core x (core.CompanyNumber n) h = (omega arith, omega arith)
more_core x (core.End y) h = (omega arith, omega arith)

more_read : (x : Deposits) (t : List ℕ) (r : Result Core Field) → Small x
    → More x (deposits_read x r) (of_read in_sek (then r (λ c. Ok (leaf c t)))) (of_read in_eur (then r (λ c. Ok (leaf c t))))
more_read x t (Ok c) h = more_core x c h
more_read x t (Err e) h = (omega arith, omega arith)

more_seen : (x : Deposits) (r : List ℕ) (y : Class) → Seen bare r y → Small x → More x (deposits_behind x y) (of_record in_sek (kind_at r) r) (of_record in_eur (kind_at r) r)
more_seen x r _ (classes.bad e) h = subst (λ o. More x x (of_record in_sek o r) (of_record in_eur o r)) (sym (ap (λ o. and_then o kind_of) e)) (omega arith, omega arith)
more_seen x r _ (classes.core c k e is l) h =
    subst (λ o. More x (deposits_read x (read_core k (between 2 (length r) r))) (of_record in_sek o r) (of_record in_eur o r)) (sym is)
    (more_read x (between 2 (used k) r) (read_core k (between 2 (length r) r)) h)
more_seen x r _ (classes.rider c v e is l) h = subst (λ o. More x x (of_record in_sek o r) (of_record in_eur o r)) (sym is) (omega arith, omega arith)
more_seen x r _ (classes.unknown c e is l) h = subst (λ o. More x x (of_record in_sek o r) (of_record in_eur o r)) (sym is) (omega arith, omega arith)

-- a record in front of the core records
front_one : (f : Currency → ℕ → ℕ) (o : Option Kind) (r : List ℕ) (rest : List (Result (Read Core) Field)) → total (of_read f) (core_then o r rest) ≡ of_record f o r + total (of_read f) rest
front_one f None r rest = omega arith
front_one f (Some k) r rest = refl

more_all : (rs : List (List ℕ)) (x : Deposits) → Small x → More x (deposits_from x rs) (total (of_read in_sek) (cores rs)) (total (of_read in_eur) (cores rs))
more_all [] x h = (omega arith, omega arith)
more_all (r ∷ rs) x h =
    let a = more_seen x r (class_of bare r) (seen bare r) h in
    let n = more_all rs (deposits_behind x (class_of bare r)) (omega (arith, a.0), omega (arith, a.1)) in
    (omega (arith, a.0, n.0, front_one in_sek (kind_at r) r (cores rs)), omega (arith, a.1, n.1, front_one in_eur (kind_at r) r (cores rs)))

-- The plain sum over the leaves of a tree is that of its deposits.

module _ (f : Currency → ℕ → ℕ) where
  of_role : Role → ℕ
  of_role l = added f (leaf_of l).fields

  of_head : (b : Bool) (i : Item) → added f (cond b (core.Payment i.transfer.fields) (core.Deduction i.transfer.fields)) ≡ 0
  of_head true i = refl
  of_head false i = refl

  of_leaves : (ls : List Role) → total (of_read f) (map Ok (map leaf_of ls)) ≡ total (λ l. added f (leaf_of l).fields) ls
  of_leaves [] = refl
  of_leaves (l ∷ ls) = ap (λ n. added f (leaf_of l).fields + n) (of_leaves ls)

  of_part : (p : Part) → added f (leaf_of (part p)).fields ≡ 0
  of_part (extra true x) = refl
  of_part (extra false x) = refl
  of_part (info t) = refl
  of_part (name t) = refl
  of_part (address1 t) = refl
  of_part (address2 t) = refl
  of_part (company n) = refl

  of_parts : (ps : List Part) → total (λ p. added f (leaf_of (part p)).fields) ps ≡ 0
  of_parts [] = refl
  of_parts (p ∷ ps) = omega (arith, of_part p, of_parts ps)

  nothing : (is : List Item) → total (λ (i : Item). 0) is ≡ 0
  nothing [] = refl
  nothing (i ∷ is) = omega (arith, nothing is)

  of_tree : (r : Tree) → total (of_read f) (map Ok (leaves r)) ≡ total (λ (s : Section). f s.deposit.fields.currency s.deposit.fields.sum) r.sections
  of_tree r =
      let t = tally (λ l. added f (leaf_of l).fields) (λ (i : Item). 0) (λ i. omega (arith, of_head i.payment i, of_parts (written i)))
      (λ (s : Section). f s.deposit.fields.currency s.deposit.fields.sum) (λ s. omega (arith, nothing s.items)) r.end refl r.sections in
      let start : total (λ l. added f (leaf_of l).fields) (roles r) ≡ total (λ (s : Section). f s.deposit.fields.currency s.deposit.fields.sum) r.sections = omega (arith, t) in
      ap (λ ls. total (of_read f) (map Ok ls)) (leaves_roles r) ∙ of_leaves (roles r) ∙ start

-- SLOTS. The records of an entry are whole where they are text.

text_slots : (rs : List (List ℕ)) → AllByRecursion (λ x. every is_text x ≡ true) rs → entry_slots rs ≡ map whole rs
text_slots [] h = refl
text_slots (r ∷ rs) h = λ i. cond-true (every is_text r) (whole r) broken h.0 i ∷ text_slots rs h.1 i

slots_text : (rs qs : List (List ℕ)) → entry_slots rs ≡ map whole qs → AllByRecursion (λ x. every is_text x ≡ true) rs × (qs ≡ rs)
slots_text [] [] h = (tt, refl)
slots_text [] (q ∷ qs) h = let z : ◌≡◌ {A = ℕ} 0 1 = cc in absurd (omega arith)
slots_text (r ∷ rs) [] h = let z : ◌≡◌ {A = ℕ} 0 1 = cc in absurd (omega arith)
slots_text (r ∷ rs) (q ∷ qs) h =
    let first : slot_of r ≡ whole q = cc in
    let rest : entry_slots rs ≡ map whole qs = cc in
    let a = by (every is_text r) refl first in
    let n = slots_text rs qs rest in
    ((a.0, n.0), λ i. a.1 i ∷ n.1 i)
  where
    by : (b : Bool) → every is_text r ≡ b → cond b (whole r) broken ≡ whole q → (every is_text r ≡ true) × (q ≡ r)
    by true e g = (e, let s : r ≡ q = cc in sym s)
    by false e g = let z : ◌≡◌ {A = ℕ} 0 1 = cc in absurd (omega arith)

-- THE THEOREM.

module _ (e : Records) where
  -- what the deposits come to, where the records read so and the sums fit a trailer
  sums : (r : Tree) (c : End) → cores e ≡ map Ok (leaves r) → c ≡ r.end.fields → Fits (totals_of c (deposits_from no_deposits e)) → Sums r (totals_of c (deposits_from no_deposits e))
  sums r c q g fit =
      let m = more_all e no_deposits (omega arith, omega arith) in
      let s : total (of_read in_sek) (cores e) ≡ total (λ (s : Section). in_sek s.deposit.fields.currency s.deposit.fields.sum) r.sections = ap (total (of_read in_sek)) q ∙ of_tree in_sek r in
      let u : total (of_read in_eur) (cores e) ≡ total (λ (s : Section). in_eur s.deposit.fields.currency s.deposit.fields.sum) r.sections = ap (total (of_read in_eur)) q ∙ of_tree in_eur r in
      record {
        payments = ap (λ (x : End). x.payments) g;
        deductions = ap (λ (x : End). x.deductions) g;
        sek = omega (arith, m.0, fit.sek, s);
        eur = omega (arith, m.1, fit.eur, u);
      }

  to : (t : Totals) → reads e ≡ Ok t → ComesTo e t
  unfolding reads
  to t h =
      let a = then_ok (judge not_judging bare 1 begin (entry_slots e)) (deposits_from no_deposits e) t h in
      let r = plain_reading bare (entry_slots e) a.0 a.1 in
      let same = slots_text e r.rs r.are in
      let reads : ReadAs SectionAdds bare e r.tree = subst (λ x. ReadAs SectionAdds bare x r.tree) same.1 r.reads in
      record {
        tree = r.tree;
        follows = record { text = same.0; reads = reads };
        sums = subst (Sums r.tree) a.2 (sums r.tree a.0 reads.read r.counts (subst Fits (sym a.2) (fits e t h)));
      }

  of_reading : (r : Tree) → EntryReads e r → reads e ≡ Ok (totals_of r.end.fields (deposits_from no_deposits e))
  unfolding reads
  of_reading r f =
      ap (λ ss. then (judge not_judging bare 1 begin ss) (λ e'. Ok (totals_of e' (deposits_from no_deposits e)))) (text_slots e f.text)
      ∙ ap (λ o. then o (λ e'. Ok (totals_of e' (deposits_from no_deposits e)))) (plain_accepted bare e r f.reads)

  same_totals : (r : Tree) (t u : Totals) → Sums r t → Sums r u → t ≡ u
  same_totals r t u x y =
      let p : t.payments ≡ u.payments = x.payments ∙ sym y.payments in
      let d : t.deductions ≡ u.deductions = x.deductions ∙ sym y.deductions in
      let s : t.sek ≡ u.sek = x.sek ∙ sym y.sek in
      let c : t.eur ≡ u.eur = x.eur ∙ sym y.eur in
      λ i. record { payments = p i; deductions = d i; sek = s i; eur = c i }

  from : (t : Totals) → ComesTo e t → reads e ≡ Ok t
  from t c =
      let h = of_reading c.tree c.follows in
      h ∙ ap Ok (same_totals c.tree _ t (sums c.tree c.tree.end.fields c.follows.reads.read refl (fits e _ h)) c.sums)

once : (e : Records) (r q : Tree) → EntryReads e r → EntryReads e q → r ≡ q
once e r q f g = same-leaves r q (same_map {B = Result (Read Core) Field} Ok (λ x y h. cc) (leaves r) (leaves q) (sym f.reads.read ∙ g.reads.read))

-- the reading of a file, by all the rules and under any edition, is also that of its records as an entry
adds_only : (ss : List Section) → AllByRecursion SectionStands ss → AllByRecursion SectionAdds ss
adds_only [] h = tt
adds_only (s ∷ ss) h = (h.0.adds, adds_only ss h.1)

all_text : (ls : List Line) → AllByRecursion (λ x. every is_text x ≡ true) (records ls)
all_text [] = tt
all_text (l ∷ ls) = (l.is_whole.1, all_text ls)

pub file_entry : (m : Meaning) (ls : List Line) (r : Tree) → ReadAs SectionStands m (records ls) r → EntryReads (records ls) r
file_entry m ls r f = record {
  text = all_text ls;
  reads = record {
    few = f.few;
    coded = f.coded;
    starts = f.starts;
    read = f.read;
    some_section = f.some_section;
    each_section = adds_only r.sections f.each_section;
    counted = f.counted;
    riders = λ before behind x c l q code k. let none : None ≡ Some l = k in let z : ◌≡◌ {A = ℕ} 0 1 = cc in absurd (omega arith);
  };
}

-- a refusal of the judge is the answer, and only that is one
then_refused : (o : Result End FileFault) (x : Deposits) (f : FileFault) → Exactly (then o (λ e. Ok (totals_of e x)) ≡ Err f) (o ≡ Err f)
then_refused (Ok e) x f = (λ q. let z : ◌≡◌ {A = ℕ} 0 1 = cc in absurd (omega arith), λ q. let z : ◌≡◌ {A = ℕ} 0 1 = cc in absurd (omega arith))
then_refused (Err g) x f = (λ q. let z : g ≡ f = cc in ap Err z, λ q. let z : g ≡ f = cc in ap Err z)

refused_first : (e : Records) (k : ℕ) (c : Cause) → Exactly (reads e ≡ at_record (suc k) c) (FirstWrong not_judging bare (entry_slots e) k c)
unfolding reads
refused_first e k c =
    let a = then_refused (judge not_judging bare 1 begin (entry_slots e)) (deposits_from no_deposits e) (record { number = suc k; cause = c }) in
    let b = first_wrong not_judging bare (entry_slots e) k c in
    (λ q. b.0 (a.0 q), λ w. a.1 (b.1 w))

pub entry_laws : EntryLaws
entry_laws = record { comes = λ e t. (to e t, from e t); once = once; refused_first = refused_first }
