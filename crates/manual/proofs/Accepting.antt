-- Checking is right by the manual: the theorem of specs/Accepting.
use Rattle.std.proofs.Common.{◌≡◌, ℕ, ◌+◌, ◌≤◌, eqb, ◌⊎◌, List, [], ◌∷◌, map, length, Some, None, Ok, Err, Option, Result, sym, refl, ap, ◌∙◌, subst, inl, inr, arith}
use Rattle.std.specs.List.{AllByRecursion}
use Rattle.std.proofs.lemmas.Bool.{false≢true}
use Rattle.field.specs.Chains.{and_then}
use Rattle.record.specs.declared.kinds.Kind.{Kind}
use Rattle.record.specs.declared.kinds.Kind.TheVariants as kind
use Rattle.record.specs.declared.fields.Start.{Start}
use Rattle.record.specs.declared.fields.Core.{Core}
use Rattle.record.specs.declared.fields.End.{End}
use Rattle.record.specs.declared.fields.Field.{Field}
use Rattle.record.specs.declared.editions.Level.{Level}
use Rattle.record.specs.Editions.{Meaning}
use Rattle.record.specs.Rows.{kind_in}
use Rattle.sums.specs.Laws.{distinct}
use Rattle.manual.specs.declared.faults.Cause.TheVariants as cause
use Rattle.manual.specs.declared.faults.FileFault.{FileFault}
use Rattle.manual.specs.Slots.{Slot, whole, front, slots}
use Rattle.manual.specs.Judging.{Mode, begin, judge, check_of}
use Rattle.manual.specs.Laws.{NotBefore, judging, not_judging}
use Rattle.manual.specs.Manual.{records, Read, Item, Section, Tree, Reading, riders_of, leaf, leaves, total, first_kind, cores, last_kind, level_after, SectionAdds, SectionStands, CountsStand, ReadAs, Follows}
use Rattle.manual.specs.Accepting.{Roomy, Right}
use Rattle.manual.proofs.Roles.{Part, Role, start, deposit, end, role_of, role, leaf_of, Run}
use Rattle.manual.proofs.Trees.{written, parts_then, items_roles, sections_roles, roles}
use Rattle.manual.proofs.Unique.{role_leaf, leaf_role, leaves_roles, same-leaves, tally_payments, tally_deductions, tally_extras, tally_deposits}
use Rattle.manual.proofs.Bounds.{Modest, bounded_begin, read_kind, read_modest}
use Rattle.manual.proofs.Sections.{Tame, Section-runs, section_adds, adds_run, section_stands, section_runs}
use Rattle.manual.proofs.Grammar.{Ends, Whole, sound, complete}
use Rattle.manual.proofs.Along.{named, Along, none, core, rider, unknown, level_from, Riders, along_coded, along_cores, along_riders, along}
use Rattle.manual.proofs.Judged.{Ready, judge_ok, ok_judge}
use Rattle.manual.proofs.Slotting.{slots-lines, lines-slots}
use Rattle.manual.proofs.Payers.{more_rows}
use Rattle.manual.proofs.TooShort.{seven}
use Rattle.manual.proofs.FirstWrongs.{first_wrong, nothing_wrong}

-- A file has few records and no amount too large, and so has each of its sections.

along_modest : (m : Meaning) (o : Option Level) (rs : List (List ℕ)) (ls : List Role) → Along m o rs ls → AllByRecursion Modest ls × (length ls ≤ length rs)
along_modest m _ _ _ (none o) = (tt, omega arith)
along_modest m _ _ _ (core o c k f r rs ls e g u q w a) =
    let n = along_modest m _ rs ls a in
    ((read_modest k _ f (named k r) q, n.0), omega (arith, n.1))
along_modest m _ _ _ (rider o c v r rs ls e g k l q w a) = let n = along_modest m _ rs ls a in (n.0, omega (arith, n.1))
along_modest m _ _ _ (unknown o c r rs ls e g u w a) = let n = along_modest m _ rs ls a in (n.0, omega (arith, n.1))

-- the roles behind some front have no amount too large, and are so many fewer
record Left (front : ℕ) (all rest : List Role) : Type 0 where
  modest : AllByRecursion Modest rest
  fewer : front + length rest ≤ length all

left_parts : (ps : List Part) (k : List Role) → AllByRecursion Modest (parts_then ps k) → Left 0 (parts_then ps k) k
left_parts [] k h = record { modest = h; fewer = omega arith }
left_parts (p ∷ ps) k h = let n = left_parts ps k h.1 in record { modest = n.modest; fewer = omega (arith, n.fewer) }

left_items : (is : List Item) (k : List Role) → AllByRecursion Modest (items_roles is k) → AllByRecursion (λ (i : Item). i.transfer.fields.amount ≤ 9999999999999) is × Left (length is) (items_roles is k) k
left_items [] k h = (tt, record { modest = h; fewer = omega arith })
left_items (i ∷ is) k h =
    let p = left_parts (written i) (items_roles is k) h.1 in
    let n = left_items is k p.modest in
    ((h.0, n.0), record { modest = n.1.modest; fewer = omega (arith, n.1.fewer, p.fewer) })

tame_sections : (ss : List Section) (k : List Role) → AllByRecursion Modest (sections_roles ss k) → length (sections_roles ss k) ≤ 50000 → AllByRecursion (λ (s : Section). Tame s.items) ss
tame_sections [] k h few = tt
tame_sections (s ∷ ss) k h few =
    let n = left_items s.items (deposit s.deposit ∷ sections_roles ss k) h.1 in
    (record { few = omega (arith, few, n.1.fewer); small = n.0 }, tame_sections ss k n.1.modest.1 (omega (arith, few, n.1.fewer)))

-- the rules of each section, by the machine's run over it
module _ (mode : Mode) (rules : Section → Type 0) where
  -- they hold of tame sections exactly where the machine passes
  pub record RunsBy : Type 0 where
    pub to : (s : Section) → Tame s.items → Section-runs mode s → rules s
    pub from : (s : Section) → Tame s.items → rules s → Section-runs mode s

  all_stand : RunsBy → (ss : List Section) → AllByRecursion (λ (s : Section). Tame s.items) ss → AllByRecursion (Section-runs mode) ss → AllByRecursion rules ss
  all_stand by [] t h = tt
  all_stand by (s ∷ ss) t h = (by.to s t.0 h.0, all_stand by ss t.1 h.1)

  all_run : RunsBy → (ss : List Section) → AllByRecursion (λ (s : Section). Tame s.items) ss → AllByRecursion rules ss → AllByRecursion (Section-runs mode) ss
  all_run by [] t h = tt
  all_run by (s ∷ ss) t h = (by.from s t.0 h.0, all_run by ss t.1 h.1)

-- The counts of a reading, from none on.

counts_end : (r : Tree) (e : End) → Ends begin.counts (roles r) e → CountsStand r.sections e
counts_end r e h = record {
  payments = omega (arith, h.0, tally_payments r.sections r.end);
  deductions = omega (arith, h.1, tally_deductions r.sections r.end);
  extras = omega (arith, h.2, tally_extras r.sections r.end);
  deposits = omega (arith, h.3, tally_deposits r.sections r.end);
}

end-counts : (r : Tree) (e : End) → CountsStand r.sections e → Ends begin.counts (roles r) e
end-counts r e h = (
  omega (arith, h.payments, tally_payments r.sections r.end),
  omega (arith, h.deductions, tally_deductions r.sections r.end),
  omega (arith, h.extras, tally_extras r.sections r.end),
  omega (arith, h.deposits, tally_deposits r.sections r.end),
)

-- two ends of one run are equal
one_end : (ls : List Role) (c e f : End) → Ends c ls e → Ends c ls f → e ≡ f
one_end ls c e f h g =
    let p : e.payments ≡ f.payments = omega (arith, h.0, g.0) in
    let q : e.deductions ≡ f.deductions = omega (arith, h.1, g.1) in
    let r : e.extras ≡ f.extras = omega (arith, h.2, g.2) in
    let t : e.deposits ≡ f.deposits = omega (arith, h.3, g.3) in
    λ i. record { payments = p i; deductions = q i; extras = r i; deposits = t i }

-- Small bridges.

level-none : (l : Option Kind) → level_from None l ≡ and_then l level_after
level-none None = refl
level-none (Some k) = refl

role_leaves : (ls : List Role) → map role (map leaf_of ls) ≡ ls
role_leaves [] = refl
role_leaves (l ∷ ls) = λ i. role_leaf l i ∷ role_leaves ls i

-- the first record of a run that begins is a start record
starts : (m : Meaning) (o : Option Level) (rs : List (List ℕ)) (ls : List Role) (x : Read Start) (rest : List Role) → Along m o rs ls → ls ≡ start x ∷ rest → Ready begin rs → first_kind rs ≡ Some kind.Start
starts m _ _ _ x rest (none o) e ready = let z : ◌≡◌ {A = ℕ} 0 1 = cc in absurd (omega arith)
starts m _ _ _ x rest (core o c k f r rs ls ec g u q w a) e ready =
    let same : role_of f (named k r) ≡ start x = cc in
    g ∙ ap Some (sym (read_kind k _ f q) ∙ ap (λ (l : Read Core). kind_in l.fields) (sym (leaf_role (leaf f (named k r)))) ∙ ap (λ (l : Role). kind_in (leaf_of l).fields) same)
starts m _ _ _ x rest (rider o c v r rs ls ec g k l q w a) e ready = absurd (false≢true (ready g))
starts m _ _ _ x rest (unknown o c r rs ls ec g u w a) e ready = absurd (false≢true (ready g))

pub same_map : {A B : Type 0} (f : A → B) → ((x y : A) → f x ≡ f y → x ≡ y) → (xs ys : List A) → map f xs ≡ map f ys → xs ≡ ys
same_map f one [] [] h = refl
same_map f one [] (y ∷ ys) h = let z : ◌≡◌ {A = ℕ} 0 1 = cc in absurd (omega arith)
same_map f one (x ∷ xs) [] h = let z : ◌≡◌ {A = ℕ} 0 1 = cc in absurd (omega arith)
same_map f one (x ∷ xs) (y ∷ ys) h =
    let first : f x ≡ f y = cc in
    let rest : map f xs ≡ map f ys = cc in
    λ i. one x y first i ∷ same_map f one xs ys rest i

-- RECORDS. What is accepted, with payers judged or not, reads by the rules of the mode, and what reads so is accepted.

module _ (mode : Mode) (rules : Section → Type 0) (by : RunsBy mode rules) (m : Meaning) where
  -- accepted slots are records with a reading
  pub record HasTree (ss : List Slot) (e : End) : Type 0 where
    pub rs : List (List ℕ)
    pub are : ss ≡ map whole rs
    pub tree : Tree
    pub reads : ReadAs rules m rs tree
    pub counts : e ≡ tree.end.fields

  pub has_reading : (ss : List Slot) (e : End) → judge mode m 1 begin ss ≡ Ok e → HasTree ss e
  has_reading ss e h =
      let a = judge_ok mode m ss 0 begin e (omega arith) bounded_begin h in
      let w : Whole mode begin.counts a.roles = sound mode a.roles begin a.runs in
      let r : Tree = w.reading in
      let rs : List (List ℕ) = a.records in
      let goes : Along m None rs (roles r) = subst (λ x. Along m None rs x) w.lies a.goes in
      let many : length rs ≤ 50000 = omega (arith, a.few) in
      let small = along_modest m None rs (roles r) goes in
      let tame = tame_sections r.sections (end r.end ∷ []) small.0.1 (omega (arith, small.1, many)) in
      let riders = along_riders m None rs (roles r) goes in
      record {
        rs = rs;
        are = a.whole;
        tree = r;
        reads = record {
          few = many;
          coded = along_coded m None rs (roles r) goes;
          starts = starts m None rs (roles r) r.start _ goes refl a.ready;
          read = along_cores m None rs (roles r) goes ∙ ap (map Ok) (sym (leaves_roles r));
          some_section = w.some;
          each_section = all_stand mode rules by r.sections tame w.runs;
          counted = counts_end r r.end.fields (subst (λ x. Ends begin.counts x r.end.fields) w.lies w.counted);
          riders = λ before behind x c v q code k.
              let h = riders before behind x c v q code k in
              record { level = sym (level-none (last_kind before)) ∙ h.0; formed = h.1 };
        };
        counts = one_end a.roles begin.counts e r.end.fields a.counted w.counted;
      }

  -- records with a reading are accepted
  pub read_accepted : (rs : List (List ℕ)) (r : Tree) → ReadAs rules m rs r → judge mode m 1 begin (map whole rs) ≡ Ok r.end.fields
  read_accepted rs r f =
      let riders : Riders m None rs = λ before behind x c v q code k. let h = f.riders before behind x c v q code k in (level-none (last_kind before) ∙ h.level, h.formed) in
      let same : map role (leaves r) ≡ roles r = ap (map role) (leaves_roles r) ∙ role_leaves (roles r) in
      let goes : Along m None rs (roles r) = subst (λ x. Along m None rs x) same (along m rs None (leaves r) f.coded f.read riders) in
      let many : length rs ≤ 50000 = f.few in
      let small = along_modest m None rs (roles r) goes in
      let tame = tame_sections r.sections (end r.end ∷ []) small.0.1 (omega (arith, small.1, many)) in
      let ends : Ends begin.counts (roles r) r.end.fields = end-counts r r.end.fields f.counted in
      let run : Run mode begin (roles r) = complete mode r begin.counts begin.section begin.item f.some_section (all_run mode rules by r.sections tame f.each_section) ends in
      ok_judge mode m r.end.fields None rs (roles r) goes 0 begin refl (ready rs f.starts) (omega (arith, many)) bounded_begin run ends
    where
      ready : (rs : List (List ℕ)) → first_kind rs ≡ Some kind.Start → Ready begin rs
      ready [] h = tt
      ready (r ∷ rs) h = λ e. let g : None ≡ Some kind.Start = sym e ∙ h in let z : ◌≡◌ {A = ℕ} 0 1 = cc in absurd (omega arith)

-- other rules for the sections of a reading
pub reads_by : (one two : Section → Type 0) (m : Meaning) (rs : List (List ℕ)) (r : Tree) → AllByRecursion two r.sections → ReadAs one m rs r → ReadAs two m rs r
reads_by one two m rs r all f = record {
  few = f.few;
  coded = f.coded;
  starts = f.starts;
  read = f.read;
  some_section = f.some_section;
  each_section = all;
  counted = f.counted;
  riders = f.riders;
}

-- FILES. Accepted files have a reading.

-- by a table of so many rows, all the rules and a roomy section
abbrev Judged : ℕ → Section → Type 0
Judged cap s = SectionStands s × Roomy cap s

judged_by : (cap : ℕ) → RunsBy (judging cap) (Judged cap)
judged_by cap = record { to = section_stands cap; from = λ s t h. section_runs cap s t h.0 h.1 }

both_parts : (P Q : Section → Type 0) (ss : List Section) → AllByRecursion (λ s. P s × Q s) ss → AllByRecursion P ss × AllByRecursion Q ss
both_parts P Q [] h = (tt, tt)
both_parts P Q (s ∷ ss) h = let n = both_parts P Q ss h.1 in ((h.0.0, n.0), (h.0.1, n.1))

both_from : (P Q : Section → Type 0) (ss : List Section) → AllByRecursion P ss → AllByRecursion Q ss → AllByRecursion (λ s. P s × Q s) ss
both_from P Q [] h k = tt
both_from P Q (s ∷ ss) h k = ((h.0, k.0), both_from P Q ss h.1 k.1)

accepted : (cap : ℕ) (m : Meaning) (bs : List ℕ) (e : End) → check_of (judging cap) m bs ≡ Ok e → (r : Reading) × Follows m bs r × AllByRecursion (Roomy cap) r.tree.sections × (e ≡ r.tree.end.fields)
accepted cap m bs e h =
    let a = has_reading (judging cap) (Judged cap) (judged_by cap) m (slots bs) e h in
    let ls = lines-slots bs a.rs a.are in
    let both = both_parts SectionStands (Roomy cap) a.tree.sections a.reads.each_section in (
      record { tree = a.tree; riders = riders_of m (records ls.0) },
      record {
        lines = ls.0;
        whole = ls.1;
        reads = subst (λ x. ReadAs SectionStands m x a.tree) (sym ls.2) (reads_by (Judged cap) SectionStands m a.rs a.tree both.0 a.reads);
        ridden = refl;
      },
      both.1,
      a.counts,
    )

-- the slots of the bytes are the records of the lines
its_slots : (m : Meaning) (bs : List ℕ) (r : Reading) → (f : Follows m bs r) → slots bs ≡ map whole (records f.lines)
its_slots m bs r f = ap slots f.whole ∙ slots-lines f.lines

-- the whole records of whole slots, and so of a file that follows the manual
pub front_whole : (rs : List (List ℕ)) → front (map whole rs) ≡ rs
front_whole [] = refl
front_whole (r ∷ rs) = ap (λ l. r ∷ l) (front_whole rs)

pub front_lines : (m : Meaning) (bs : List ℕ) (r : Reading) → (f : Follows m bs r) → front (slots bs) ≡ records f.lines
front_lines m bs r f = ap front (its_slots m bs r f) ∙ front_whole (records f.lines)

-- Files with a reading are accepted, where the table has rows enough.

accepts : (cap : ℕ) (m : Meaning) (bs : List ℕ) (r : Reading) → Follows m bs r → AllByRecursion (Roomy cap) r.tree.sections → check_of (judging cap) m bs ≡ Ok r.tree.end.fields
accepts cap m bs r f roomy =
    let rs : List (List ℕ) = records f.lines in
    let both = both_from SectionStands (Roomy cap) r.tree.sections f.reads.each_section roomy in
    ap (judge (judging cap) m 1 begin) (its_slots m bs r f)
    ∙ read_accepted (judging cap) (Judged cap) (judged_by cap) m rs r.tree (reads_by SectionStands (Judged cap) m rs r.tree both f.reads)

-- A file has one reading.

one_reading : (m : Meaning) (bs : List ℕ) (r q : Reading) → Follows m bs r → Follows m bs q → r ≡ q
one_reading m bs r q f g =
    let lines : records f.lines ≡ records g.lines = same_map whole (λ x y e. cc) (records f.lines) (records g.lines) (sym (its_slots m bs r f) ∙ its_slots m bs q g) in
    let read : map Ok (leaves r.tree) ≡ map Ok (leaves q.tree) = sym f.reads.read ∙ ap cores lines ∙ g.reads.read in
    let tree = same-leaves r.tree q.tree (same_map {B = Result (Read Core) Field} Ok (λ x y e. cc) (leaves r.tree) (leaves q.tree) read) in
    let riders : r.riders ≡ q.riders = sym f.ridden ∙ ap (riders_of m) lines ∙ g.ridden in
    λ i. record { tree = tree i; riders = riders i }

-- ENTRIES. Records with payers not judged.

pub plainly_by : RunsBy not_judging SectionAdds
plainly_by = record { to = λ s t h. section_adds not_judging s h; from = λ s t h. adds_run s h }

pub plain_reading : (m : Meaning) (ss : List Slot) (e : End) → judge not_judging m 1 begin ss ≡ Ok e → HasTree not_judging SectionAdds plainly_by m ss e
plain_reading m ss e h = has_reading not_judging SectionAdds plainly_by m ss e h

pub plain_accepted : (m : Meaning) (rs : List (List ℕ)) (r : Tree) → ReadAs SectionAdds m rs r → judge not_judging m 1 begin (map whole rs) ≡ Ok r.end.fields
plain_accepted m rs r f = read_accepted not_judging SectionAdds plainly_by m rs r f

-- A file that is refused has none, unless by 7.

-- a table with a row for every payer of every section is roomy for each
abbrev needed : Section → ℕ
needed s = distinct eqb (map (λ (i : Item). i.transfer.fields.payer) s.items)

all_roomy : (ss : List Section) (rows : ℕ) → total needed ss ≤ rows → AllByRecursion (Roomy rows) ss
all_roomy [] rows h = tt
all_roomy (s ∷ ss) rows h = (omega (arith, h), all_roomy ss rows (omega (arith, h)))

refused : (cap : ℕ) (m : Meaning) (bs : List ℕ) (f : FileFault) → check_of (judging cap) m bs ≡ Err f → (f.cause ≡ cause.NoPlace → ⊥) → (r : Reading) → Follows m bs r → ⊥
refused cap m bs f h other r g = by (more_rows cap big m bs (omega arith))
  where
    big : ℕ
    big = cap + total needed r.tree.sections

    ok : check_of (judging big) m bs ≡ Ok r.tree.end.fields
    ok = accepts big m bs r g (all_roomy r.tree.sections big (omega arith))

    by : (check_of (judging cap) m bs ≡ check_of (judging big) m bs) ⊎ ((k : FileFault) × (check_of (judging cap) m bs ≡ Err k) × (k.cause ≡ cause.NoPlace) × NotBefore k.number (check_of (judging big) m bs)) → ⊥
    by (inl e) = let q : Err f ≡ Ok r.tree.end.fields = sym h ∙ e ∙ ok in let z : ◌≡◌ {A = ℕ} 0 1 = cc in absurd (omega arith)
    by (inr (k, e, full, later)) =
        let q : Err f ≡ Err k = sym h ∙ e in
        let same : f ≡ k = cc in
        other (ap (λ (x : FileFault). x.cause) same ∙ full)

pub right : (cap : ℕ) (m : Meaning) (bs : List ℕ) → Right cap m bs (check_of (judging cap) m bs)
right cap m bs = record {
  accepted = accepted cap m bs;
  accepts = accepts cap m bs;
  one_reading = one_reading m bs;
  seven = seven cap m bs;
  refused = refused cap m bs;
  refused_first = first_wrong (judging cap) m (slots bs);
  nothing_wrong = nothing_wrong (judging cap) m (slots bs);
}
