-- The judge accepts slots exactly where they are whole records, at most 50,000, over whose roles the machine runs.
use Rattle.std.proofs.Common.{◌≡◌, ℕ, suc, ◌+◌, ◌≤◌, Bool, true, false, cond, leb, List, [], ◌∷◌, map, length, Some, None, Ok, Err, Option, Result, sym, refl, ap, ◌∙◌, subst, arith}
use Rattle.std.specs.List.{between}
use Rattle.std.proofs.lemmas.Bool.{false≢true, cond-true, leb-true, le-leb}
use Rattle.record.specs.declared.kinds.Kind.{Kind}
use Rattle.record.specs.declared.fields.Core.{Core}
use Rattle.record.specs.declared.fields.Core.TheVariants as core
use Rattle.record.specs.declared.fields.End.{End}
use Rattle.record.specs.declared.fields.Field.{Field}
use Rattle.record.specs.declared.editions.Level.{Level}
use Rattle.record.specs.declared.editions.Level.TheVariants as level
use Rattle.record.specs.declared.classes.Class.{Class}
use Rattle.record.specs.declared.classes.Class.TheVariants as class
use Rattle.record.specs.Layouts.{read_core}
use Rattle.record.specs.Rows.{kind_in}
use Rattle.record.specs.Codes.{code_in}
use Rattle.record.specs.Classes.{class_of}
use Rattle.record.specs.Editions.{Meaning}
use Rattle.record.specs.Laws.{kind_at}
use Rattle.manual.specs.declared.faults.Cause.{Cause}
use Rattle.manual.specs.declared.faults.Cause.TheVariants as cause
use Rattle.manual.specs.declared.faults.FileFault.{FileFault}
use Rattle.manual.specs.declared.places.Place.{Place}
use Rattle.manual.specs.declared.places.Place.TheVariants as place
use Rattle.manual.specs.Slots.{Slot, whole, broken}
use Rattle.manual.specs.Judging.{Mode, State, begun, is_file, is_section, is_item, sits, moved, core_tests, tests, step, ended, at_record, then_on, judge}
use Rattle.manual.specs.Manual.{level_after}
use Rattle.manual.proofs.Roles.{Role, start, opening, head, part, deposit, end, role_of, place_behind, role_tests, behind, Run}
use Rattle.manual.proofs.Steps.{Passes, passing, passed}
use Rattle.manual.proofs.Grammar.{Ends, ends_back, ends_on}
use Rattle.manual.proofs.Bounds.{Bounded, Modest, bounded_kept, bounded_on, same_tests, same_after, read_kind, read_modest}
use Rattle.manual.proofs.Classes as classes
use Rattle.manual.proofs.Classes.{Seen, seen}
use Rattle.manual.proofs.Along.{named, Along, none, core as core_next, rider as rider_next, unknown as unknown_next}

-- Levels of places.

abbrev pub level_at : Place → Option Level
level_at place.Fresh = None
level_at place.Begun = Some level.File
level_at place.Opened = Some level.Section
level_at (place.Within st) = Some level.Item
level_at place.Between = Some level.File
level_at place.Done = None

level_behind : (f : Core) (t : List ℕ) → level_at (place_behind (role_of f t)) ≡ level_after (kind_in f)
level_behind (core.Start x) t = refl
level_behind (core.Opening x) t = refl
level_behind (core.Deposit x) t = refl
level_behind (core.Payment x) t = refl
level_behind (core.Deduction x) t = refl
level_behind (core.ExtraReference x) t = refl
level_behind (core.NegativeReference x) t = refl
level_behind core.Information t = refl
level_behind core.Name t = refl
level_behind core.AddressOne t = refl
level_behind core.AddressTwo t = refl
level_behind (core.CompanyNumber n) t = refl
level_behind (core.End x) t = refl

begun_behind : (l : Role) → begun (place_behind l) ≡ true
begun_behind (start x) = refl
begun_behind (opening x) = refl
begun_behind (head b x) = refl
begun_behind (part p) = refl
begun_behind (deposit x) = refl
begun_behind (end x) = refl

-- the three tests of a level
the_file : (v : Level) → is_file v ≡ true → level.File ≡ v
the_file level.File h = refl
the_file level.Section h = absurd (false≢true h)
the_file level.Item h = absurd (false≢true h)

the_section : (v : Level) → is_section v ≡ true → level.Section ≡ v
the_section level.File h = absurd (false≢true h)
the_section level.Section h = refl
the_section level.Item h = absurd (false≢true h)

the_item : (v : Level) → is_item v ≡ true → level.Item ≡ v
the_item level.File h = absurd (false≢true h)
the_item level.Section h = absurd (false≢true h)
the_item level.Item h = refl

-- a rider sits exactly at the level of its place
pub seated : (p : Place) (v : Level) → sits p v ≡ true → level_at p ≡ Some v
seated place.Fresh v h = absurd (false≢true h)
seated place.Begun v h = ap Some (the_file v h)
seated place.Opened v h = ap Some (the_section v h)
seated (place.Within st) v h = ap Some (the_item v h)
seated place.Between v h = ap Some (the_file v h)
seated place.Done v h = absurd (false≢true h)

pub seats : (p : Place) (v : Level) → level_at p ≡ Some v → sits p v ≡ true
seats place.Fresh v h = let z : ◌≡◌ {A = ℕ} 0 1 = cc in absurd (omega arith)
seats place.Begun v h = let q : level.File ≡ v = cc in subst (λ u. is_file u ≡ true) q refl
seats place.Opened v h = let q : level.Section ≡ v = cc in subst (λ u. is_section u ≡ true) q refl
seats (place.Within st) v h = let q : level.Item ≡ v = cc in subst (λ u. is_item u ≡ true) q refl
seats place.Between v h = let q : level.File ≡ v = cc in subst (λ u. is_file u ≡ true) q refl
seats place.Done v h = let z : ◌≡◌ {A = ℕ} 0 1 = cc in absurd (omega arith)

-- before the start record only a core record may stand
abbrev pub Ready : State → List (List ℕ) → Type 0
Ready s [] = Unit {0}
Ready s (r ∷ rs) = kind_at r ≡ None → begun s.place ≡ true

ready_begun : (s : State) (rs : List (List ℕ)) → begun s.place ≡ true → Ready s rs
ready_begun s [] h = tt
ready_begun s (r ∷ rs) h = λ e. h

-- From an accepted list of slots, of which n stand before.
pub record Accepted (mode : Mode) (m : Meaning) (n : ℕ) (s : State) (ss : List Slot) (e : End) : Type 0 where
  pub records : List (List ℕ)
  pub roles : List Role
  pub whole : ss ≡ map whole records
  pub few : n + length records ≤ 50000
  pub goes : Along m (level_at s.place) records roles
  pub runs : Run mode s roles
  pub counted : Ends s.counts roles e
  pub ready : Ready s records

-- what an accepted end, and an accepted step, say
pub ended_ok : (b : Bool) (n : ℕ) (c e : End) → cond b (Ok c) (at_record n cause.Unfinished) ≡ Ok e → (b ≡ true) × (c ≡ e)
ended_ok true n c e q = (refl, cc)
ended_ok false n c e q = let z : ◌≡◌ {A = ℕ} 0 1 = cc in absurd (omega arith)

pub step_ok : (few : Bool) (o : Result State Cause) (n : ℕ) (go : State → Result End FileFault) (e : End) → cond few (then_on o n go) (at_record n cause.TooMany) ≡ Ok e
    → (few ≡ true) × ((t : State) × (o ≡ Ok t) × (go t ≡ Ok e))
step_ok true (Ok t) n go e q = (refl, (t, refl, q))
step_ok true (Err c) n go e q = let z : ◌≡◌ {A = ℕ} 0 1 = cc in absurd (omega arith)
step_ok false o n go e q = let z : ◌≡◌ {A = ℕ} 0 1 = cc in absurd (omega arith)

module _ (mode : Mode) (m : Meaning) (r : List ℕ) (ss : List Slot) (n : ℕ) (s : State) (e : End) (few : n ≤ 50000) (bound : Bounded n s)
    (ih : (t : State) → Bounded (suc n) t → judge mode m (suc (suc n)) t ss ≡ Ok e → Accepted mode m (suc n) t ss e) where
  -- a record that leaves the state as it was
  kept : ((rs : List (List ℕ)) (ls : List Role) → Along m (level_at s.place) rs ls → Along m (level_at s.place) (r ∷ rs) ls) → begun s.place ≡ true
      → judge mode m (suc (suc n)) s ss ≡ Ok e → Accepted mode m n s (whole r ∷ ss) e
  kept next ready q =
      let a = ih s (bounded_kept n s bound) q in
      record {
        records = r ∷ a.records;
        roles = a.roles;
        whole = ap (λ l. whole r ∷ l) a.whole;
        few = omega (arith, a.few);
        goes = next a.records a.roles a.goes;
        runs = a.runs;
        counted = a.counted;
        ready = λ h. ready;
      }

  over-core : (c : ℕ) (k : Kind) (f : Core) → code_in r ≡ Some c → kind_at r ≡ Some k → m.level c ≡ None → read_core k (between 2 (length r) r) ≡ Ok f → class_of m r ≡ class.Core k (Ok f)
      → (t : State) → step mode s (class.Core k (Ok f)) ≡ Ok t → judge mode m (suc (suc n)) t ss ≡ Ok e → Accepted mode m n s (whole r ∷ ss) e
  over-core c k f code kind beyond read is t h q =
      let l : Role = role_of f (named k r) in
      let same : kind_in f ≡ k = read_kind k (between 2 (length r) r) f read in
      let modest : Modest l = read_modest k (between 2 (length r) r) f (named k r) read in
      let p = passed (core_tests mode s k (Ok f)) (moved mode s k f) t h in
      let passes : Passes (role_tests mode s l) = subst Passes (ap (λ j. core_tests mode s j (Ok f)) (sym same) ∙ same_tests mode n s f (named k r) few bound) p.0 in
      let next : behind mode s l ≡ t = sym (same_after mode n s f (named k r) few bound modest) ∙ ap (λ j. moved mode s j f) same ∙ p.1 in
      let a = ih (behind mode s l) (bounded_on mode n s l bound modest) (subst (λ u. judge mode m (suc (suc n)) u ss ≡ Ok e) (sym next) q) in
      record {
        records = r ∷ a.records;
        roles = l ∷ a.roles;
        whole = ap (λ x. whole r ∷ x) a.whole;
        few = omega (arith, a.few);
        goes = core_next (level_at s.place) c k f r a.records a.roles code kind beyond read is (subst (λ o. Along m o a.records a.roles) (level_behind f (named k r) ∙ ap level_after same) a.goes);
        runs = (passes, a.runs);
        counted = ends_back s.counts l a.roles e a.counted;
        ready = λ h. let g : None ≡ Some k = sym h ∙ kind in let z : ◌≡◌ {A = ℕ} 0 1 = cc in absurd (omega arith);
      }

  over-read : (c : ℕ) (k : Kind) (read : Result Core Field) → code_in r ≡ Some c → kind_at r ≡ Some k → m.level c ≡ None → read_core k (between 2 (length r) r) ≡ read → class_of m r ≡ class.Core k read
      → (t : State) → step mode s (class.Core k read) ≡ Ok t → judge mode m (suc (suc n)) t ss ≡ Ok e → Accepted mode m n s (whole r ∷ ss) e
  over-read c k (Ok f) code kind beyond read is t h q = over-core c k f code kind beyond read is t h q
  over-read c k (Err f) code kind beyond read is t h q = absurd (false≢true (passed (core_tests mode s k (Err f)) s t h).0.1.0)

  over : (x : Class) → class_of m r ≡ x → Seen m r x → (t : State) → step mode s x ≡ Ok t → judge mode m (suc (suc n)) t ss ≡ Ok e → Accepted mode m n s (whole r ∷ ss) e
  over _ is (classes.bad code) t h q = absurd (false≢true (passed (tests mode s class.BadCode) s t h).0.0)
  over _ is (classes.core c k code kind beyond) t h q = over-read c k (read_core k (between 2 (length r) r)) code kind beyond refl is t h q
  over _ is (classes.rider c v code kind knows) t h q =
      let p = passed (tests mode s (class.Rider (record { code = c; level = v; formed = m.formed c r }))) s t h in
      kept (λ rs ls a. rider_next (level_at s.place) c v r rs ls code kind knows (seated s.place v p.0.1.0) p.0.1.1.0 is a) p.0.0 (subst (λ u. judge mode m (suc (suc n)) u ss ≡ Ok e) (sym p.1) q)
  over _ is (classes.unknown c code kind beyond) t h q =
      let p = passed (tests mode s class.Unknown) s t h in
      kept (λ rs ls a. unknown_next (level_at s.place) c r rs ls code kind beyond is a) p.0.0 (subst (λ u. judge mode m (suc (suc n)) u ss ≡ Ok e) (sym p.1) q)

pub judge_ok : (mode : Mode) (m : Meaning) (ss : List Slot) (n : ℕ) (s : State) (e : End) → n ≤ 50000 → Bounded n s → judge mode m (suc n) s ss ≡ Ok e → Accepted mode m n s ss e
judge_ok mode m [] n s e few bound q =
    let a = ended_ok (ended s.place) (suc n) s.counts e q in
    record {
      records = [];
      roles = [];
      whole = refl;
      few = omega arith;
      goes = none _;
      runs = a.0;
      counted = subst (λ (c : End). Ends s.counts [] c) a.1 (omega arith, omega arith, omega arith, omega arith);
      ready = tt;
    }
judge_ok mode m (broken ∷ ss) n s e few bound q =
    let a = step_ok (leb (suc n) 50000) (Err cause.Broken) (suc n) (λ t. judge mode m (suc (suc n)) t ss) e q in
    let f = a.1.1 in let z : ◌≡◌ {A = ℕ} 0 1 = cc in absurd (omega arith)
judge_ok mode m (whole r ∷ ss) n s e few bound q =
    let a = step_ok (leb (suc n) 50000) (step mode s (class_of m r)) (suc n) (λ t. judge mode m (suc (suc n)) t ss) e q in
    let more : suc n ≤ 50000 = leb-true _ _ a.0 in
    over mode m r ss n s e few bound (λ t b h. judge_ok mode m ss (suc n) t e more b h) (class_of m r) refl (seen m r) a.1.0 a.1.1 a.1.2

-- And back.

module _ (mode : Mode) (m : Meaning) (e : End) where
  -- one record further, where its step passes
  on_judge : (n : ℕ) (s t : State) (r : List ℕ) (x : Class) (rs : List (List ℕ)) → suc n ≤ 50000 → class_of m r ≡ x → step mode s x ≡ Ok t
      → judge mode m (suc n) s (map whole (r ∷ rs)) ≡ judge mode m (suc (suc n)) t (map whole rs)
  on_judge n s t r x rs few is h =
      let go : State → Result End FileFault = λ t. judge mode m (suc (suc n)) t (map whole rs) in
      cond-true _ _ _ (le-leb (suc n) 50000 few) ∙ ap (λ y. then_on (step mode s y) (suc n) go) is ∙ ap (λ o. then_on o (suc n) go) h

  pub ok_judge : (o : Option Level) (rs : List (List ℕ)) (ls : List Role) → Along m o rs ls → (n : ℕ) (s : State) → level_at s.place ≡ o → Ready s rs
      → n + length rs ≤ 50000 → Bounded n s → Run mode s ls → Ends s.counts ls e → judge mode m (suc n) s (map whole rs) ≡ Ok e
  ok_judge _ _ _ (none o) n s lv ready few bound run ends =
      let p : s.counts.payments ≡ e.payments = omega (arith, ends.0) in
      let q : s.counts.deductions ≡ e.deductions = omega (arith, ends.1) in
      let r : s.counts.extras ≡ e.extras = omega (arith, ends.2) in
      let t : s.counts.deposits ≡ e.deposits = omega (arith, ends.3) in
      cond-true (ended s.place) _ _ run ∙ (λ i. Ok (record { payments = p i; deductions = q i; extras = r i; deposits = t i }))
  ok_judge _ _ _ (core_next o c k f r rs ls code kind beyond read is a) n s lv ready few bound run ends =
      let l : Role = role_of f (named k r) in
      let same : kind_in f ≡ k = read_kind k (between 2 (length r) r) f read in
      let modest : Modest l = read_modest k (between 2 (length r) r) f (named k r) read in
      let small : n ≤ 50000 = omega arith in
      let passes : Passes (core_tests mode s k (Ok f)) = subst Passes (sym (ap (λ j. core_tests mode s j (Ok f)) (sym same) ∙ same_tests mode n s f (named k r) small bound)) run.0 in
      let next : moved mode s k f ≡ behind mode s l = ap (λ j. moved mode s j f) (sym same) ∙ same_after mode n s f (named k r) small bound modest in
      on_judge n s (behind mode s l) r (class.Core k (Ok f)) rs (omega arith) is (passing (core_tests mode s k (Ok f)) (moved mode s k f) passes ∙ ap Ok next)
      ∙ ok_judge _ rs ls a (suc n) (behind mode s l) (level_behind f (named k r) ∙ ap level_after same) (ready_begun (behind mode s l) rs (begun_behind l)) (omega arith) (bounded_on mode n s l bound modest) run.1 (ends_on s.counts l ls e ends)
  ok_judge _ _ _ (rider_next o c v r rs ls code kind knows at formed is a) n s lv ready few bound run ends =
      let x : Class = class.Rider (record { code = c; level = v; formed = m.formed c r }) in
      on_judge n s s r x rs (omega arith) is (passing (tests mode s x) s (ready kind, (seats s.place v (lv ∙ at), (formed, tt))))
      ∙ ok_judge _ rs ls a (suc n) s lv (ready_begun s rs (ready kind)) (omega arith) (bounded_kept n s bound) run ends
  ok_judge _ _ _ (unknown_next o c r rs ls code kind beyond is a) n s lv ready few bound run ends =
      on_judge n s s r class.Unknown rs (omega arith) is (passing (tests mode s class.Unknown) s (ready kind, tt))
      ∙ ok_judge _ rs ls a (suc n) s lv (ready_begun s rs (ready kind)) (omega arith) (bounded_kept n s bound) run ends
