-- The copy of a file that follows the manual follows it with the same reading.
use Rattle.std.proofs.Common.{◌≡◌, ℕ, suc, ◌≤◌, Bool, true, false, List, [], ◌∷◌, ◌++◌, map, length, is_some, Some, None, Ok, Option, sym, refl, ap, ◌∙◌, subst, inl, inr, arith}
use Rattle.std.specs.List.{between, AllByRecursion}
use Rattle.std.proofs.lemmas.Bool.{false≢true}
use Rattle.field.specs.Chains.{and_then}
use Rattle.record.specs.declared.kinds.Kind.{Kind}
use Rattle.record.specs.declared.kinds.Kind.TheVariants as kind
use Rattle.record.specs.declared.editions.Level.{Level}
use Rattle.record.specs.declared.lines.LineEnd.TheVariants.{CrLf}
use Rattle.record.specs.declared.classes.Class.{Class}
use Rattle.record.specs.declared.classes.Class.TheVariants as class
use Rattle.record.specs.Layouts.{read_core}
use Rattle.record.specs.Reserve.{blanked}
use Rattle.record.specs.Codes.{code_in}
use Rattle.record.specs.Classes.{class_of}
use Rattle.record.specs.Editions.{Meaning, Whole}
use Rattle.manual.specs.Manual.{Line, records, laid, Reading, leaves, first_kind, last_kind, level_after, cores, riders_from, riders_of, Follows}
use Rattle.manual.proofs.Classes as classes
use Rattle.manual.proofs.Classes.{Seen, seen}
use Rattle.manual.proofs.Ridden.{riders_by, riders_seen}
use Rattle.manual.proofs.Roles.{Role, role_of, role}
use Rattle.manual.proofs.Along.{Along, none, core, rider, unknown, named, level_from, Riders, along, along_coded, along_cores, along_riders}
use Rattle.manual.specs.declared.faults.Cause.TheVariants as cause
use Rattle.manual.specs.Riders.{stands_at}
use Rattle.report.specs.Riders.{level_of, Finds}
use Rattle.report.specs.Stands.{with_riders}
use Rattle.report.proofs.Riders.{stands_true, stands_self}
use Rattle.report.proofs.Sorting.{plain_by}
use Rattle.report.specs.Copies.{record_then, plain_records, crlf_lines, copied}
use Rattle.report.proofs.Blanked.{blank_whole, blank_code, blank_kind, blank_class, blank_named, core_class, core_read}

abbrev pub All-whole : List (List ℕ) → Type 0
All-whole rs = AllByRecursion Whole rs

-- Records as lines.

pub lines_whole : (ls : List Line) → All-whole (records ls)
lines_whole [] = tt
lines_whole (l ∷ ls) = (l.is_whole, lines_whole ls)

abbrev pub lines_of : (rs : List (List ℕ)) → All-whole rs → List Line
lines_of [] w = []
lines_of (r ∷ rs) w = record { bytes = r; ending = CrLf; is_whole = w.0 } ∷ lines_of rs w.1

pub lines_laid : (rs : List (List ℕ)) (w : All-whole rs) → crlf_lines rs ≡ laid (lines_of rs w) []
lines_laid [] w = refl
lines_laid (r ∷ rs) w = ap (λ l. r ++ (13 ∷ 10 ∷ l)) (lines_laid rs w.1)

pub lines_records : (rs : List (List ℕ)) (w : All-whole rs) → records (lines_of rs w) ≡ rs
lines_records [] w = refl
lines_records (r ∷ rs) w = ap (λ l. r ∷ l) (lines_records rs w.1)

-- Their copies.

module _ (m : Meaning) where
  -- the first record's copy in front of the others
  pub of_class : (r : List ℕ) (rs : List (List ℕ)) (c : Class) → class_of m r ≡ c → plain_records m (r ∷ rs) ≡ record_then (plain_by c r) (plain_records m rs)
  of_class r rs c e = ap (λ x. record_then (plain_by x r) (plain_records m rs)) e

  kept_whole : (r : List ℕ) (ps : List (List ℕ)) (c : Class) → Whole r → All-whole ps → All-whole (record_then (plain_by c r) ps)
  kept_whole r ps class.BadCode w all = all
  kept_whole r ps (class.Core k read) w all = (blank_whole k r w, all)
  kept_whole r ps (class.Rider x) w all = (w, all)
  kept_whole r ps class.Unknown w all = all

  pub plain_whole : (rs : List (List ℕ)) → All-whole rs → All-whole (plain_records m rs)
  plain_whole [] w = tt
  plain_whole (r ∷ rs) w = kept_whole r (plain_records m rs) (class_of m r) w.0 (plain_whole rs w.1)

  kept_few : (r : List ℕ) (ps : List (List ℕ)) (c : Class) → length (record_then (plain_by c r) ps) ≤ suc (length ps)
  kept_few r ps class.BadCode = omega arith
  kept_few r ps (class.Core k read) = omega arith
  kept_few r ps (class.Rider x) = omega arith
  kept_few r ps class.Unknown = omega arith

  pub plain_few : (rs : List (List ℕ)) → length (plain_records m rs) ≤ length rs
  plain_few [] = omega arith
  plain_few (r ∷ rs) = omega (arith, kept_few r (plain_records m rs) (class_of m r), plain_few rs)

  -- THE SAME ROLES, in the same order: a core record's copy has its role, a rider's its place, and unknown records have none
  pub plain_along : (o : Option Level) (rs : List (List ℕ)) (ls : List Role) → All-whole rs → Along m o rs ls → Along m o (plain_records m rs) ls
  plain_along _ _ _ w (none o) = none o
  plain_along _ _ _ w (core o c k f r rs ls e g u q n a) =
      let ps = plain_records m rs in
      let same : class_of m (blanked k r) ≡ class.Core k (Ok f) = blank_class k r w.0 m g ∙ n in
      let read : read_core k (between 2 (length (blanked k r)) (blanked k r)) ≡ Ok f = core_read m k f (blanked k r) (blank_kind k r w.0 ∙ g) same in
      let on : Along m o (blanked k r ∷ ps) (role_of f (named k (blanked k r)) ∷ ls) =
      core o c k f (blanked k r) ps ls (blank_code k r w.0 ∙ e) (blank_kind k r w.0 ∙ g) u read same (plain_along (level_after k) rs ls w.1 a) in
      subst (λ x. Along m o x (role_of f (named k r) ∷ ls)) (sym (of_class r rs (class.Core k (Ok f)) n))
      (subst (λ t. Along m o (blanked k r ∷ ps) (role_of f t ∷ ls)) (blank_named k r w.0) on)
  plain_along _ _ _ w (rider o c v r rs ls e g k l q n a) =
      subst (λ x. Along m o x ls) (sym (of_class r rs _ n)) (rider o c v r (plain_records m rs) ls e g k l q n (plain_along o rs ls w.1 a))
  plain_along _ _ _ w (unknown o c r rs ls e g u n a) =
      subst (λ x. Along m o x ls) (sym (of_class r rs _ n)) (plain_along o rs ls w.1 a)

  -- the first record is still the start
  pub first_plain : (rs : List (List ℕ)) → All-whole rs → first_kind rs ≡ Some kind.Start → first_kind (plain_records m rs) ≡ Some kind.Start
  first_plain [] w h = h
  first_plain (r ∷ rs) w h =
      ap first_kind (of_class r rs (class.Core kind.Start (read_core kind.Start (between 2 (length r) r))) (core_class m kind.Start r (code_in r) h)) ∙ blank_kind kind.Start r w.0 ∙ h

-- THE SAME RIDERS, each behind as many core records.

module _ (m : Meaning) where
  first_rider : (n : ℕ) (r : List ℕ) (rs : List (List ℕ)) (l : Class) → class_of m r ≡ l → riders_from m n (r ∷ rs) ≡ riders_by l n r (λ j. riders_from m j rs)
  first_rider n r rs l e = riders_seen m n r rs ∙ ap (λ x. riders_by x n r (λ j. riders_from m j rs)) e

  one_rider : (r : List ℕ) (rs : List (List ℕ)) (l : Class) → class_of m r ≡ l → Seen m r l → Whole r → ((n : ℕ) → riders_from m n (plain_records m rs) ≡ riders_from m n rs)
      → (n : ℕ) → riders_from m n (record_then (plain_by l r) (plain_records m rs)) ≡ riders_by l n r (λ j. riders_from m j rs)
  one_rider r rs _ h (classes.bad e) w go n = go n
  one_rider r rs _ h (classes.core c k e g u) w go n =
      first_rider n (blanked k r) (plain_records m rs) (class.Core k (read_core k (between 2 (length r) r))) (blank_class k r w m g ∙ h) ∙ go (suc n)
  one_rider r rs _ h (classes.rider c v e g l) w go n =
      first_rider n r (plain_records m rs) _ h ∙ ap (λ xs. record { behind = n; bytes = r } ∷ xs) (go n)
  one_rider r rs _ h (classes.unknown c e g u) w go n = go n

  pub plain_riders : (rs : List (List ℕ)) → All-whole rs → (n : ℕ) → riders_from m n (plain_records m rs) ≡ riders_from m n rs
  plain_riders [] w n = refl
  plain_riders (r ∷ rs) w n = one_rider r rs (class_of m r) refl (seen m r) w.0 (plain_riders rs w.1) n ∙ sym (riders_seen m n r rs)

-- THE SAME READING.
level-none : (l : Option Kind) → level_from None l ≡ and_then l level_after
level-none None = refl
level-none (Some k) = refl

-- where an edition finds no rider wrong, each stands where its level says and is well formed
riders_right : (m : Meaning) (rs : List (List ℕ)) → (Finds m rs → ⊥) → Riders m None rs
riders_right m rs clean before behind x c v q code k = by (stands_at (level_of before) v) (m.formed c x) refl refl
  where
    by : (a f : Bool) → stands_at (level_of before) v ≡ a → m.formed c x ≡ f → (level_from None (last_kind before) ≡ Some v) × (m.formed c x ≡ true)
    by false f p h = absurd (clean (record {
      before = before;
      line = x;
      behind = behind;
      lies = q;
      knows = record { code = c; coded = code; level = v; known = k };
      cause = cause.RiderLevel;
      wrong = inl ((λ s. false≢true (sym p ∙ ap (λ y. stands_at y v) s ∙ stands_self v)), refl);
    }))
    by true false p h = absurd (clean (record {
      before = before;
      line = x;
      behind = behind;
      lies = q;
      knows = record { code = c; coded = code; level = v; known = k };
      cause = cause.RiderIllFormed;
      wrong = inr (stands_true (level_of before) v p, h, refl);
    }))
    by true true p h = (level-none (last_kind before) ∙ stands_true (level_of before) v p, h)

pub follows : (m taken : Meaning) (file : List ℕ) (r : Reading) → (f : Follows taken file r) → (Finds m (records f.lines) → ⊥) → Follows m (copied m (records f.lines)) (with_riders r.tree (riders_of m (records f.lines)))
follows m taken file r f clean =
    let rs : List (List ℕ) = records f.lines in
    let whole = lines_whole f.lines in
    let goes : Along m None rs (map role (leaves r.tree)) = along m rs None (leaves r.tree) f.reads.coded f.reads.read (riders_right m rs clean) in
    let ps : List (List ℕ) = plain_records m rs in
    let kept = plain_whole m rs whole in
    let on : Along m None ps (map role (leaves r.tree)) = plain_along m None rs (map role (leaves r.tree)) whole goes in
    let is : records (lines_of ps kept) ≡ ps = lines_records ps kept in
    let stand = along_riders m None ps (map role (leaves r.tree)) on in
    record {
      lines = lines_of ps kept;
      whole = lines_laid ps kept;
      reads = record {
        few = omega (arith, f.reads.few, plain_few m rs, ap length is);
        coded = subst (λ (x : List (List ℕ)). AllByRecursion (λ y. is_some (code_in y) ≡ true) x) (sym is) (along_coded m None ps (map role (leaves r.tree)) on);
        starts = ap first_kind is ∙ first_plain m rs whole f.reads.starts;
        read = ap cores is ∙ along_cores m None ps (map role (leaves r.tree)) on ∙ sym (along_cores m None rs (map role (leaves r.tree)) goes) ∙ f.reads.read;
        some_section = f.reads.some_section;
        each_section = f.reads.each_section;
        counted = f.reads.counted;
        riders = λ before behind x c v q code k.
            let h = stand before behind x c v (sym is ∙ q) code k in
            record { level = sym (level-none (last_kind before)) ∙ h.0; formed = h.1 };
      };
      ridden = ap (riders_of m) is ∙ plain_riders m rs whole 0;
    }
