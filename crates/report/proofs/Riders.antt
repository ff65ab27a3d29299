-- The first wrong rider is found exactly where there is one.
use Rattle.std.proofs.Common.{◌≡◌, ℕ, suc, ◌+◌, Bool, true, false, cond, ◌⊎◌, List, [], ◌∷◌, ◌++◌, length, Some, None, Option, ◌≢◌, sym, refl, ap, ◌∙◌, subst, inl, inr, arith}
use Rattle.std.proofs.lemmas.Bool.{false≢true}
use Rattle.field.specs.Chains.{and_then}
use Rattle.record.specs.declared.kinds.Kind.{Kind}
use Rattle.record.specs.declared.editions.Level.{Level}
use Rattle.record.specs.declared.editions.Level.TheVariants as level
use Rattle.record.specs.declared.classes.Class.{Class}
use Rattle.record.specs.Kinds.{kind_of}
use Rattle.record.specs.Codes.{code_in}
use Rattle.record.specs.Classes.{class_of}
use Rattle.record.specs.Editions.{Meaning}
use Rattle.record.specs.Laws.{kind_at}
use Rattle.manual.specs.declared.faults.Cause.{Cause}
use Rattle.manual.specs.declared.faults.Cause.TheVariants as cause
use Rattle.manual.specs.declared.faults.FileFault.{FileFault}
use Rattle.manual.specs.Manual.{last_of, last_kind, level_after}
use Rattle.manual.proofs.Along.{level_from}
use Rattle.manual.proofs.Classes as classes
use Rattle.manual.proofs.Classes.{Seen, seen}
use Rattle.manual.specs.Riders.{stands_at}
use Rattle.manual.specs.Wrong.{Rides}
use Rattle.report.specs.Faults.{fault_or, fault_from, first_fault}
use Rattle.report.specs.Riders.{Finds, FindsFirst}
use Rattle.report.proofs.Sorting.{cause_of, level_past}

-- Levels.

pub stands_true : (o : Option Level) (v : Level) → stands_at o v ≡ true → o ≡ Some v
stands_true None v h = absurd (false≢true h)
stands_true (Some level.File) level.File h = refl
stands_true (Some level.File) level.Section h = absurd (false≢true h)
stands_true (Some level.File) level.Item h = absurd (false≢true h)
stands_true (Some level.Section) level.File h = absurd (false≢true h)
stands_true (Some level.Section) level.Section h = refl
stands_true (Some level.Section) level.Item h = absurd (false≢true h)
stands_true (Some level.Item) level.File h = absurd (false≢true h)
stands_true (Some level.Item) level.Section h = absurd (false≢true h)
stands_true (Some level.Item) level.Item h = refl

pub stands_self : (v : Level) → stands_at (Some v) v ≡ true
stands_self level.File = refl
stands_self level.Section = refl
stands_self level.Item = refl

level_on : (o : Option Level) (k l : Option Kind) → level_from o (last_of k l) ≡ level_from (level_from o k) l
level_on o k None = refl
level_on o k (Some j) = refl

level_none : (l : Option Kind) → level_from None l ≡ and_then l level_after
level_none None = refl
level_none (Some k) = refl

none_some : {A : Type 0} {x : A} → ◌≡◌ {A = Option A} None (Some x) → ⊥
none_some h = let z : ◌≡◌ {A = ℕ} 0 1 = cc in omega arith

some_same : {A : Type 0} {x y : A} → ◌≡◌ {A = Option A} (Some x) (Some y) → x ≡ y
some_same h = cc

behind-is : (m : Meaning) (o : Option Level) (r : List ℕ) (l : Class) → Seen m r l → level_past o l ≡ level_from o (kind_at r)
behind-is m o r _ (classes.bad e) = sym (ap (λ x. level_from o (and_then x kind_of)) e)
behind-is m o r _ (classes.core c k e g u) = sym (ap (level_from o) g)
behind-is m o r _ (classes.rider c v e g k) = sym (ap (level_from o) g)
behind-is m o r _ (classes.unknown c e g u) = sym (ap (level_from o) g)

-- One record.

-- wrong at a place of level o
abbrev WrongAt : (m : Meaning) → Option Level → (x : List ℕ) → Rides m x → Cause → Type 0
WrongAt m o x k c =
    ((o ≢ Some k.level) × (c ≡ cause.RiderLevel)) ⊎ ((o ≡ Some k.level) × (m.formed k.code x ≡ false) × (c ≡ cause.RiderIllFormed))

module _ (m : Meaning) (o : Option Level) (r : List ℕ) where
  -- a rider's cause, by its two tests
  rider_none : (v : Level) (c : ℕ) (a f : Bool) → stands_at o v ≡ a → m.formed c r ≡ f → cond a (cond f None (Some cause.RiderIllFormed)) (Some cause.RiderLevel) ≡ None → (o ≡ Some v) × (m.formed c r ≡ true)
  rider_none v c true true p q h = (stands_true o v p, q)
  rider_none v c true false p q h = absurd (none_some (sym h))
  rider_none v c false f p q h = absurd (none_some (sym h))

  rider_some : (v : Level) (c : ℕ) (e : code_in r ≡ Some c) (l : m.level c ≡ Some v) (x : Cause) (a f : Bool) → stands_at o v ≡ a → m.formed c r ≡ f → cond a (cond f None (Some cause.RiderIllFormed)) (Some cause.RiderLevel) ≡ Some x
      → WrongAt m o r (record { code = c; coded = e; level = v; known = l }) x
  rider_some v c e l x true true p q h = absurd (none_some h)
  rider_some v c e l x true false p q h = inr (stands_true o v p, q, sym (some_same h))
  rider_some v c e l x false f p q h = inl ((λ s. false≢true (sym p ∙ ap (λ y. stands_at y v) s ∙ stands_self v)), sym (some_same h))

  -- an edition knows a record that is seen as a rider, and no other
  not_known : (c : ℕ) → code_in r ≡ Some c → m.level c ≡ None → Rides m r → ⊥
  not_known c e u k =
      let same : c ≡ k.code = some_same (sym e ∙ k.coded) in
      none_some (sym u ∙ ap m.level same ∙ k.known)

  here_none : (l : Class) → Seen m r l → cause_of o l ≡ None → (k : Rides m r) (c : Cause) → WrongAt m o r k c → ⊥
  here_none _ (classes.bad e) h k c w = none_some (sym e ∙ k.coded)
  here_none _ (classes.core d j e g u) h k c w = not_known d e u k
  here_none _ (classes.unknown d e g u) h k c w = not_known d e u k
  here_none _ (classes.rider d v e g l) h k c w =
      let both = rider_none v d (stands_at o v) (m.formed d r) refl refl h in
      let code : d ≡ k.code = some_same (sym e ∙ k.coded) in
      let same : v ≡ k.level = some_same (sym l ∙ ap m.level code ∙ k.known) in
      by both code same w
    where
      by : (o ≡ Some v) × (m.formed d r ≡ true) → d ≡ k.code → v ≡ k.level → WrongAt m o r k c → ⊥
      by both code same (inl (n, q)) = n (both.0 ∙ ap Some same)
      by both code same (inr (y, f, q)) = false≢true (sym f ∙ sym (ap (λ x. m.formed x r) code) ∙ both.1)

  here_some : (l : Class) → Seen m r l → (c : Cause) → cause_of o l ≡ Some c → (k : Rides m r) × WrongAt m o r k c
  here_some _ (classes.bad e) c h = absurd (none_some h)
  here_some _ (classes.core d j e g u) c h = absurd (none_some h)
  here_some _ (classes.unknown d e g u) c h = absurd (none_some h)
  here_some _ (classes.rider d v e g l) c h =
      (record { code = d; coded = e; level = v; known = l }, rider_some v d e l c (stands_at o v) (m.formed d r) refl refl h)

-- Records in a row, from a place of level o.

record FoundAt (m : Meaning) (o : Option Level) (n : ℕ) (rs : List (List ℕ)) (f : FileFault) : Type 0 where
  before : List (List ℕ)
  line : List ℕ
  behind : List (List ℕ)
  lies : rs ≡ before ++ line ∷ behind
  knows : Rides m line
  wrong : WrongAt m (level_from o (last_kind before)) line knows f.cause
  number : f.number ≡ n + length before
  clean : fault_from m o n before ≡ None

module _ (m : Meaning) where
  found_on : (o : Option Level) (n : ℕ) (r : List ℕ) (rs : List (List ℕ)) (f : FileFault) (q : Option Cause) → cause_of o (class_of m r) ≡ q
      → ((g : FileFault) → fault_from m (level_past o (class_of m r)) (suc n) rs ≡ Some g → FoundAt m (level_past o (class_of m r)) (suc n) rs g)
      → fault_or n q (fault_from m (level_past o (class_of m r)) (suc n) rs) ≡ Some f → FoundAt m o n (r ∷ rs) f
  found_on o n r rs f (Some c) e go h =
      let same : record { number = n; cause = c } ≡ f = some_same h in
      let w = here_some m o r (class_of m r) (seen m r) c e in
      subst (FoundAt m o n (r ∷ rs)) same (record {
        before = [];
        line = r;
        behind = rs;
        lies = refl;
        knows = w.0;
        wrong = w.1;
        number = omega arith;
        clean = refl;
      })
  found_on o n r rs f None e go h =
      let g = go f h in
      let at : level_from (level_past o (class_of m r)) (last_kind g.before) ≡ level_from o (last_kind (r ∷ g.before)) =
      ap (λ x. level_from x (last_kind g.before)) (behind-is m o r (class_of m r) (seen m r)) ∙ sym (level_on o (kind_at r) (last_kind g.before)) in
      record {
        before = r ∷ g.before;
        line = g.line;
        behind = g.behind;
        lies = ap (λ l. r ∷ l) g.lies;
        knows = g.knows;
        wrong = subst (λ x. WrongAt m x g.line g.knows f.cause) at g.wrong;
        number = omega (arith, g.number);
        clean = ap (λ x. fault_or n x (fault_from m (level_past o (class_of m r)) (suc n) g.before)) e ∙ g.clean;
      }

  found : (o : Option Level) (n : ℕ) (rs : List (List ℕ)) (f : FileFault) → fault_from m o n rs ≡ Some f → FoundAt m o n rs f
  found o n [] f h = absurd (none_some h)
  found o n (r ∷ rs) f h = found_on o n r rs f (cause_of o (class_of m r)) refl (found (level_past o (class_of m r)) (suc n) rs) h

  -- what is none at the front is none at the first record and none behind it
  split : (n : ℕ) (q : Option Cause) (next : Option FileFault) → fault_or n q next ≡ None → (q ≡ None) × (next ≡ None)
  split n None next h = (refl, h)
  split n (Some c) next h = absurd (none_some (sym h))

  clean_none : (o : Option Level) (n : ℕ) (rs : List (List ℕ)) → fault_from m o n rs ≡ None → (before : List (List ℕ)) (x : List ℕ) (behind : List (List ℕ)) → rs ≡ before ++ x ∷ behind
      → (k : Rides m x) (c : Cause) → WrongAt m (level_from o (last_kind before)) x k c → ⊥
  clean_none o n [] h [] x behind e k c w = let z : ◌≡◌ {A = ℕ} 0 1 = cc in absurd (omega arith)
  clean_none o n [] h (b ∷ bs) x behind e k c w = let z : ◌≡◌ {A = ℕ} 0 1 = cc in absurd (omega arith)
  clean_none o n (r ∷ rs) h [] x behind e k c w =
      let same : x ≡ r = cc in
      here_at x same k w
    where
      here_at : (y : List ℕ) → y ≡ r → (j : Rides m y) → WrongAt m o y j c → ⊥
      here_at y same = subst (λ (z : List ℕ). (j : Rides m z) → WrongAt m o z j c → ⊥) (sym same)
          (λ j v. here_none m o r (class_of m r) (seen m r) (split n (cause_of o (class_of m r)) (fault_from m (level_past o (class_of m r)) (suc n) rs) h).0 j c v)
  clean_none o n (r ∷ rs) h (b ∷ bs) x behind e k c w =
      let same : r ≡ b = cc in
      let rest : rs ≡ bs ++ x ∷ behind = cc in
      let at : level_from o (last_kind (b ∷ bs)) ≡ level_from (level_past o (class_of m r)) (last_kind bs) =
      ap (λ y. level_from o (last_kind (y ∷ bs))) (sym same) ∙ level_on o (kind_at r) (last_kind bs) ∙ ap (λ y. level_from y (last_kind bs)) (sym (behind-is m o r (class_of m r) (seen m r))) in
      clean_none (level_past o (class_of m r)) (suc n) rs (split n (cause_of o (class_of m r)) (fault_from m (level_past o (class_of m r)) (suc n) rs) h).1 bs x behind rest k c
      (subst (λ y. WrongAt m y x k c) at w)

  -- THE WORDS OF THE RULES, and back.

  pub none_found : (rs : List (List ℕ)) → first_fault m rs ≡ None → Finds m rs → ⊥
  none_found rs h f =
      clean_none None 1 rs h f.before f.line f.behind f.lies f.knows f.cause
      (subst (λ y. WrongAt m y f.line f.knows f.cause) (sym (level_none (last_kind f.before))) f.wrong)

  pub first_found : (rs : List (List ℕ)) (f : FileFault) → first_fault m rs ≡ Some f → FindsFirst m rs f
  first_found rs f h =
      let g = found None 1 rs f h in
      record {
        found = record {
          before = g.before;
          line = g.line;
          behind = g.behind;
          lies = g.lies;
          knows = g.knows;
          cause = f.cause;
          wrong = subst (λ y. WrongAt m y g.line g.knows f.cause) (level_none (last_kind g.before)) g.wrong;
        };
        number = omega (arith, g.number);
        cause = refl;
        first = none_found g.before g.clean;
      }
