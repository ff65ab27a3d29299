-- Records one after another, with their roles: every code is two digits, every layout is kept, every rider is in its place.
use Rattle.std.proofs.Common.{◌≡◌, ℕ, true, List, [], ◌∷◌, ◌++◌, map, length, is_some, Some, None, Ok, Err, Option, Result, sym, refl, ap, ◌∙◌, subst, arith}
use Rattle.std.specs.List.{between, AllByRecursion}
use Rattle.std.proofs.lemmas.Bool.{false≢true}
use Rattle.field.specs.Chains.{then}
use Rattle.record.specs.declared.kinds.Kind.{Kind}
use Rattle.record.specs.declared.fields.Core.{Core}
use Rattle.record.specs.declared.editions.Level.{Level}
use Rattle.record.specs.declared.classes.Class.{Class}
use Rattle.record.specs.declared.classes.Class.TheVariants as class
use Rattle.record.specs.Layouts.{read_core}
use Rattle.record.specs.Reserve.{used}
use Rattle.record.specs.Codes.{code_in}
use Rattle.record.specs.Classes.{class_of}
use Rattle.record.specs.Editions.{Meaning}
use Rattle.record.specs.Laws.{kind_at}
use Rattle.manual.specs.Manual.{Read, leaf, read_by, core_then, cores, last_of, last_kind, level_after}
use Rattle.manual.proofs.Roles.{Role, role_of, role, leaf_of}
use Rattle.manual.proofs.Unique.{leaf_role}
use Rattle.manual.proofs.Classes as classes
use Rattle.manual.proofs.Classes.{Seen, seen}

-- the positions of a record that its layout names behind the code
abbrev pub named : Kind → List ℕ → List ℕ
named k r = between 2 (used k) r

-- the records rs at a place of level o, and the roles of the core records among them
pub data Along (m : Meaning) : Option Level → List (List ℕ) → List Role → Type 0 where
  none : (o : Option Level) → Along m o [] []
  core : (o : Option Level) (c : ℕ) (k : Kind) (f : Core) (r : List ℕ) (rs : List (List ℕ)) (ls : List Role)
      → code_in r ≡ Some c → kind_at r ≡ Some k → m.level c ≡ None → read_core k (between 2 (length r) r) ≡ Ok f → class_of m r ≡ class.Core k (Ok f)
      → Along m (level_after k) rs ls → Along m o (r ∷ rs) (role_of f (named k r) ∷ ls)
  rider : (o : Option Level) (c : ℕ) (v : Level) (r : List ℕ) (rs : List (List ℕ)) (ls : List Role)
      → code_in r ≡ Some c → kind_at r ≡ None → m.level c ≡ Some v → o ≡ Some v → m.formed c r ≡ true
      → class_of m r ≡ class.Rider (record { code = c; level = v; formed = m.formed c r })
      → Along m o rs ls → Along m o (r ∷ rs) ls
  unknown : (o : Option Level) (c : ℕ) (r : List ℕ) (rs : List (List ℕ)) (ls : List Role)
      → code_in r ≡ Some c → kind_at r ≡ None → m.level c ≡ None → class_of m r ≡ class.Unknown
      → Along m o rs ls → Along m o (r ∷ rs) ls

abbrev pub Coded : List (List ℕ) → Type 0
Coded rs = AllByRecursion (λ r. is_some (code_in r) ≡ true) rs

-- the level of a place, by the last core record if there is one
abbrev pub level_from : Option Level → Option Kind → Option Level
level_from o None = o
level_from o (Some k) = level_after k

-- each rider stands where its level says and is well formed
abbrev pub Riders : Meaning → Option Level → List (List ℕ) → Type 0
Riders m o rs =
    (before behind : List (List ℕ)) (x : List ℕ) (c : ℕ) (v : Level) → rs ≡ before ++ x ∷ behind → code_in x ≡ Some c → m.level c ≡ Some v
    → (level_from o (last_kind before) ≡ Some v) × (m.formed c x ≡ true)

level_on : (o : Option Level) (k l : Option Kind) → level_from o (last_of k l) ≡ level_from (level_from o k) l
level_on o k None = refl
level_on o k (Some j) = refl

module _ (m : Meaning) (o : Option Level) (r : List ℕ) (rs : List (List ℕ)) where
  -- a record in front of riders that are right, and back
  riders_cons : ((c : ℕ) (v : Level) → code_in r ≡ Some c → m.level c ≡ Some v → (o ≡ Some v) × (m.formed c r ≡ true)) → Riders m (level_from o (kind_at r)) rs → Riders m o (r ∷ rs)
  riders_cons here go [] behind x c v e code k =
      let same : r ≡ x = cc in
      let h = here c v (ap code_in same ∙ code) k in
      (h.0, subst (λ y. m.formed c y ≡ true) same h.1)
  riders_cons here go (b ∷ bs) behind x c v e code k =
      let same : r ≡ b = cc in
      let rest : rs ≡ bs ++ x ∷ behind = cc in
      let h = go bs behind x c v rest code k in
      (level_on o (kind_at b) (last_kind bs) ∙ ap (λ y. level_from (level_from o (kind_at y)) (last_kind bs)) (sym same) ∙ h.0, h.1)

  riders-tail : Riders m o (r ∷ rs) → Riders m (level_from o (kind_at r)) rs
  riders-tail h before behind x c v e code k =
      let g = h (r ∷ before) behind x c v (ap (λ l. r ∷ l) e) code k in
      (sym (level_on o (kind_at r) (last_kind before)) ∙ g.0, g.1)

riders-none : (m : Meaning) (o : Option Level) → Riders m o []
riders-none m o [] behind x c v e code k = let z : ◌≡◌ {A = ℕ} 0 1 = cc in absurd (omega arith)
riders-none m o (b ∷ bs) behind x c v e code k = let z : ◌≡◌ {A = ℕ} 0 1 = cc in absurd (omega arith)

-- a core record, or an unknown one, is no rider
not_known : (m : Meaning) (r : List ℕ) (c d : ℕ) (v : Level) → code_in r ≡ Some c → m.level c ≡ None → code_in r ≡ Some d → m.level d ≡ Some v → ⊥
not_known m r c d v e u f k =
    let same : c ≡ d = let g : Some c ≡ Some d = sym e ∙ f in cc in
    let g : None ≡ Some v = sym u ∙ ap m.level same ∙ k in let z : ◌≡◌ {A = ℕ} 0 1 = cc in absurd (omega arith)

-- From records with their roles to the rules.

pub along_coded : (m : Meaning) (o : Option Level) (rs : List (List ℕ)) (ls : List Role) → Along m o rs ls → Coded rs
along_coded m _ _ _ (none o) = tt
along_coded m _ _ _ (core o c k f r rs ls e g u q w a) = (ap is_some e, along_coded m _ rs ls a)
along_coded m _ _ _ (rider o c v r rs ls e g k l q w a) = (ap is_some e, along_coded m _ rs ls a)
along_coded m _ _ _ (unknown o c r rs ls e g u w a) = (ap is_some e, along_coded m _ rs ls a)

pub along_cores : (m : Meaning) (o : Option Level) (rs : List (List ℕ)) (ls : List Role) → Along m o rs ls → cores rs ≡ map Ok (map leaf_of ls)
along_cores m _ _ _ (none o) = refl
along_cores m _ _ _ (core o c k f r rs ls e g u q w a) =
    ap (λ y. core_then y r (cores rs)) g
    ∙ (λ i. then (q i) (λ c. Ok (leaf c (named k r))) ∷ along_cores m _ rs ls a i)
    ∙ ap (λ (l : Read Core). Ok l ∷ map Ok (map leaf_of ls)) (sym (leaf_role (leaf f (named k r))))
along_cores m _ _ _ (rider o c v r rs ls e g k l q w a) = ap (λ y. core_then y r (cores rs)) g ∙ along_cores m _ rs ls a
along_cores m _ _ _ (unknown o c r rs ls e g u w a) = ap (λ y. core_then y r (cores rs)) g ∙ along_cores m _ rs ls a

pub along_riders : (m : Meaning) (o : Option Level) (rs : List (List ℕ)) (ls : List Role) → Along m o rs ls → Riders m o rs
along_riders m _ _ _ (none o) = riders-none m o
along_riders m _ _ _ (core o c k f r rs ls e g u q w a) =
    riders_cons m o r rs (λ d y h j. absurd (not_known m r c d y e u h j)) (subst (λ y. Riders m (level_from o y) rs) (sym g) (along_riders m _ rs ls a))
along_riders m _ _ _ (rider o c v r rs ls e g k l q w a) =
    riders_cons m o r rs
    (λ d y h j. let same : c ≡ d = let p : Some c ≡ Some d = sym e ∙ h in cc in (l ∙ sym k ∙ ap m.level same ∙ j, subst (λ x. m.formed x r ≡ true) same q))
    (subst (λ y. Riders m (level_from o y) rs) (sym g) (along_riders m _ rs ls a))
along_riders m _ _ _ (unknown o c r rs ls e g u w a) =
    riders_cons m o r rs (λ d y h j. absurd (not_known m r c d y e u h j)) (subst (λ y. Riders m (level_from o y) rs) (sym g) (along_riders m _ rs ls a))

-- And back.

then_ok : {A B E : Type 0} (o : Result A E) (go : A → Result B E) (y : B) → then o go ≡ Ok y → (x : A) × (o ≡ Ok x) × (go x ≡ Ok y)
then_ok (Ok x) go y h = (x, refl, h)
then_ok (Err e) go y h = let z : ◌≡◌ {A = ℕ} 0 1 = cc in absurd (omega arith)

module _ (m : Meaning) (o : Option Level) (r : List ℕ) (rs : List (List ℕ)) where
  along_core : (c : ℕ) (k : Kind) (xs : List (Read Core)) → code_in r ≡ Some c → kind_at r ≡ Some k → m.level c ≡ None → class_of m r ≡ class.Core k (read_core k (between 2 (length r) r))
      → ((ys : List (Read Core)) → cores rs ≡ map Ok ys → Along m (level_after k) rs (map role ys)) → read_by k r ∷ cores rs ≡ map Ok xs → Along m o (r ∷ rs) (map role xs)
  along_core c k [] e g u w go h = let z : ◌≡◌ {A = ℕ} 0 1 = cc in absurd (omega arith)
  along_core c k (x ∷ xs) e g u w go h =
      let first : read_by k r ≡ Ok x = cc in
      let rest : cores rs ≡ map Ok xs = cc in
      let by = then_ok (read_core k (between 2 (length r) r)) (λ f. Ok (leaf f (named k r))) x first in
      let same : leaf by.0 (named k r) ≡ x = let q = by.2 in cc in
      subst (λ y. Along m o (r ∷ rs) (role y ∷ map role xs)) same (core o c k by.0 r rs (map role xs) e g u by.1 (w ∙ ap (class.Core k) by.1) (go xs rest))

  along_by : (l : Class) (xs : List (Read Core)) → class_of m r ≡ l → Seen m r l → is_some (code_in r) ≡ true → cores (r ∷ rs) ≡ map Ok xs → Riders m o (r ∷ rs)
      → ((ys : List (Read Core)) → cores rs ≡ map Ok ys → Along m (level_from o (kind_at r)) rs (map role ys)) → Along m o (r ∷ rs) (map role xs)
  along_by _ xs w (classes.bad e) h q s go = absurd (false≢true (sym (ap is_some e) ∙ h))
  along_by _ xs w (classes.core c k e g u) h q s go =
      along_core c k xs e g u w (λ ys p. subst (λ y. Along m (level_from o y) rs (map role ys)) g (go ys p)) (sym (ap (λ y. core_then y r (cores rs)) g) ∙ q)
  along_by _ xs w (classes.rider c v e g k) h q s go =
      let here = s [] rs r c v refl e k in
      rider o c v r rs (map role xs) e g k here.0 here.1 w (subst (λ y. Along m (level_from o y) rs (map role xs)) g (go xs (sym (ap (λ y. core_then y r (cores rs)) g) ∙ q)))
  along_by _ xs w (classes.unknown c e g u) h q s go =
      unknown o c r rs (map role xs) e g u w (subst (λ y. Along m (level_from o y) rs (map role xs)) g (go xs (sym (ap (λ y. core_then y r (cores rs)) g) ∙ q)))

none_read : (m : Meaning) (o : Option Level) (xs : List (Read Core)) → cores [] ≡ map Ok xs → Along m o [] (map role xs)
none_read m o [] h = none o
none_read m o (x ∷ xs) h = let z : ◌≡◌ {A = ℕ} 0 1 = cc in absurd (omega arith)

pub along : (m : Meaning) (rs : List (List ℕ)) (o : Option Level) (xs : List (Read Core)) → Coded rs → cores rs ≡ map Ok xs → Riders m o rs → Along m o rs (map role xs)
along m [] o xs c q s = none_read m o xs q
along m (r ∷ rs) o xs c q s = along_by m o r rs (class_of m r) xs refl (seen m r) c.0 q s (λ ys p. along m rs (level_from o (kind_at r)) ys c.1 p (riders-tail m o r rs s))
