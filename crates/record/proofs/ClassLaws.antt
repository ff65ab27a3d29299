-- The laws of specs/Laws.
use Rattle.std.proofs.Common.{◌≡◌, ℕ, ◌+◌, ◌-◌, ◌<◌, ◌≤◌, Bool, true, List, length, get_or, take, drop, set, Some, None, Option, sym, refl, ap, ◌∙◌, arith}
use Rattle.std.specs.List.{between}
use Rattle.std.proofs.lemmas.List.{get_or-take, drop-take, take-take, take-set-le}
use Rattle.field.specs.Bytes.{is_text}
use Rattle.field.specs.Chains.{and_then}
use Rattle.record.specs.declared.kinds.Kind.{Kind}
use Rattle.record.specs.declared.editions.Level.{Level}
use Rattle.record.specs.declared.classes.Class.TheVariants.{Core, Unknown}
use Rattle.record.specs.Kinds.{kind_of}
use Rattle.record.specs.Layouts.{read_core}
use Rattle.record.specs.Reserve.{used, Refilled}
use Rattle.record.specs.Editions.{Meaning, Whole, Extends, known}
use Rattle.record.specs.Codes.{code_at, code_in}
use Rattle.record.specs.Classes.{class_of, class_by, class_in, outside, by_level}
use Rattle.record.specs.Laws.{kind_at, ClassLaws}
use Rattle.record.proofs.Fronts.{front}
use Rattle.record.proofs.Refilling.{whole_set, kept, names_code, blanking}

-- the 78 bytes behind the code
abbrev behind : List ℕ → List ℕ
behind line = between 2 (length line) line

-- a record of a core code has that kind's class
core_class : (m : Meaning) (k : Kind) (line : List ℕ) (o : Option ℕ) → and_then o kind_of ≡ Some k → class_in m o line ≡ Core k (read_core k (behind line))
core_class m k line None e = let z : ◌≡◌ {A = ℕ} 0 1 = cc in absurd (omega arith)
core_class m k line (Some c) e = ap (λ x. class_by m c x line) e

-- what the layout names of the bytes behind the code, by what it names of the record
named : (n : ℕ) (line : List ℕ) → 2 ≤ n → n ≤ 80 → length line ≡ 80 → take (n - 2) (behind line) ≡ drop 2 (take n line)
named n line low high long =
    let e : 2 + (n - 2) ≡ n = omega arith in
    take-take (n - 2) (length line - 2) (drop 2 line) (omega arith) ∙ sym (drop-take 2 (n - 2) line) ∙ ap (λ j. drop 2 (take j line)) e

module _ (k : Kind) (line other : List ℕ) (agree : take (used k) line ≡ take (used k) other) where
  byte : (i : ℕ) → i < 2 → get_or other i 0 ≡ get_or line i 0
  byte i h =
      let within : i < used k = omega (arith, (names_code k).0) in
      sym (get_or-take (used k) other i 0 within) ∙ ap (λ l. get_or l i 0) (sym agree) ∙ get_or-take (used k) line i 0 within

  one_code : code_in other ≡ code_in line
  one_code = ap (λ b. code_at b (get_or other 1 0)) (byte 0 (omega arith)) ∙ ap (λ b. code_at (get_or line 0 0) b) (byte 1 (omega arith))

  fields : length line ≡ 80 → length other ≡ 80 → read_core k (behind other) ≡ read_core k (behind line)
  fields p q =
      let n = names_code k in
      sym (front k (behind other)) ∙ ap (read_core k) (named (used k) other n.0 n.1 q ∙ ap (drop 2) (sym agree) ∙ sym (named (used k) line n.0 n.1 p)) ∙ front k (behind line)

  pub determined : (m : Meaning) → length line ≡ 80 → length other ≡ 80 → kind_at line ≡ Some k → class_of m other ≡ class_of m line
  determined m p q e =
      core_class m k other (code_in other) (ap (λ o. and_then o kind_of) one_code ∙ e) ∙ ap (Core k) (fields p q) ∙ sym (core_class m k line (code_in line) e)

reserve : (m : Meaning) (k : Kind) (line : List ℕ) → Whole line → kind_at line ≡ Some k → (i b : ℕ) → used k ≤ i → i < 80 → is_text b ≡ true → Whole (set line i b) × (class_of m (set line i b) ≡ class_of m line)
reserve m k line w e i b past within t =
    let after = whole_set line i b w t in
    (after, determined k line (set line i b) (sym (take-set-le (used k) line i b past)) m w.0 after.0 e)

refilled : (m : Meaning) (k : Kind) (line after : List ℕ) → Whole line → kind_at line ≡ Some k → Refilled k line after → Whole after × (class_of m after ≡ class_of m line)
refilled m k line after w e run =
    let on = kept k line after w run in
    (on.0, determined k line after (sym on.1) m w.0 on.0.0 e)

-- an unknown record is one whose code has no core kind and no level
by_level_same : (l : Option Level) (c : ℕ) (f g : Bool) → by_level l c f ≡ Unknown → by_level l c g ≡ Unknown
by_level_same None c f g e = refl
by_level_same (Some l) c f g e = let z : ◌≡◌ {A = ℕ} 0 1 = cc in absurd (omega arith)

by_kind_same : (m : Meaning) (c : ℕ) (o : Option Kind) (line other : List ℕ) → class_by m c o line ≡ Unknown → class_by m c o other ≡ Unknown
by_kind_same m c None line other e = by_level_same (m.level c) c (m.formed c line) (m.formed c other) e
by_kind_same m c (Some k) line other e = let z : ◌≡◌ {A = ℕ} 0 1 = cc in absurd (omega arith)

by_code_same : (m : Meaning) (o : Option ℕ) (line other : List ℕ) → class_in m o line ≡ Unknown → class_in m o other ≡ Unknown
by_code_same m None line other e = let z : ◌≡◌ {A = ℕ} 0 1 = cc in absurd (omega arith)
by_code_same m (Some c) line other e = by_kind_same m c (kind_of c) line other e

unknown : (m : Meaning) (line other : List ℕ) → class_of m line ≡ Unknown → code_in other ≡ code_in line → class_of m other ≡ Unknown
unknown m line other e c = ap (λ o. class_in m o other) c ∙ by_code_same m (code_in line) line other e

by_kind_extends : (more less : Meaning) (c : ℕ) (o : Option Kind) (line : List ℕ) → outside more c line ≡ outside less c line → class_by more c o line ≡ class_by less c o line
by_kind_extends more less c None line e = e
by_kind_extends more less c (Some k) line e = refl

extends : (more less : Meaning) → Extends more less → (c : ℕ) → known (less.level c) ≡ true → (line : List ℕ) → Whole line → code_in line ≡ Some c → class_of more line ≡ class_of less line
extends more less x c h line w e =
    let alike = x c line h w e in
    let out : outside more c line ≡ outside less c line = ap (λ l. by_level l c (more.formed c line)) alike.0 ∙ ap (by_level (less.level c) c) alike.1 in
    ap (λ o. class_in more o line) e ∙ by_kind_extends more less c (kind_of c) line out ∙ sym (ap (λ o. class_in less o line) e)

pub laws : ClassLaws
laws = record {
  determined = λ m k line other p q e agree. determined k line other agree m p q e;
  reserve = reserve;
  refilled = refilled;
  blanks = blanking;
  unknown = unknown;
  extends = extends;
}
