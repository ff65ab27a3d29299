-- One record and its copy: the copy is a whole record of the same class, and its own copy.
use Rattle.std.proofs.Common.{◌≡◌, ℕ, ◌+◌, ◌-◌, ◌<◌, List, ◌++◌, length, get_or, take, drop, replicate, Some, None, Ok, Option, sym, ap, ◌∙◌, arith}
use Rattle.std.specs.List.{between}
use Rattle.std.proofs.lemmas.List.{get_or-take, drop-take, drop_at, length-take-le}
use Rattle.field.specs.Chains.{and_then}
use Rattle.record.specs.declared.kinds.Kind.{Kind}
use Rattle.record.specs.declared.fields.Core.{Core}
use Rattle.record.specs.declared.classes.Class.TheVariants as class
use Rattle.record.specs.Kinds.{kind_of}
use Rattle.record.specs.Layouts.{read_core}
use Rattle.record.specs.Reserve.{used, blanked}
use Rattle.record.specs.Codes.{code_at, code_in}
use Rattle.record.specs.Classes.{class_by, class_in, class_of}
use Rattle.record.specs.Editions.{Meaning, Whole}
use Rattle.record.specs.Laws.{kind_at}
use Rattle.record.proofs.ClassLaws.{laws}
use Rattle.record.proofs.Refilling.{kept, names_code, blanking}

module _ (k : Kind) (r : List ℕ) (w : Whole r) where
  keeps : Whole (blanked k r) × (take (used k) (blanked k r) ≡ take (used k) r)
  keeps = kept k r (blanked k r) w (blanking k r w)

  pub blank_whole : Whole (blanked k r)
  blank_whole = keeps.0

  byte : (i : ℕ) → i < 2 → get_or (blanked k r) i 0 ≡ get_or r i 0
  byte i h =
      let within : i < used k = omega (arith, (names_code k).0) in
      sym (get_or-take (used k) (blanked k r) i 0 within) ∙ ap (λ l. get_or l i 0) keeps.1 ∙ get_or-take (used k) r i 0 within

  pub blank_code : code_in (blanked k r) ≡ code_in r
  blank_code = ap (λ b. code_at b (get_or (blanked k r) 1 0)) (byte 0 (omega arith)) ∙ ap (λ b. code_at (get_or r 0 0) b) (byte 1 (omega arith))

  pub blank_kind : kind_at (blanked k r) ≡ kind_at r
  blank_kind = ap (λ o. and_then o kind_of) blank_code

  pub blank_class : (m : Meaning) → kind_at r ≡ Some k → class_of m (blanked k r) ≡ class_of m r
  blank_class m g = (laws.refilled m k r (blanked k r) w g (blanking k r w)).1

  -- the positions that the layout names behind the code
  pub blank_named : between 2 (used k) (blanked k r) ≡ between 2 (used k) r
  blank_named =
      let e : 2 + (used k - 2) ≡ used k = omega (arith, (names_code k).0) in
      sym (drop-take 2 (used k - 2) (blanked k r)) ∙ ap (λ j. drop 2 (take j (blanked k r))) e ∙ ap (drop 2) keeps.1
      ∙ sym (ap (λ j. drop 2 (take j r)) e) ∙ drop-take 2 (used k - 2) r

  long : length (take (used k) r) ≡ used k
  long = length-take-le (used k) r (omega (arith, w.0, (names_code k).1))

  -- what stands behind them is blank
  pub blank_rest : drop (used k) (blanked k r) ≡ replicate (80 - used k) 32
  blank_rest = drop_at (take (used k) r) (replicate (80 - used k) 32) (used k) long

  -- and a record that is blank there is its own copy
  pub blank_again : blanked k (blanked k r) ≡ blanked k r
  blank_again = ap (λ l. l ++ replicate (80 - used k) 32) keeps.1

-- A record of a core code has that kind's class.
pub core_class : (m : Meaning) (k : Kind) (r : List ℕ) (o : Option ℕ) → and_then o kind_of ≡ Some k → class_in m o r ≡ class.Core k (read_core k (between 2 (length r) r))
core_class m k r None e = let z : ◌≡◌ {A = ℕ} 0 1 = cc in absurd (omega arith)
core_class m k r (Some c) e = ap (λ x. class_by m c x r) e

-- so its class says how its layout reads
pub core_read : (m : Meaning) (k : Kind) (f : Core) (r : List ℕ) → kind_at r ≡ Some k → class_of m r ≡ class.Core k (Ok f) → read_core k (between 2 (length r) r) ≡ Ok f
core_read m k f r g n =
    let same : class.Core k (read_core k (between 2 (length r) r)) ≡ class.Core k (Ok f) = sym (core_class m k r (code_in r) g) ∙ n in
    cc
