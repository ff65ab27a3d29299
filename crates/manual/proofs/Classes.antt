-- What the class of a record says of the record.
use Rattle.std.proofs.Common.{◌≡◌, ℕ, Bool, true, false, cond, eqb, List, length, Some, None, Option, sym, refl, ap, ◌∙◌, arith}
use Rattle.std.specs.List.{between}
use Rattle.std.proofs.lemmas.Bool.{eqb-true}
use Rattle.field.specs.Chains.{and_then}
use Rattle.record.specs.declared.kinds.Kind.{Kind}
use Rattle.record.specs.declared.kinds.Kind.TheVariants as kind
use Rattle.record.specs.declared.editions.Level.{Level}
use Rattle.record.specs.declared.classes.Class.{Class}
use Rattle.record.specs.declared.classes.Class.TheVariants as class
use Rattle.record.specs.Kinds.{code_of, kind_of}
use Rattle.record.specs.Layouts.{read_core}
use Rattle.record.specs.Codes.{code_in}
use Rattle.record.specs.Classes.{by_level, class_by, class_in, class_of}
use Rattle.record.specs.Editions.{Meaning}
use Rattle.record.specs.Laws.{kind_at}

-- what a record of a class is
pub data Seen (m : Meaning) (r : List ℕ) : Class → Type 0 where
  bad : code_in r ≡ None → Seen m r class.BadCode
  core : (c : ℕ) (k : Kind) → code_in r ≡ Some c → kind_at r ≡ Some k → m.level c ≡ None → Seen m r (class.Core k (read_core k (between 2 (length r) r)))
  rider : (c : ℕ) (v : Level) → code_in r ≡ Some c → kind_at r ≡ None → m.level c ≡ Some v → Seen m r (class.Rider (record { code = c; level = v; formed = m.formed c r }))
  unknown : (c : ℕ) → code_in r ≡ Some c → kind_at r ≡ None → m.level c ≡ None → Seen m r class.Unknown

-- a kind that is found by a code has that code
module _ (c : ℕ) (k : Kind) where
  by : (b : Bool) (j : Kind) (rest : Option Kind) → eqb c (code_of j) ≡ b → (rest ≡ Some k → code_of k ≡ c) → cond b (Some j) rest ≡ Some k → code_of k ≡ c
  by true j rest h go e = let q : j ≡ k = cc in sym (eqb-true c (code_of j) h ∙ ap code_of q)
  by false j rest h go e = go e

  or_else : (j : Kind) (rest : Option Kind) → (rest ≡ Some k → code_of k ≡ c) → cond (eqb c (code_of j)) (Some j) rest ≡ Some k → code_of k ≡ c
  or_else j rest go e = by (eqb c (code_of j)) j rest refl go e

  code_kind : kind_of c ≡ Some k → code_of k ≡ c
  code_kind =
      or_else kind.Start _ (or_else kind.Opening _ (or_else kind.Deposit _ (or_else kind.Payment _ (or_else kind.Deduction _ (or_else kind.ExtraReference _
      (or_else kind.NegativeReference _ (or_else kind.Information _ (or_else kind.Name _ (or_else kind.AddressOne _ (or_else kind.AddressTwo _
      (or_else kind.CompanyNumber _ (or_else kind.End None (λ e. let z : ◌≡◌ {A = ℕ} 0 1 = cc in absurd (omega arith))))))))))))))

module _ (m : Meaning) (r : List ℕ) (c : ℕ) (e : code_in r ≡ Some c) where
  seen_level : (l : Option Level) → m.level c ≡ l → kind_at r ≡ None → Seen m r (by_level l c (m.formed c r))
  seen_level None h n = unknown c e n h
  seen_level (Some v) h n = rider c v e n h

  seen_kind : (o : Option Kind) → kind_of c ≡ o → Seen m r (class_by m c o r)
  seen_kind None h = seen_level (m.level c) refl (ap (λ o. and_then o kind_of) e ∙ h)
  seen_kind (Some k) h = core c k e (ap (λ o. and_then o kind_of) e ∙ h) (ap m.level (sym (code_kind c k h)) ∙ m.core k)

seen_code : (m : Meaning) (r : List ℕ) (o : Option ℕ) → code_in r ≡ o → Seen m r (class_in m o r)
seen_code m r None h = bad h
seen_code m r (Some c) h = seen_kind m r c h (kind_of c) refl

pub seen : (m : Meaning) (r : List ℕ) → Seen m r (class_of m r)
seen m r = seen_code m r (code_in r) refl
