-- A core record's fields are read from the positions that its layout names.
use Rattle.std.proofs.Common.{◌≡◌, ℕ, ◌+◌, ◌-◌, ◌≤◌, T, ltb, leb, List, get_or, take, drop, Ok, Option, sym, ap, ◌∙◌, le_trans, lt_of_lt_of_le, arith, lit<, lit≤}
use Rattle.std.specs.List.{between}
use Rattle.std.proofs.lemmas.List.{get_or-take, drop-take, take-take}
use Rattle.field.specs.declared.references.ReferenceForm.{ReferenceForm}
use Rattle.field.specs.Chains.{then}
use Rattle.field.specs.References.{reference_of, extra_of}
use Rattle.record.specs.declared.kinds.Kind.{Kind}
use Rattle.record.specs.declared.kinds.Kind.TheVariants as kind
use Rattle.record.specs.declared.fields.Core.TheVariants as core
use Rattle.record.specs.declared.fields.Field.TheVariants as field
use Rattle.record.specs.Reserve.{used}
use Rattle.record.specs.Layouts.{must, deduction_code, transfer_of, read_payment, read_extra, read_core}

-- a part of the front is that part of the whole
part : (n : ℕ) (xs : List ℕ) (a b : ℕ) → a ≤ b → b ≤ n → between a b (take n xs) ≡ between a b xs
part n xs a b h k =
    let e : a + (n - a) ≡ n = omega arith in
    let d : drop a (take n xs) ≡ take (n - a) (drop a xs) = ap (λ j. drop a (take j xs)) (sym e) ∙ drop-take a (n - a) xs in
    ap (take (b - a)) d ∙ take-take (b - a) (n - a) (drop a xs) (omega arith)

-- the same at numerals, which the checker compares itself
module _ (n : ℕ) (xs : List ℕ) where
  from_to : (a b : ℕ) → T (leb a b) → T (leb b n) → between a b (take n xs) ≡ between a b xs
  from_to a b h k = part n xs a b (lit≤ h) (lit≤ k)

  at : (i : ℕ) → T (ltb i n) → get_or (take n xs) i 0 ≡ get_or xs i 0
  at i h = get_or-take n xs i 0 (lit< h)

-- payments and all that are read as they are, from a front of n or more
module _ (n : ℕ) (h : 68 ≤ n) (xs : List ℕ) where
  within : (a b : ℕ) → T (leb a b) → T (leb b 68) → between a b (take n xs) ≡ between a b xs
  within a b p q = part n xs a b (lit≤ p) (le_trans (lit≤ q) h)

  single : (i : ℕ) → T (ltb i 68) → get_or (take n xs) i 0 ≡ get_or xs i 0
  single i p = get_or-take n xs i 0 (lt_of_lt_of_le (lit< p) h)

  transfer : (form : Option ReferenceForm) → transfer_of form (take n xs) ≡ transfer_of form xs
  transfer form = simp (within 0 10 tt tt, within 35 53 tt tt, within 55 67 tt tt, single 54 tt, single 67 tt)

  payment : read_payment (take n xs) ≡ read_payment xs
  payment = ap (λ f. transfer_of f (take n xs)) (ap (λ p. reference_of (get_or (take n xs) 53 0) p) (within 10 35 tt tt) ∙ ap (λ b. reference_of b (between 10 35 xs)) (single 53 tt)) ∙ transfer (reference_of (get_or xs 53 0) (between 10 35 xs))

  extra : read_extra (take n xs) ≡ read_extra xs
  extra = ap (λ f. transfer_of f (take n xs)) (ap (λ p. extra_of (get_or (take n xs) 53 0) p) (within 10 35 tt tt) ∙ ap (λ b. extra_of b (between 10 35 xs)) (single 53 tt)) ∙ transfer (extra_of (get_or xs 53 0) (between 10 35 xs))

-- the fields of a kind are those of the front that its layout names
pub front : (k : Kind) (rest : List ℕ) → read_core k (take (used k - 2) rest) ≡ read_core k rest
front kind.Start rest = simp (from_to 43 rest 0 20 tt tt, from_to 43 rest 20 22 tt tt, from_to 43 rest 22 42 tt tt, at 43 rest 42 tt)
front kind.Opening rest = simp (from_to 23 rest 0 10 tt tt, from_to 23 rest 10 20 tt tt, from_to 23 rest 20 23 tt tt)
front kind.Deposit rest = simp (from_to 78 rest 0 35 tt tt, from_to 78 rest 35 43 tt tt, from_to 78 rest 43 48 tt tt, from_to 78 rest 48 66 tt tt, from_to 78 rest 66 69 tt tt, from_to 78 rest 69 77 tt tt, at 78 rest 77 tt)
front kind.Payment rest = ap (λ r. then r (λ x. Ok (core.Payment x))) (payment 68 (lit≤ tt) rest)
front kind.Deduction rest =
    ap (λ r. then r (λ x. Ok (core.Deduction x)))
    (ap (λ r. then r (λ fields. then (must (deduction_code (get_or (take 69 rest) 68 0)) field.DeductionCode) (λ _. Ok fields))) (payment 69 (lit≤ tt) rest)
    ∙ ap (λ b. then (read_payment rest) (λ fields. then (must (deduction_code b) field.DeductionCode) (λ _. Ok fields))) (at 69 rest 68 tt))
front kind.ExtraReference rest = ap (λ r. then r (λ x. Ok (core.ExtraReference x))) (extra 68 (lit≤ tt) rest)
front kind.NegativeReference rest = ap (λ r. then r (λ x. Ok (core.NegativeReference x))) (extra 68 (lit≤ tt) rest)
front kind.Information rest = simp (from_to 50 rest 0 50 tt tt)
front kind.Name rest = simp (from_to 70 rest 0 70 tt tt)
front kind.AddressOne rest = simp (from_to 44 rest 0 44 tt tt)
front kind.AddressTwo rest = simp (from_to 72 rest 0 72 tt tt)
front kind.CompanyNumber rest = simp (from_to 12 rest 0 12 tt tt)
front kind.End rest = simp (from_to 32 rest 0 8 tt tt, from_to 32 rest 8 16 tt tt, from_to 32 rest 16 24 tt tt, from_to 32 rest 24 32 tt tt)
