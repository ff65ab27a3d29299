-- Setting reserve positions: what it leaves, and that blanking all of them is a run of such changes.
use Rattle.std.proofs.Common.{◌≡◌, ℕ, zero, suc, ◌+◌, ◌-◌, ◌≤◌, Bool, true, List, [], ◌∷◌, ◌++◌, length, take, set, replicate, sym, refl, ap, ◌∙◌, subst, append_assoc, append-nil, add-zero, add-one, arith, lit≤, length-set}
use Rattle.std.proofs.lemmas.List.{take-set-le, take_more_set, take_all, replicate_more}
use Rattle.std.proofs.lemmas.Bool.{and_parts, and_from}
use Rattle.field.specs.Bytes.{is_text, every}
use Rattle.record.specs.declared.kinds.Kind.{Kind}
use Rattle.record.specs.declared.kinds.Kind.TheVariants.{Start, Opening, Deposit, Payment, Deduction, ExtraReference, NegativeReference, Information, Name, AddressOne, AddressTwo, CompanyNumber, End}
use Rattle.record.specs.Reserve.{used, Refilled, same, refill, blanked}
use Rattle.record.specs.Editions.{Whole}

-- a test of every byte survives setting one that passes it
pub every_set : (p : ℕ → Bool) (xs : List ℕ) (i b : ℕ) → every p xs ≡ true → p b ≡ true → every p (set xs i b) ≡ true
every_set p [] i b h t = refl
every_set p (x ∷ xs) zero b h t = and_from (p b) (every p xs) t (and_parts (p x) (every p xs) h).1
every_set p (x ∷ xs) (suc i) b h t =
    and_from (p x) (every p (set xs i b)) (and_parts (p x) (every p xs) h).0 (every_set p xs i b (and_parts (p x) (every p xs) h).1 t)

pub whole_set : (line : List ℕ) (i b : ℕ) → Whole line → is_text b ≡ true → Whole (set line i b)
whole_set line i b w t = (length-set line i b ∙ w.0, every_set is_text line i b w.1 t)

-- what a run of such changes leaves
pub kept : (k : Kind) (line after : List ℕ) → Whole line → Refilled k line after → Whole after × (take (used k) after ≡ take (used k) line)
kept k line after w same = (w, refl)
kept k line after w (refill before i b run past within t) =
    let on = kept k line before w run in
    (whole_set before i b on.0 t, take-set-le (used k) before i b past ∙ on.1)

-- a layout names its code and at most all 80 positions
pub names_code : (k : Kind) → (2 ≤ used k) × (used k ≤ 80)
names_code Start = (lit≤ tt, lit≤ tt)
names_code Opening = (lit≤ tt, lit≤ tt)
names_code Deposit = (lit≤ tt, lit≤ tt)
names_code Payment = (lit≤ tt, lit≤ tt)
names_code Deduction = (lit≤ tt, lit≤ tt)
names_code ExtraReference = (lit≤ tt, lit≤ tt)
names_code NegativeReference = (lit≤ tt, lit≤ tt)
names_code Information = (lit≤ tt, lit≤ tt)
names_code Name = (lit≤ tt, lit≤ tt)
names_code AddressOne = (lit≤ tt, lit≤ tt)
names_code AddressTwo = (lit≤ tt, lit≤ tt)
names_code CompanyNumber = (lit≤ tt, lit≤ tt)
names_code End = (lit≤ tt, lit≤ tt)

module _ (k : Kind) (line : List ℕ) (w : Whole line) where
  -- the first j reserve positions blank
  abbrev fill : ℕ → List ℕ
  fill zero = line
  fill (suc j) = set (fill j) (used k + j) 32

  filled : (j : ℕ) → used k + j ≤ 80 → Refilled k line (fill j)
  filled zero h = same
  filled (suc j) h = refill (fill j) (used k + j) 32 (filled j (omega arith)) (omega arith) (omega arith) refl

  long : (j : ℕ) → length (fill j) ≡ 80
  long zero = w.0
  long (suc j) = length-set (fill j) (used k + j) 32 ∙ long j

  lies : (j : ℕ) → used k + j ≤ 80 → take (used k + j) (fill j) ≡ take (used k) line ++ replicate j 32
  lies zero h = rw (add-zero, append-nil)
  lies (suc j) h =
      let u = used k in
      let one : u + suc j ≡ (u + j) + 1 = omega arith in
      ap (λ n. take n (set (fill j) (u + j) 32)) one ∙ take_more_set (fill j) (u + j) 32 (omega (arith, long j)) ∙ ap (λ l. l ++ 32 ∷ []) (lies j (omega arith)) ∙ append_assoc (take u line) (replicate j 32) (32 ∷ []) ∙ ap (λ l. take u line ++ l) (replicate_more j 32 ∙ ap (λ n. replicate n 32) (add-one j))

  pub blanking : Refilled k line (blanked k line)
  blanking =
      let u = used k in
      let all : u + (80 - u) ≡ 80 = omega (arith, (names_code k).1) in
      let whole : fill (80 - u) ≡ blanked k line = sym (take_all 80 (fill (80 - u)) (omega (arith, long (80 - u)))) ∙ ap (λ n. take n (fill (80 - u))) (sym all) ∙ lies (80 - u) (omega arith) in
      subst (Refilled k line) whole (filled (80 - u) (omega arith))
