-- 80 digits with a code and check digits, whichever of the two records they are.
use Rattle.std.proofs.Common.{◌≡◌, ℕ, ◌-◌, ◌^◌, ◌<◌, ◌≤◌, true, eqb, List, ◌++◌, length, take, drop, sym, ap, ◌∙◌, arith}
use Rattle.std.proofs.lemmas.List.{take_all, take-append-drop, take-take}
use Rattle.std.proofs.lemmas.List.Folds.{list_all-append}
use Rattle.std.proofs.lemmas.Slice.{between_is}
use Rattle.std.proofs.lemmas.List.Edits.{length-between}
use Rattle.std.proofs.lemmas.Bool.{and_parts, and_from, eq-eqb, eqb-true}
use Rattle.std.specs.List.{between}
use Rattle.field.specs.Bytes.{is_digit, every}
use Rattle.trailer.specs.Digits.{value_of, digits_of, check_of}
use Rattle.trailer.specs.Trailers.{checked, is_checked}
use Rattle.trailer.proofs.Numbers.{value-back, value_small, every-digit, digits_value}

pub record Checked (k : ℕ) (r : List ℕ) : Type 0 where
  pub digits : every is_digit r ≡ true
  pub code : value_of (between 0 2 r) ≡ k
  pub check : value_of (between 78 80 r) ≡ check_of (between 0 78 r)

pub checked_parts : (code : ℕ) (r : List ℕ) → is_checked code r ≡ true → Checked code r
checked_parts code r h =
    let p = and_parts (every is_digit r) _ h in
    let q = and_parts (eqb (value_of (between 0 2 r)) code) (eqb (value_of (between 78 80 r)) (check_of (between 0 78 r))) p.1 in
    record { digits = p.0; code = eqb-true _ _ q.0; check = eqb-true _ _ q.1 }

-- a front that is written with its check digits is checked
pub checked-front : (code : ℕ) (front : List ℕ) → code < 10 ^ 2 → every is_digit front ≡ true → between 0 2 (checked front) ≡ digits_of code 2
    → between 0 78 (checked front) ≡ front → between 78 80 (checked front) ≡ digits_of (check_of front) 2 → is_checked code (checked front) ≡ true
checked-front code front small all first most last =
    let check : value_of (between 78 80 (checked front)) ≡ check_of (between 0 78 (checked front)) = value-back (check_of front) 2 last (omega arith) ∙ ap check_of (sym most) in
    let digits : every is_digit (checked front) ≡ true = list_all-append is_digit front _ ∙ and_from _ _ all (every-digit (check_of front) 2) in
    and_from _ _ digits (and_from _ _ (eq-eqb _ _ (value-back code 2 first small)) (eq-eqb _ _ check))

-- whichever bytes of a record are taken, they are digits if all are
every_parts : (n : ℕ) (r : List ℕ) → every is_digit r ≡ true → (every is_digit (take n r) ≡ true) × (every is_digit (drop n r) ≡ true)
every_parts n r h =
    and_parts (every is_digit (take n r)) (every is_digit (drop n r)) (sym (list_all-append is_digit (take n r) (drop n r)) ∙ ap (every is_digit) (take-append-drop n r) ∙ h)

-- one field more behind those before it
pub one_field : (r : List ℕ) (a b : ℕ) → every is_digit r ≡ true → a ≤ b → b ≤ length r → take b r ≡ take a r ++ digits_of (value_of (between a b r)) (b - a)
one_field r a b h le inside =
    let d = digits_value (b - a) (between a b r) (length-between r a b inside) (every_parts (b - a) (drop a r) (every_parts a r h).1).0 in
    sym (take-append-drop a (take b r)) ∙ ap (λ l. l ++ drop a (take b r)) (take-take a b r le) ∙ ap (λ l. take a r ++ l) (sym (between_is r a b) ∙ sym d)

-- a checked record is its front with the check digits of that
pub rechecked : (code : ℕ) (r front : List ℕ) → Checked code r → length r ≡ 80 → take 78 r ≡ front → r ≡ checked front
rechecked code r front s long e =
    let last : take 80 r ≡ take 78 r ++ digits_of (value_of (between 78 80 r)) 2 = one_field r 78 80 s.digits (omega arith) (omega arith) in
    sym (take_all 80 r (omega arith)) ∙ last ∙ ap (λ n. take 78 r ++ digits_of n 2) s.check ∙ ap checked e

-- what stands in a part of a record fits as many digits
pub field_small : (r : List ℕ) (a b : ℕ) → length r ≡ 80 → b ≤ 80 → value_of (between a b r) < 10 ^ (b - a)
field_small r a b long le = value_small (between a b r) (b - a) (length-between r a b (omega arith))
