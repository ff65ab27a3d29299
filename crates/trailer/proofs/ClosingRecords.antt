-- A closing record that is written is right and says its entries, and one that is right and says them was written from them.
use Rattle.std.proofs.Common.{◌≡◌, ℕ, ◌+◌, ◌^◌, ◌<◌, true, eqb, List, ◌++◌, length, take, refl, ap, subst, arith}
use Rattle.std.proofs.lemmas.Bool.{and_parts, and_from, eq-eqb, eqb-true}
use Rattle.std.proofs.lemmas.List.Folds.{list_all-append}
use Rattle.std.specs.List.{between}
use Rattle.field.specs.Bytes.{is_digit, every}
use Rattle.trailer.specs.Digits.{value_of, is_zero, digits_of, check_of}
use Rattle.trailer.specs.Trailers.{closing_front, closing_of, is_checked, right_closing, closing_says}
use Rattle.trailer.proofs.Numbers.{value-back, every-digit, zeros-value}
use Rattle.trailer.proofs.Checked.{checked_parts, checked-front, one_field, rechecked, field_small}

-- What is written, by computation on the 80 digits.

record Places (k n : ℕ) (r : List ℕ) : Type 0 where
  long : length r ≡ 80
  code : between 0 2 r ≡ digits_of 98 2
  entries : between 2 10 r ≡ digits_of k 8
  last : between 10 18 r ≡ digits_of n 8
  zeros : every is_zero (between 18 78 r) ≡ true
  front : between 0 78 r ≡ closing_front k n
  check : between 78 80 r ≡ digits_of (check_of (closing_front k n)) 2

places : (k n : ℕ) → Places k n (closing_of k n)
unfolding digits_of closing_of
places k n = record { long = refl; code = refl; entries = refl; last = refl; zeros = refl; front = refl; check = refl }

module _ (entries last : ℕ) where
  pub length_closing : length (closing_of entries last) ≡ 80
  length_closing = (places entries last).long

  every_front : every is_digit (closing_front entries last) ≡ true
  every_front = simp (list_all-append, every-digit)

  checked_closing : is_checked 98 (closing_of entries last) ≡ true
  unfolding closing_of
  checked_closing =
      let p = places entries last in
      checked-front 98 (closing_front entries last) (omega arith) every_front p.code p.front p.check

  pub closing_back : entries < 10 ^ 8 → last < 10 ^ 8 → (right_closing (closing_of entries last) (last + 1) ≡ true) × (closing_says (closing_of entries last) entries ≡ true)
  unfolding right_closing closing_says
  closing_back few near =
      let p = places entries last in (
        and_from _ _ checked_closing (eq-eqb _ _ (ap (λ n. n + 1) (value-back last 8 p.last near))),
        and_from _ _ (eq-eqb _ _ (value-back entries 8 p.entries few)) p.zeros,
      )

-- What is right.

-- field by field from the front
closing_again : (r : List ℕ) (entries last : ℕ) → length r ≡ 80 → is_checked 98 r ≡ true → value_of (between 2 10 r) ≡ entries → value_of (between 10 18 r) ≡ last → every is_zero (between 18 78 r) ≡ true
    → r ≡ closing_of entries last
unfolding closing_of
closing_again r entries last long h k n z =
    let p = checked_parts 98 r h in
    let all = p.digits in
    let e1 : take 2 r ≡ digits_of (value_of (between 0 2 r)) 2 = one_field r 0 2 all (omega arith) (omega arith) in
    let e2 : take 10 r ≡ take 2 r ++ digits_of (value_of (between 2 10 r)) 8 = one_field r 2 10 all (omega arith) (omega arith) in
    let e3 : take 18 r ≡ take 10 r ++ digits_of (value_of (between 10 18 r)) 8 = one_field r 10 18 all (omega arith) (omega arith) in
    let e4 : take 78 r ≡ take 18 r ++ digits_of (value_of (between 18 78 r)) 60 = one_field r 18 78 all (omega arith) (omega arith) in
    let c1 = ap (λ n. digits_of n 2) p.code in
    let c2 = ap (λ n. digits_of n 8) k in
    let c3 = ap (λ n. digits_of n 8) n in
    let c4 = ap (λ n. digits_of n 60) (zeros-value (between 18 78 r) z) in
    rechecked 98 r (closing_front entries last) p long cc

pub closing_only : (r : List ℕ) (entries last : ℕ) → length r ≡ 80 → right_closing r (last + 1) ≡ true → closing_says r entries ≡ true → (r ≡ closing_of entries last) × (entries < 10 ^ 8) × (last < 10 ^ 8)
unfolding right_closing closing_says
closing_only r entries last long right says =
    let b = and_parts (is_checked 98 r) (eqb (value_of (between 10 18 r) + 1) (last + 1)) right in
    let q = and_parts (eqb (value_of (between 2 10 r)) entries) (every is_zero (between 18 78 r)) says in
    let k = eqb-true (value_of (between 2 10 r)) entries q.0 in
    let next = eqb-true (value_of (between 10 18 r) + 1) (last + 1) b.1 in
    let n : value_of (between 10 18 r) ≡ last = omega arith in (
      closing_again r entries last long b.0 k n q.1,
      subst (λ m. m < 10 ^ 8) k (field_small r 2 10 long (omega arith)),
      subst (λ m. m < 10 ^ 8) n (field_small r 10 18 long (omega arith)),
    )
