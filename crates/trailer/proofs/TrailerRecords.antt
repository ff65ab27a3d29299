-- A trailer that is written is read back, and one that is read was written.
use Rattle.std.proofs.Common.{◌≡◌, ℕ, ◌+◌, true, ◌&&◌, List, ◌++◌, length, take, Some, None, sym, refl, ap, ◌∙◌, subst, arith}
use Rattle.std.proofs.lemmas.Bool.{and_parts, and_from, cond-true, eq-eqb, eqb-true}
use Rattle.std.proofs.lemmas.List.Folds.{list_all-append}
use Rattle.std.proofs.lemmas.Option.{cond_some}
use Rattle.std.specs.List.{between}
use Rattle.field.specs.Bytes.{is_digit, every}
use Rattle.trailer.specs.declared.layout.Trailer.{Trailer}
use Rattle.trailer.specs.Digits.{value_of, digits_of, check_of}
use Rattle.trailer.specs.Trailers.{trailer_front, trailer_of, is_checked, fields_of, is_placed, read_trailer}
use Rattle.trailer.specs.Laws.{Small}
use Rattle.trailer.proofs.Numbers.{value-back, every-digit}
use Rattle.trailer.proofs.Checked.{checked_parts, checked-front, one_field, rechecked, field_small}

-- What is written, by computation on the 80 digits.

record Places (t : Trailer) (r : List ℕ) : Type 0 where
  long : length r ≡ 80
  code : between 0 2 r ≡ digits_of 99 2
  records : between 2 10 r ≡ digits_of t.records 8
  entry : between 10 18 r ≡ digits_of t.entry 8
  previous : between 18 26 r ≡ digits_of t.previous 8
  payments : between 26 34 r ≡ digits_of t.totals.payments 8
  deductions : between 34 42 r ≡ digits_of t.totals.deductions 8
  sek : between 42 60 r ≡ digits_of t.totals.sek 18
  eur : between 60 78 r ≡ digits_of t.totals.eur 18
  front : between 0 78 r ≡ trailer_front t
  check : between 78 80 r ≡ digits_of (check_of (trailer_front t)) 2

places : (t : Trailer) → Places t (trailer_of t)
unfolding digits_of trailer_of
places t = record { long = refl; code = refl; records = refl; entry = refl; previous = refl; payments = refl; deductions = refl; sek = refl; eur = refl; front = refl; check = refl }

pub length_trailer : (t : Trailer) → length (trailer_of t) ≡ 80
length_trailer t = (places t).long

-- a trailer is its fields
same-trailer : (t : Trailer) (r e p n d x y : ℕ) → r ≡ t.records → e ≡ t.entry → p ≡ t.previous → n ≡ t.totals.payments → d ≡ t.totals.deductions → x ≡ t.totals.sek → y ≡ t.totals.eur
    → t ≡ record { records = r; entry = e; previous = p; totals = record { payments = n; deductions = d; sek = x; eur = y } }
same-trailer t r e p n d x y e1 e2 e3 e4 e5 e6 e7 = rw (e1, e2, e3, e4, e5, e6, e7)

-- a checked record in its place is read as its fields, whichever trailer these are known to be
read_right : (r : List ℕ) (own : ℕ) (t : Trailer) → is_checked 99 r ≡ true → t ≡ fields_of r → t.previous + t.records + 1 ≡ own → read_trailer r own ≡ Some t
unfolding read_trailer
read_right r own t h e p =
    let place : is_placed (fields_of r) own ≡ true = eq-eqb _ _ (ap (λ (u : Trailer). u.previous + u.records + 1) (sym e) ∙ p) in
    cond-true (is_checked 99 r && is_placed (fields_of r) own) (Some (fields_of r)) None (and_from _ _ h place) ∙ ap Some (sym e)

module _ (t : Trailer) where
  every_front : every is_digit (trailer_front t) ≡ true
  every_front = simp (list_all-append, every-digit)

  checked-trailer : is_checked 99 (trailer_of t) ≡ true
  unfolding trailer_of
  checked-trailer =
      let p = places t in
      checked-front 99 (trailer_front t) (omega arith) every_front p.code p.front p.check

  same-fields : Small t → t ≡ fields_of (trailer_of t)
  same-fields s =
      let p = places t in
      let f = s.totals in
      same-trailer t _ _ _ _ _ _ _
      (value-back t.records 8 p.records s.records)
      (value-back t.entry 8 p.entry s.entry)
      (value-back t.previous 8 p.previous s.previous)
      (value-back t.totals.payments 8 p.payments f.payments)
      (value-back t.totals.deductions 8 p.deductions f.deductions)
      (value-back t.totals.sek 18 p.sek f.sek)
      (value-back t.totals.eur 18 p.eur f.eur)

  pub back : (own : ℕ) → Small t → t.previous + t.records + 1 ≡ own → read_trailer (trailer_of t) own ≡ Some t
  back own s p = read_right (trailer_of t) own t checked-trailer (same-fields s) p

-- What is read.

-- field by field from the front
trailer_again : (r : List ℕ) → is_checked 99 r ≡ true → length r ≡ 80 → r ≡ trailer_of (fields_of r)
unfolding trailer_of
trailer_again r h long =
    let p = checked_parts 99 r h in
    let all = p.digits in
    let e1 : take 2 r ≡ digits_of (value_of (between 0 2 r)) 2 = one_field r 0 2 all (omega arith) (omega arith) in
    let e2 : take 10 r ≡ take 2 r ++ digits_of (value_of (between 2 10 r)) 8 = one_field r 2 10 all (omega arith) (omega arith) in
    let e3 : take 18 r ≡ take 10 r ++ digits_of (value_of (between 10 18 r)) 8 = one_field r 10 18 all (omega arith) (omega arith) in
    let e4 : take 26 r ≡ take 18 r ++ digits_of (value_of (between 18 26 r)) 8 = one_field r 18 26 all (omega arith) (omega arith) in
    let e5 : take 34 r ≡ take 26 r ++ digits_of (value_of (between 26 34 r)) 8 = one_field r 26 34 all (omega arith) (omega arith) in
    let e6 : take 42 r ≡ take 34 r ++ digits_of (value_of (between 34 42 r)) 8 = one_field r 34 42 all (omega arith) (omega arith) in
    let e7 : take 60 r ≡ take 42 r ++ digits_of (value_of (between 42 60 r)) 18 = one_field r 42 60 all (omega arith) (omega arith) in
    let e8 : take 78 r ≡ take 60 r ++ digits_of (value_of (between 60 78 r)) 18 = one_field r 60 78 all (omega arith) (omega arith) in
    let c = ap (λ n. digits_of n 2) p.code in
    rechecked 99 r (trailer_front (fields_of r)) p long cc

small_fields : (r : List ℕ) → length r ≡ 80 → Small (fields_of r)
small_fields r long = record {
  records = field_small r 2 10 long (omega arith);
  entry = field_small r 10 18 long (omega arith);
  previous = field_small r 18 26 long (omega arith);
  totals = record {
    payments = field_small r 26 34 long (omega arith);
    deductions = field_small r 34 42 long (omega arith);
    sek = field_small r 42 60 long (omega arith);
    eur = field_small r 60 78 long (omega arith);
  };
}

pub only : (r : List ℕ) (own : ℕ) (t : Trailer) → length r ≡ 80 → read_trailer r own ≡ Some t → (r ≡ trailer_of t) × Small t × (t.previous + t.records + 1 ≡ own)
unfolding read_trailer
only r own t long e =
    let c = cond_some (is_checked 99 r && is_placed (fields_of r) own) (fields_of r) t e in
    let b = and_parts (is_checked 99 r) (is_placed (fields_of r) own) c.0 in
    subst (λ t. (r ≡ trailer_of t) × Small t × (t.previous + t.records + 1 ≡ own)) c.1 (trailer_again r b.0 long, small_fields r long, eqb-true _ _ b.1)
